-- The head comparison, over the times of what is ahead.
--
-- head_earlier: the first head is strictly earlier than the second. chosen_times: the times of what is ahead of the history that steps
-- most_emissions: at most so many emissions
-- goes_on a b s: of histories of a and b edits, another turn is made at s: the emissions are not too many yet, and an edit is ahead
use Rattle.std.specs.Prelude.{ℕ, ◌+◌, Bool, true, false, cond, ◌&&◌, List, [], ◌∷◌, leb, ltb}
use Rattle.emissions.specs.declared.head.Stand.{Stand}

unfoldable pub head_earlier : List ℕ → List ℕ → Bool
head_earlier [] ts = false
head_earlier (s ∷ ss) [] = true
head_earlier (s ∷ ss) (t ∷ ts) = ltb s t

unfoldable pub chosen_times : List ℕ → List ℕ → List ℕ
chosen_times ss ts = cond (head_earlier ss ts) ss ts

abbrev pub most_emissions : ℕ
most_emissions = 4096

unfoldable pub goes_on : ℕ → ℕ → Stand → Bool
goes_on a b s = leb s.count most_emissions && ltb (s.first.at + s.second.at) (a + b)
