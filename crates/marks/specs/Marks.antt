-- "Crossings counts the rounds in which at least one key crossed": a mark for each round of a window, 1 where some key crossed in it so far.
--
-- marked_at c j ms: a mark for round j, if c. marked cs ms: a mark at the place of each true one of cs. marked_all: the same of many lists
-- count_of: how many are marked
-- span_from m f es: the longest of the segments that end at es, the first of them from f on, or m if that is more. Steps f es: these ends ascend, in
-- steps of at most 1,024
use Rattle.std.specs.Prelude.{ℕ, ◌-◌, ◌≤◌, Bool, cond, List, [], ◌∷◌, eqb, ltb, length, set}
use Rattle.grid.specs.Lists.{keep}
use Rattle.rules.specs.Discover.{most_moments}

unfoldable pub marked_at : Bool → ℕ → List ℕ → List ℕ
marked_at c j ms = cond c (set ms j 1) ms

unfoldable pub marked : List Bool → List ℕ → List ℕ
marked [] ms = ms
marked (c ∷ cs) [] = []
marked (c ∷ cs) (m ∷ ms) = cond c 1 m ∷ marked cs ms

unfoldable pub marked_all : List (List Bool) → List ℕ → List ℕ
marked_all [] ms = ms
marked_all (cs ∷ css) ms = marked_all css (marked cs ms)

unfoldable pub count_of : List ℕ → ℕ
count_of ms = length (keep (eqb 1) ms)

-- ---- the longest list of moments
unfoldable pub span_from : ℕ → ℕ → List ℕ → ℕ
span_from m f [] = m
span_from m f (e ∷ es) = span_from (cond (ltb m (e - f)) (e - f) m) e es

pub data Steps : ℕ → List ℕ → Type 0 where
  done : {f : ℕ} → Steps f []
  next : {f e : ℕ} {es : List ℕ} → f ≤ e → e - f ≤ most_moments → Steps e es → Steps f (e ∷ es)
