-- "The key's records are the part of the lent run that has this key", for all keys of a window.
--
-- span_at: a key's part of a run, searched from `start` on. spans_from: the parts of keys, one search after the other. end_from: where the last one ends
-- SearchRoom: two columns have room for n parts. Searched: where these begin and end was written to the fronts of two columns
use Rattle.std.specs.Prelude.{ℕ, ◌+◌, ◌≤◌, List, [], ◌∷◌, map, ◌≡◌, eqb, ltb, length, drop}
use Rattle.grid.specs.Lists.{front}
use Rattle.grid.specs.Slices.{Laid}
use Rattle.keys.specs.declared.Span.{Span}

unfoldable pub from_at : List ℕ → ℕ → ℕ → ℕ
from_at run start k = start + length (front (λ x. ltb x k) (drop start run))

unfoldable pub span_at : List ℕ → ℕ → ℕ → Span
span_at run start k = record { from = from_at run start k; to = from_at run start k + length (front (eqb k) (drop (from_at run start k) run)) }

unfoldable pub spans_from : List ℕ → ℕ → List ℕ → List Span
spans_from run start [] = []
spans_from run start (k ∷ ks) = span_at run start k ∷ spans_from run (span_at run start k).to ks

unfoldable pub end_from : List ℕ → ℕ → List ℕ → ℕ
end_from run start [] = start
end_from run start (k ∷ ks) = end_from run (span_at run start k).to ks

pub record SearchRoom (n : ℕ) (from to : List ℕ) : Type 0 where
  pub from_room : n ≤ length from
  pub to_room : n ≤ length to

pub record Searched (run : List ℕ) (start : ℕ) (keys from to from' to' : List ℕ) (r : ℕ) : Type 0 where
  pub from_are : Laid (map (λ (s : Span). s.from) (spans_from run start keys)) from from' (length keys)
  pub to_are : Laid (map (λ (s : Span). s.to) (spans_from run start keys)) to to' (length keys)
  pub end_is : r ≡ end_from run start keys
