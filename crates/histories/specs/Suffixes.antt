-- What is read of what is ahead.
--
-- first_of: the first of a list, if there is one
-- Suffixes ts ms at: from the place `at` on, ms holds the meet of each of the times ts and all later ones. What lies below `at` may be anything
use Rattle.std.specs.Prelude.{ℕ, ◌≤◌, ◌<◌, List, [], ◌∷◌, ◌≡◌, length, drop, get_or}
use Rattle.std.proofs.Math.Option.{Option, none, some}
use Rattle.grid.specs.Times.{meets}

unfoldable pub first_of : {A : Type 0} → List A → Option A
first_of [] = none
first_of (x ∷ xs) = some x

pub record Suffixes (ts ms : List ℕ) (at : ℕ) : Type 0 where
  pub fits : length ts ≤ length ms
  pub tells : (i : ℕ) → at ≤ i → i < length ts → meets (drop i ts) none ≡ some (get_or ms i 0)
