-- What the short functions answer.
--
-- beyond-append: whether a time of two lists is at or below n
use Prim.Native.Nat.{ℕ}
use mathlib.Core.Bool.{◌||◌}
use mathlib.Core.List.{List, [], ◌∷◌, ◌++◌}
use mathlib.Core.Path.{◌≡◌, refl}
use Rattle.grid.specs.Times.{below}
use Rattle.grid.specs.Frontiers.{beyond}
use Rattle.grid.proofs.Tests.{by-test}

pub beyond-append : (xs ys : List ℕ) (n : ℕ) → beyond (xs ++ ys) n ≡ (beyond xs n || beyond ys n)
unfolding beyond
beyond-append [] ys n = refl
beyond-append (x ∷ xs) ys n = by-test (below x n) (λ e. rw e) (λ e. rw e (beyond-append xs ys n))
