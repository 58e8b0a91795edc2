-- "Changed keys: keys of seeds and pending, ascending", by one pass over both.
--
-- lesser_head: the lesser of two heads; 0 where there is none
-- LentKeys: both columns ascend, equals allowed, and there is room for all keys
use Rattle.std.specs.Prelude.{ℕ, ◌+◌, ◌≤◌, min, List, [], ◌∷◌, leb, length}
use Rattle.grid.proofs.Sort.{Sorted}

unfoldable pub lesser_head : List ℕ → List ℕ → ℕ
lesser_head [] [] = 0
lesser_head [] (y ∷ ys) = y
lesser_head (x ∷ xs) [] = x
lesser_head (x ∷ xs) (y ∷ ys) = min x y

pub record LentKeys (new pending out : List ℕ) : Type 0 where
  pub new_ascends : Sorted leb new
  pub pending_ascends : Sorted leb pending
  pub room : length new + length pending ≤ length out
