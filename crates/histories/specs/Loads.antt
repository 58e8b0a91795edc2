-- What a load leaves.
--
-- Loads xs times work times' work': the loaded times xs stand at the front of the column, and of the work slice. What lies past them stays as it was
use Rattle.std.specs.Prelude.{ℕ, List, ◌≡◌}
use Rattle.grid.specs.Slices.{laid}

pub record Loads (xs times work times' work' : List ℕ) : Type 0 where
  pub holds : times' ≡ laid xs times
  pub work_holds : work' ≡ laid xs work
