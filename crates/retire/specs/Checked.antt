-- The first part of a call: it is checked, and then either idle or worked.
--
-- Checked l s: s is the status of what was lent before any work, 0 where the call works
use Rattle.std.specs.Prelude.{ℕ, cond, ◌≡◌}
use Rattle.rules.specs.Call.{verdict}
use Rattle.rules.specs.Memory.{Lent, lent_well, request_of}
use Rattle.demands.specs.Lending.{needed}

pub record Checked (l : Lent) (s : ℕ) : Type 0 where
  pub status_is : s ≡ cond (lent_well (needed l) l) (verdict (request_of l)) 11
