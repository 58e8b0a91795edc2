-- The numbers of the table of statuses.
--
-- number_of: a status' number
use Rattle.std.specs.Prelude.{ℕ}
use Rattle.requests.specs.declared.status.Status.{Status}

abbrev pub number_of : Status → ℕ
number_of s = s.0
