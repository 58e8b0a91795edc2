-- Two statuses of one number are the same.
--
-- same_status: a status is told by its number
use Rattle.std.specs.Prelude.{◌≡◌}
use Rattle.requests.specs.Statuses.{number_of}
use Rattle.requests.specs.declared.status.Status.{Status}

pub same_status : (s s' : Status) → number_of s ≡ number_of s' → s ≡ s'
same_status s s' e i = record { 0 = e i }
