use Rattle.retire.proofs.Checking.{checked}
use Rattle.retire.proofs.call.check.Goals as goal

pub returns : goal.returns
returns c = checked c.column_needed-n.ensures c.moments_needed-m.ensures c.status_before_work.ensures
