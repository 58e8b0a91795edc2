use Rattle.histories.proofs.Sweeps.{mapping_end}
use Rattle.histories.proofs.columns.copy_joined.Goals as goal

pub returns : goal.returns
returns c = mapping_end c.loop-i.invariant c.loop-i-test.false
