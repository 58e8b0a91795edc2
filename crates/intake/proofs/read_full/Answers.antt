use Rattle.std.proofs.Common.{rules}
use Rattle.intake.proofs.Taking.{read_on}
use Rattle.intake.proofs.read_full.Goals as goal

pub loop-done-preserved : goal.loop-done-preserved
loop-done-preserved g c = (search rules, read_on _ _ _ _ _ _ _ _ c.loop-done.invariant.0 c.in_ok-n.ensures.bound.0 c.loop-done.invariant.1 c.in_ok-n.ensures.bytes.0)
