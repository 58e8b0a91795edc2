use Rattle.joins.proofs.Sets.{making_start, making_more}
use Rattle.joins.proofs.made.join_all.Goals as goal

pub loop-i-init : goal.loop-i-init
loop-i-init c = making_start _ _ _ _ _ _ _ c.requires

pub loop-i-preserved : goal.loop-i-preserved
loop-i-preserved c = making_more c.loop-i.invariant c.loop-i-test.true c.loop-i.auto.i c.join_one-c.ensures.0 c.join_one-c.ensures.1
