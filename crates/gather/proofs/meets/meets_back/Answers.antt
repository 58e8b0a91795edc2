use native.Mathlib.Omega.{arith}
use Rattle.gather.proofs.Meeting.{backing_start, backing_ahead, backing_more, backing_end}
use Rattle.gather.proofs.meets.meets_back.Goals as goal

pub loop-i-init : goal.loop-i-init
loop-i-init c = backing_start _ _ c.requires

pub meet_onto-next-requires : goal.meet_onto-next-requires
meet_onto-next-requires c = (omega arith, backing_ahead c.loop-i.invariant c.loop-i-test.true)

pub loop-i-preserved : goal.loop-i-preserved
loop-i-preserved c = backing_more c.loop-i.invariant c.loop-i-test.true c.meet_onto-next.ensures

pub returns : goal.returns
returns c = backing_end c.loop-i.invariant c.loop-i-test.false
