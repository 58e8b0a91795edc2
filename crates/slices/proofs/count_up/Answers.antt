use Rattle.std.proofs.Common.{arith}
use Rattle.grid.proofs.Loops.{put_more, put_end}
use Rattle.slices.proofs.Writes.{up_more, up_none}
use Rattle.slices.proofs.count_up.Goals as goal

pub loop-i-preserved : goal.loop-i-preserved
loop-i-preserved c = put_more c.loop-i.s c.loop-i.i _ (omega arith) c.loop-i.invariant (up_more _ c.loop-i.i (omega arith))

pub returns : goal.returns
returns c = put_end c.loop-i.s c.loop-i.i (omega arith) c.loop-i.invariant (up_none _ c.loop-i.i (omega arith))
