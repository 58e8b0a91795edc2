use Rattle.std.proofs.Common.{arith}
use Rattle.print.proofs.Put.{writing_start, writing_more, writing_end, put-append, more_some, more_none}
use Rattle.print.proofs.put_more.Goals as goal

pub loop-t-init : goal.loop-t-init
loop-t-init c = writing_start _ _ _

pub loop-t-preserved : goal.loop-t-preserved
loop-t-preserved c = writing_more c.loop-t.invariant (more_some c.args.ts.now c.loop-t.t-index (omega arith)) (put-append c.put_mark-k.ensures c.put_time-at.ensures)

pub returns : goal.returns
returns c = writing_end c.loop-t.invariant (more_none c.args.ts.now c.loop-t.t-index (omega arith))
