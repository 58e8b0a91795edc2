use Rattle.std.proofs.Common.{arith}
use Rattle.print.proofs.Put.{writing_start, writing_more, writing_end, word_some, word_none}
use Rattle.print.proofs.put_word.Goals as goal

pub loop-b-init : goal.loop-b-init
loop-b-init c = writing_start _ _ _

pub loop-b-preserved : goal.loop-b-preserved
loop-b-preserved c = writing_more c.loop-b.invariant (word_some c.args.w.now c.loop-b.b-index (omega arith)) c.put_mark-at.ensures

pub returns : goal.returns
returns c = writing_end c.loop-b.invariant (word_none c.args.w.now c.loop-b.b-index (omega arith))
