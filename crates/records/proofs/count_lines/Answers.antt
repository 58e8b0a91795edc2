use Rattle.std.proofs.Common.{arith}
use Rattle.records.proofs.Records.{reading_more, counted_stop, counted_full}
use Rattle.records.proofs.count_lines.Goals as goal

pub returns-in_default : goal.returns-in_default
returns-in_default g c = counted_stop c.loop-count.invariant c.in_default.ensures

pub loop-count-preserved : goal.loop-count-preserved
loop-count-preserved g c = reading_more c.loop-count.invariant _ (omega arith) c.in-Some.ensures

pub returns : goal.returns
returns g c = counted_full c.loop-count.invariant (omega arith)
