use Rattle.std.proofs.Common.{arith}
use Rattle.grid.proofs.Signed.{back}
use Rattle.records.proofs.Records.{rows_stop, rows_more, rows_full}
use Rattle.records.proofs.read_rows.Goals as goal

pub returns-in_default : goal.returns-in_default
returns-in_default c = rows_stop c.loop-n.invariant c.in_default.ensures

pub loop-n-preserved : goal.loop-n-preserved
loop-n-preserved c = rows_more c.loop-n.invariant (omega arith) c.in-Some.ensures (back {z = c.in-Some.record.diff} (omega arith))

pub returns : goal.returns
returns c = rows_full c.loop-n.invariant (omega arith)
