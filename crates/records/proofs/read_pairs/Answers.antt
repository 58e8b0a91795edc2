use Rattle.std.proofs.Common.{arith}
use Rattle.records.proofs.Records.{pairs_stop, pairs_more, pairs_full}
use Rattle.records.proofs.read_pairs.Goals as goal

pub returns-in_default : goal.returns-in_default
returns-in_default c = pairs_stop c.loop-n.invariant c.in_default.ensures

pub loop-n-preserved : goal.loop-n-preserved
loop-n-preserved c = pairs_more c.loop-n.invariant (omega arith) c.in-Some.ensures

pub returns : goal.returns
returns c = pairs_full c.loop-n.invariant (omega arith)
