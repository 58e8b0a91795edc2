use Rattle.std.proofs.Common.{arith}
use Rattle.reading.proofs.Heads.{listing_none, listing_last, listing_more, listing_full}
use Rattle.reading.proofs.read_times.Goals as goal

pub returns-in_err-time-clause-told : goal.returns-in_err-time-clause-told
returns-in_err-time-clause-told c = rw c.from_residual.ensures (listing_none c.loop-k.invariant (omega arith) c.in_err-time.ensures)

pub returns-in_default-clause-told : goal.returns-in_default-clause-told
returns-in_default-clause-told c = listing_last c.loop-k.invariant (omega arith) c.requires c.in_ok-time.ensures c.in_default.ensures

pub loop-k-preserved : goal.loop-k-preserved
loop-k-preserved c = listing_more c.loop-k.invariant (omega arith) c.requires c.in_ok-time.ensures c.in-Some.ensures

pub returns-clause-told : goal.returns-clause-told
returns-clause-told c = listing_full c.loop-k.invariant (omega arith)
