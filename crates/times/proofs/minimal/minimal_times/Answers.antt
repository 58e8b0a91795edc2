use Rattle.times.proofs.Finding.{finding_start, finding_more, finding_end, finding_over}
use Rattle.times.proofs.minimal.minimal_times.Goals as goal

pub loop-i-init : goal.loop-i-init
loop-i-init c = finding_start _ _ _ c.first_minimal-i.ensures

pub returns-then-k-out : goal.returns-then-k-out
returns-then-k-out c = finding_over c.loop-i.invariant c.loop-i-test.true c.if-k-out.true

pub loop-i-preserved : goal.loop-i-preserved
loop-i-preserved c = finding_more c.loop-i.invariant c.loop-i-test.true c.if-k-out.false c.lo-bound.ensures c.first_minimal-i-in-loop-i.ensures

pub returns : goal.returns
returns c = finding_end c.loop-i.invariant c.loop-i-test.false
