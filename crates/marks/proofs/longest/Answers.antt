use Rattle.marks.proofs.Spanning.{span-bound, spanning_more, spanning_end}
use Rattle.marks.proofs.longest.Goals as goal

pub overflow_sub-end : goal.overflow_sub-end
overflow_sub-end c = span-bound c.loop-end.invariant c.loop-end-test.true

pub loop-end-preserved : goal.loop-end-preserved
loop-end-preserved c = spanning_more c.loop-end.invariant c.loop-end-test.true c.max-most.ensures

pub returns : goal.returns
returns c = spanning_end c.loop-end.invariant c.loop-end-test.false
