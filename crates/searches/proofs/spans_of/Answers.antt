use Rattle.searches.proofs.Searching.{searching_more, searching_end}
use Rattle.searches.proofs.spans_of.Goals as goal

pub loop-b-preserved : goal.loop-b-preserved
loop-b-preserved c = searching_more c.loop-b.invariant c.loop-b-test.true c.span_of-s.ensures

pub returns : goal.returns
returns c = searching_end c.loop-b.invariant c.loop-b-test.false
