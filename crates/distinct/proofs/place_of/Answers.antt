use Rattle.distinct.proofs.Inserting.{halving_down, belongs_next}
use Rattle.distinct.proofs.place_of.Goals as goal

pub loop-size-preserved : goal.loop-size-preserved
loop-size-preserved c = halving_down c.requires c.loop-size.invariant c.loop-size-test.true c.if-middle-t.false

pub returns-then-here-t-2 : goal.returns-then-here-t-2
returns-then-here-t-2 c = belongs_next c.requires c.loop-size.invariant c.loop-size-test.false c.if-here-t-2.true
