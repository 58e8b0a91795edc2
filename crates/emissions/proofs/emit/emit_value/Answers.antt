use Rattle.grid.proofs.Loops.{fills_more, fills_none}
use Rattle.emissions.proofs.Emissions.{writing_more, writing_end}
use Rattle.emissions.proofs.emit.emit_value.Goals as goal

pub loop-i-preserved : goal.loop-i-preserved
loop-i-preserved c = writing_more _ c.loop-i.invariant (fills_more _ _ _ c.loop-i-test.true) c.write.ensures

pub returns : goal.returns
returns c = writing_end c.loop-i.invariant (fills_none _ _ _ c.loop-i-test.false)
