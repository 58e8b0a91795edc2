use lib.ListN.{drop_of_length-le}
use Rattle.grid.proofs.Loops.{drop_more}
use Rattle.emissions.proofs.Emissions.{writing_more, writing_end}
use Rattle.emissions.proofs.emit.emit_values.Goals as goal

pub loop-i-preserved : goal.loop-i-preserved
loop-i-preserved c = writing_more _ c.loop-i.invariant (drop_more _ _ 0 c.loop-i-test.true) c.write.ensures

pub returns : goal.returns
returns c = writing_end c.loop-i.invariant (drop_of_length-le c.args.from.now c.loop-i-test.false)
