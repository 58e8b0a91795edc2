use mathlib.Core.List.{map}
use mathlib.Core.Path.{ap}
use lib.ListN.{drop_of_length-le}
use Rattle.grid.specs.Times.{join}
use Rattle.emissions.proofs.Emissions.{writing_more, writing_end, mapped_more}
use Rattle.emissions.proofs.emit.emit_times.Goals as goal

pub loop-i-preserved : goal.loop-i-preserved
loop-i-preserved c = writing_more _ c.loop-i.invariant (mapped_more (join c.args.p.0) _ _ 0 c.loop-i-test.true c.join.ensures) c.write.ensures

pub returns : goal.returns
returns c = writing_end c.loop-i.invariant (ap (map (join c.args.p.0)) (drop_of_length-le c.args.from.now c.loop-i-test.false))
