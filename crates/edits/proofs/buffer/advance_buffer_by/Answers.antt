use Rattle.edits.proofs.Fronts.{advances_edits, advances_nothing}
use Rattle.times.specs.Meets.{optional}
use mathlib.Core.Path.{ap}
use Rattle.edits.proofs.buffer.advance_buffer_by.Goals as goal

pub returns-in-Some : goal.returns-in-Some
returns-in-Some c = advances_edits c.args.count c.args.times.now c.args.values.now c.args.diffs.now c.args.places.now c.args.firsts.now c.args.seconds.now c.args.sums.now c.requires (ap optional c.in-Some.is) c.advance_by.ensures

pub returns-in-None : goal.returns-in-None
returns-in-None c = advances_nothing c.args.count c.args.times.now c.args.values.now c.args.diffs.now c.args.places.now c.args.firsts.now c.args.seconds.now c.args.sums.now c.requires (ap optional c.in-None.is)
