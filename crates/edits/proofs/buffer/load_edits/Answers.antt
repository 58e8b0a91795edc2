use Rattle.edits.proofs.Fronts.{loads_edits}
use Rattle.edits.proofs.buffer.load_edits.Goals as goal

pub returns : goal.returns
returns c = loads_edits c.args.fromtimes.now c.args.fromvalues.now c.args.fromdiffs.now c.args.joined.now c.args.places.now c.args.times.now c.args.values.now c.args.diffs.now c.requires c.load_all.ensures
