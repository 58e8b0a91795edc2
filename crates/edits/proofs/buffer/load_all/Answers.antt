use Rattle.edits.proofs.Buffers.{loads_all}
use Rattle.edits.proofs.buffer.load_all.Goals as goal

pub returns : goal.returns
returns c = loads_all c.args.fromtimes.now c.args.fromvalues.now c.args.fromdiffs.now c.args.joined.now c.requires.1.0 c.copy_joined.ensures c.consolidate_into.ensures
