use Rattle.edits.proofs.Edits.{edits_slid}
use Rattle.edits.proofs.stepping.move_edits.Goals as goal

pub returns : goal.returns
returns c = edits_slid _ _ _ c.requires.0 c.args.count c.args.at c.args.to c.move_down.ensures c.move_down-2.ensures c.move_down-3.ensures
