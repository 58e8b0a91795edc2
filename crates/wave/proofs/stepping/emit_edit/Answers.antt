use Rattle.wave.proofs.Turns.{emits_edit}
use Rattle.wave.proofs.stepping.emit_edit.Goals as goal

pub returns : goal.returns
returns c = emits_edit c.requires c.emit_pairs.ensures
