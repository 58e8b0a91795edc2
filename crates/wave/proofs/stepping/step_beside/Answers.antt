use native.Mathlib.Omega.{arith}
use Rattle.wave.proofs.Turns.{lent_edit, turns}
use Rattle.wave.proofs.stepping.step_beside.Goals as goal

pub emit_edit-requires : goal.emit_edit-requires
emit_edit-requires c = lent_edit c.requires _ _ _ c.advance_beside-n.ensures (omega arith) (omega arith) (omega arith)

pub returns : goal.returns
returns c = turns c.requires _ _ _ c.advance_beside-n.ensures (omega arith) (omega arith) (omega arith) c.emit_edit.ensures c.step-r.ensures
