use Rattle.edits.proofs.Edits.{edits-step_one}
use Rattle.edits.proofs.stepping.step.Goals as goal

pub returns : goal.returns
returns c = edits-step_one _ _ _ c.requires.0 _ c.requires.1.0 c.requires.1.1 c.move_edits.ensures
