use lib.Dec.{eqb}
use Rattle.edits.proofs.Edits.{edits_within, edits-step}
use Rattle.edits.proofs.stepping.step_while_time_is.Goals as goal

pub move_edits-requires : goal.move_edits-requires
move_edits-requires c = edits_within _ _ _ c.requires.0 _ c.requires.1 (eqb c.args.n.0) c.end_of_equal-to.ensures

pub returns : goal.returns
returns c = edits-step _ _ _ c.requires.0 _ c.requires.1 (eqb c.args.n.0) c.end_of_equal-to.ensures c.move_edits.ensures c.stepped_to.ensures
