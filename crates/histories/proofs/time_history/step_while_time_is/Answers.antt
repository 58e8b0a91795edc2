use lib.Dec.{eqb}
use Rattle.histories.proofs.Steps.{steps_within, steps}
use Rattle.histories.proofs.time_history.step_while_time_is.Goals as goal

pub move_down-requires : goal.move_down-requires
move_down-requires c = steps_within (eqb c.args.n.0) _ _ c.requires c.end_of_equal-to.ensures

pub returns : goal.returns
returns c = steps (eqb c.args.n.0) _ _ c.requires c.end_of_equal-to.ensures c.move_down.ensures c.stepped_to.ensures
