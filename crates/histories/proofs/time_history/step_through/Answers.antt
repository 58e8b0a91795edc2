use lib.Dec.{leb}
use Rattle.histories.proofs.Steps.{steps_within, steps}
use Rattle.histories.proofs.time_history.step_through.Goals as goal

pub move_down-requires : goal.move_down-requires
move_down-requires c = steps_within (λ t. leb t c.args.n.0) _ _ c.requires c.end_through-to.ensures

pub returns : goal.returns
returns c = steps (λ t. leb t c.args.n.0) _ _ c.requires c.end_through-to.ensures c.move_down.ensures c.stepped_to.ensures
