use Rattle.gather.proofs.Moving.{moved}
use Rattle.gather.proofs.gathering.move_back.Goals as goal

pub returns : goal.returns
returns c = moved c.requires c.copy_within.ensures.after c.copy_within-2.ensures.after c.copy_within-3.ensures.after
