use Rattle.tiles.proofs.Writing.{laid-at}
use Rattle.tiles.proofs.write.write_one.Goals as goal

pub returns : goal.returns
returns c = laid-at _ _ _ c.requires
