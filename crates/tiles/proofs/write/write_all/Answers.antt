use mathlib.Core.Path.{refl}
use Rattle.tiles.proofs.Writing.{laid_part}
use Rattle.tiles.proofs.write.write_all.Goals as goal

pub returns : goal.returns
returns c = laid_part c.args.out.now c.args.at c.args.xs.now c.requires refl c.copy_from_slice.ensures.after
