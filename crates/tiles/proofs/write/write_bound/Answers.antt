use Rattle.tiles.proofs.Writing.{bound_written}
use Rattle.tiles.proofs.write.write_bound.Goals as goal

pub returns : goal.returns
returns c =
    bound_written c.args.out.now c.args.at c.args.f.now c.requires.0 c.requires.1 c.write_one-first.ensures c.write_all-past.ensures c.write_zeros.ensures
