use Rattle.tiles.proofs.Writing.{tile-first, tile-second, tile_written}
use Rattle.tiles.proofs.write.write_tile.Goals as goal

pub write_bound-second-requires : goal.write_bound-second-requires
write_bound-second-requires c =
    (tile-first c.args.out.now c.args.at c.args.lower.now c.args.upper.now c.requires.0 c.requires.1.0 c.requires.1.1 c.write_bound-first.ensures, c.requires.1.1)

pub write_one-requires : goal.write_one-requires
write_one-requires c =
    tile-second c.args.out.now c.args.at c.args.lower.now c.args.upper.now c.requires.0 c.requires.1.0 c.requires.1.1 c.write_bound-first.ensures c.write_bound-second.ensures

pub returns : goal.returns
returns c =
    tile_written c.args.out.now c.args.at c.args.lower.now c.args.upper.now c.requires.0 c.requires.1.0 c.requires.1.1 c.write_bound-first.ensures c.write_bound-second.ensures c.args.held c.write_one.ensures
