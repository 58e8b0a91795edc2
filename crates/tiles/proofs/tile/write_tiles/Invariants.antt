use Rattle.tiles.proofs.Walking.{Walking}
use Rattle.tiles.proofs.tile.write_tiles.Given as goal

abbrev pub invariant-loop-i : goal.invariant-loop-i
invariant-loop-i l = Walking l.lower l.upper l.held l.initial.out l.out l.initial.times l.times l.initial.low l.low l.initial.up l.up l.last l.count l.i
