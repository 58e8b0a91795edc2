use Rattle.tiles.proofs.Places.{Seeking}
use Rattle.tiles.proofs.place.tile_of.Given as goal

abbrev pub invariant-loop-i : goal.invariant-loop-i
invariant-loop-i l = Seeking l.held l.places l.t.0 l.i
