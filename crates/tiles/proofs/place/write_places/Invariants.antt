use Rattle.tiles.proofs.Places.{Placing}
use Rattle.tiles.specs.Described.{position}
use Rattle.tiles.proofs.place.write_places.Given as goal

abbrev pub invariant-loop-i : goal.invariant-loop-i
invariant-loop-i l = Placing (λ h. position h l.times) l.held l.initial.places l.places l.i
