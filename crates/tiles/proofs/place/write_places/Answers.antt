use Rattle.tiles.proofs.Places.{placing_end}
use Rattle.tiles.proofs.place.write_places.Goals as goal

pub returns : goal.returns
returns c = placing_end c.loop-i.invariant c.loop-i-test.false
