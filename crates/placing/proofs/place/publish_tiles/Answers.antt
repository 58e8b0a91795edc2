use native.Mathlib.Omega.{arith}
use Rattle.placing.proofs.Placed.{tiles-told}
use Rattle.placing.proofs.place.publish_tiles.Goals as goal

pub returns : goal.returns
returns c = tiles-told c.requires (omega arith) c.tile_descriptions-count.ensures c.place_times.ensures
