use Rattle.tiles.specs.Described.{place_beside}
use lib.ListN.{length, take, drop}
use mathlib.Core.Path.{◌≡◌}
use mathlib.Core.List.{◌++◌, map}
use Prim.Native.Nat.{◌-◌}
use Rattle.placing.proofs.place.place_times.Given as goal

abbrev pub invariant-loop-i : goal.invariant-loop-i
invariant-loop-i l = (take l.i l.out ++ map (place_beside l.held l.places l.count) (drop l.i l.times) ≡ map (place_beside l.held l.places l.count) l.times) × (length l.out ≡ length l.times)
