use Prim.Native.Nat.{◌-◌}
use lib.ListN.{length, drop}
use mathlib.Core.Path.{◌≡◌}
use Rattle.checks.specs.Checks.{room_for}
use Rattle.checks.proofs.lengths.is_room.Given as goal

abbrev pub invariant-loop-i : goal.invariant-loop-i
invariant-loop-i l = room_for (drop l.i l.sizes) (drop l.i l.lengths) ≡ room_for l.sizes l.lengths
