use Rattle.std.proofs.Common.{◌≡◌, ◌-◌, ◌++◌, length, take}
use Rattle.slices.specs.Places.{up_from, up_to}
use Rattle.slices.proofs.count_up.Given as goal

abbrev pub invariant-loop-i : goal.invariant-loop-i
invariant-loop-i l = take l.i l.s ++ up_from l.i (length l.initial.s - l.i) ≡ up_to (length l.initial.s)
