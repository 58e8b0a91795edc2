use Prim.Native.Nat.{◌-◌}
use lib.ListN.{replicate}
use Rattle.emissions.specs.Emissions.{over}
use Rattle.emissions.proofs.Emissions.{Writing}
use Rattle.emissions.proofs.emit.emit_value.Given as goal

abbrev pub invariant-loop-i : goal.invariant-loop-i
invariant-loop-i l = Writing l.initial.out (replicate (l.n - l.i) l.value) l.at l.i l.out (over (replicate l.n l.value) l.at l.initial.out)
