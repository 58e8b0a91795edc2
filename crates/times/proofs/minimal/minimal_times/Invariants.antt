use Prim.Native.Nat.{◌-◌}
use lib.ListN.{length}
use Rattle.times.proofs.Finding.{Finding}
use Rattle.times.proofs.minimal.minimal_times.Given as goal

abbrev pub invariant-loop-i : goal.invariant-loop-i
invariant-loop-i l = Finding l.ts l.initial.out l.bound l.out l.k l.i

abbrev pub decreases-loop-i : goal.decreases-loop-i
decreases-loop-i l = length l.initial.out - l.k
