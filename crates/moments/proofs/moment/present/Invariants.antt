use Rattle.moments.proofs.Passing.{Passing}
use lib.ListN.{length}
use Prim.Native.Nat.{◌-◌}
use Rattle.moments.proofs.moment.present.Given as goal

abbrev pub invariant-loop-i : goal.invariant-loop-i
invariant-loop-i l = Passing l.values l.times l.diffs l.t.0 l.at l.initial.sv l.initial.sd l.sv l.sd l.i l.k

abbrev pub decreases-loop-i : goal.decreases-loop-i
decreases-loop-i l = length l.values - l.i
