use Prim.Native.Nat.{◌-◌}
use lib.ListN.{length}
use Rattle.gather.proofs.Dating.{Dating}
use Rattle.gather.proofs.gathering.append_dated.Given as goal

abbrev pub invariant-loop-i : goal.invariant-loop-i
invariant-loop-i l = Dating l.cv l.cd l.t.0 l.initial.uv l.initial.ut l.initial.ud l.at l.uv l.ut l.ud l.i l.k

abbrev pub decreases-loop-i : goal.decreases-loop-i
decreases-loop-i l = length l.cv - l.i
