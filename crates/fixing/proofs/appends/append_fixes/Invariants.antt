use Prim.Native.Nat.{◌-◌}
use lib.ListN.{length}
use Rattle.fixing.proofs.Noting.{Noting}
use Rattle.fixing.proofs.appends.append_fixes.Given as goal

abbrev pub invariant-loop-i : goal.invariant-loop-i
invariant-loop-i l = Noting l.key.0 l.t.0 l.cv l.cd l.at l.initial.fk l.initial.fv l.initial.ft l.initial.fd l.fk l.fv l.ft l.fd l.i l.k

abbrev pub decreases-loop-i : goal.decreases-loop-i
decreases-loop-i l = length l.cv - l.i
