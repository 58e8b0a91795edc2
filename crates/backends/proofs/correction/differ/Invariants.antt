use Prim.Native.Nat.{◌+◌, ◌-◌}
use lib.ListN.{length}
use Rattle.backends.proofs.Walk.{Differing}
use Rattle.backends.proofs.correction.differ.Given as goal

abbrev pub invariant-loop-i : goal.invariant-loop-i
invariant-loop-i l = Differing l.iv l.id l.ov l.od l.at l.initial.cv l.initial.cd l.cv l.cd l.i l.j l.k

abbrev pub decreases-loop-i : goal.decreases-loop-i
decreases-loop-i l = length l.iv + length l.ov - (l.i + l.j)
