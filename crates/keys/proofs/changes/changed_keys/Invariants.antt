use Prim.Native.Nat.{◌+◌, ◌-◌}
use lib.ListN.{length}
use Rattle.keys.proofs.Changed.{Merging}
use Rattle.keys.proofs.changes.changed_keys.Given as goal

abbrev pub invariant-loop-i : goal.invariant-loop-i
invariant-loop-i l = Merging l.newkeys l.pendingkeys l.initial.out l.out l.i l.j l.k

abbrev pub decreases-loop-i : goal.decreases-loop-i
decreases-loop-i l = (length l.newkeys + length l.pendingkeys) - (l.i + l.j)
