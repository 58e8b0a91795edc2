use Prim.Native.Nat.{◌-◌}
use lib.ListN.{length}
use Rattle.rounds.proofs.Laying.{Laying}
use Rattle.rounds.proofs.lays.append_edits.Given as goal

abbrev pub invariant-loop-i : goal.invariant-loop-i
invariant-loop-i l = Laying l.values l.times l.diffs l.at l.initial.yv l.initial.yt l.initial.yd l.yv l.yt l.yd l.i l.k

abbrev pub decreases-loop-i : goal.decreases-loop-i
decreases-loop-i l = length l.values - l.i
