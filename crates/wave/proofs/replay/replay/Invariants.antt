use Prim.Native.Nat.{◌+◌}
use lib.ListN.{length}
use Rattle.rules.specs.Histories.{loaded}
use Rattle.rules.specs.Wave.{wave}
use Rattle.edits.specs.Edits.{edits}
use Rattle.wave.proofs.Replaying.{left, Replaying}
use Rattle.wave.proofs.replay.replay.Given as goal

abbrev pub invariant-loop-times : goal.invariant-loop-times
invariant-loop-times l =
    Replaying (wave (length l.initial.times + length l.initial.othertimes) (loaded (edits l.initial.times l.initial.values l.initial.diffs)) (loaded (edits l.initial.othertimes l.initial.othervalues l.initial.otherdiffs))) l.initial.outtimes l.initial.outfirsts l.initial.outseconds l.initial.outdiffs l.times l.values l.diffs l.suffixes l.othertimes l.othervalues l.otherdiffs l.othersuffixes l.outtimes l.outfirsts l.outseconds l.outdiffs l.s

abbrev pub decreases-loop-times : goal.decreases-loop-times
decreases-loop-times l = left (length l.times) (length l.othertimes) l.s
