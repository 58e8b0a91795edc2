use Rattle.times.specs.Meets.{optional}
use Rattle.histories.proofs.Suffixes.{Meetings}
use Rattle.histories.proofs.time_history.suffix_meets.Given as goal

abbrev pub invariant-loop-i : goal.invariant-loop-i
invariant-loop-i l = Meetings l.times l.count l.initial.suffixes l.suffixes l.i (optional l.m)
