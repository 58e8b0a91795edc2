use Rattle.gather.proofs.Meeting.{Backing}
use Rattle.gather.proofs.meets.meets_back.Given as goal

abbrev pub invariant-loop-i : goal.invariant-loop-i
invariant-loop-i l = Backing l.moments l.initial.far l.far l.i l.next
