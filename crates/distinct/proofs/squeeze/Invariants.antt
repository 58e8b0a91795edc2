use Rattle.distinct.proofs.Removing.{Squeezing}
use Rattle.distinct.proofs.squeeze.Given as goal

abbrev pub invariant-loop-i : goal.invariant-loop-i
invariant-loop-i l = Squeezing l.initial.s l.s l.i l.k
