use Rattle.consolidation.proofs.Adding.{Adding}
use Rattle.consolidation.proofs.add_equals.Given as goal

abbrev pub invariant-loop-i : goal.invariant-loop-i
invariant-loop-i l = Adding l.a l.b l.d l.places l.firsts l.seconds l.diffs l.sum l.i l.k
