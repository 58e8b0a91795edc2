use Rattle.joins.proofs.Sets.{Making}
use Rattle.joins.proofs.made.join_all.Given as goal

abbrev pub invariant-loop-i : goal.invariant-loop-i
invariant-loop-i l = Making l.upper l.n.0 l.buffer l.i l.initial.waiting l.initial.c.waiting l.waiting l.c.waiting l.initial.pended l.initial.c.pended l.pended l.c.pended
