use Rattle.distinct.proofs.Inserting.{Halving}
use Rattle.distinct.proofs.place_of.Given as goal

abbrev pub invariant-loop-size : goal.invariant-loop-size
invariant-loop-size l = Halving l.t l.s l.place l.here l.size

abbrev pub decreases-loop-size : goal.decreases-loop-size
decreases-loop-size l = l.size
