use Rattle.times.proofs.Inserting.{Placing}
use Rattle.times.proofs.insert.place_of.Given as goal

abbrev pub invariant-loop-i : goal.invariant-loop-i
invariant-loop-i l = Placing l.t.0 l.f l.count l.i
