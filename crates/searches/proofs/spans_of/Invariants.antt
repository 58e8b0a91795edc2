use Rattle.searches.proofs.Searching.{Searching}
use Rattle.searches.proofs.spans_of.Given as goal

abbrev pub invariant-loop-b : goal.invariant-loop-b
invariant-loop-b l = Searching l.run l.start l.keys l.initial.from l.initial.to l.from l.to l.b l.at
