use Rattle.marks.proofs.Spanning.{Spanning}
use Rattle.marks.proofs.longest.Given as goal

abbrev pub invariant-loop-end : goal.invariant-loop-end
invariant-loop-end l = Spanning l.ends l.end-index l.first l.most
