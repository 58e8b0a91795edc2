use Rattle.diffs.proofs.Adding.{Adding}
use Rattle.diffs.proofs.total.Given as goal

abbrev pub invariant-loop-x : goal.invariant-loop-x
invariant-loop-x l = Adding l.d l.t l.x-index
