use Rattle.grid.specs.Times.{join}
use Rattle.histories.proofs.Sweeps.{Replacing}
use Rattle.histories.proofs.columns.join_each.Given as goal

abbrev pub invariant-loop-t : goal.invariant-loop-t
invariant-loop-t l = Replacing (join l.p.0) l.initial.s l.s l.t-index
