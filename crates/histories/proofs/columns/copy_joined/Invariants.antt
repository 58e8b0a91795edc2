use Rattle.grid.specs.Times.{joined}
use Rattle.times.specs.Meets.{optional}
use Rattle.histories.proofs.Sweeps.{Mapping}
use Rattle.histories.proofs.columns.copy_joined.Given as goal

abbrev pub invariant-loop-i : goal.invariant-loop-i
invariant-loop-i l = Mapping (joined (optional l.m)) l.src l.initial.dst l.dst l.i
