use mathlib.Core.Bool.{not}
use Rattle.grid.proofs.Slices.{Removing}
use Rattle.grid.specs.Times.{below}
use Rattle.times.proofs.insert.remove_dominated.Given as goal

abbrev pub invariant-loop-i : goal.invariant-loop-i
invariant-loop-i l = Removing (λ u. not (below l.t.0 u)) l.initial.f l.count l.f l.k l.i
