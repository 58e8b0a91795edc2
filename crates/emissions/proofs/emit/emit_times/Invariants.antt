use mathlib.Core.List.{map}
use lib.ListN.{drop}
use Rattle.grid.specs.Times.{join}
use Rattle.emissions.specs.Emissions.{over}
use Rattle.emissions.proofs.Emissions.{Writing}
use Rattle.emissions.proofs.emit.emit_times.Given as goal

abbrev pub invariant-loop-i : goal.invariant-loop-i
invariant-loop-i l = Writing l.initial.out (map (join l.p.0) (drop l.i l.from)) l.at l.i l.out (over (map (join l.p.0) l.from) l.at l.initial.out)
