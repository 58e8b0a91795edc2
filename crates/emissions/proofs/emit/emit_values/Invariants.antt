use lib.ListN.{drop}
use Rattle.emissions.specs.Emissions.{over}
use Rattle.emissions.proofs.Emissions.{Writing}
use Rattle.emissions.proofs.emit.emit_values.Given as goal

abbrev pub invariant-loop-i : goal.invariant-loop-i
invariant-loop-i l = Writing l.initial.out (drop l.i l.from) l.at l.i l.out (over l.from l.at l.initial.out)
