use mathlib.Core.List.{map}
use lib.IntN.{◌*ℤ◌}
use lib.ListN.{drop}
use Rattle.emissions.specs.Emissions.{over}
use Rattle.emissions.proofs.Emissions.{Writing}
use Rattle.emissions.proofs.emit.emit_diffs.Given as goal

abbrev pub invariant-loop-i : goal.invariant-loop-i
invariant-loop-i l = Writing l.initial.out (map (λ e. l.d *ℤ e) (drop l.i l.from)) l.at l.i l.out (over (map (λ e. l.d *ℤ e) l.from) l.at l.initial.out)
