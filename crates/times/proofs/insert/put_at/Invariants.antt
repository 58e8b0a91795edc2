use mathlib.Core.List.{◌∷◌, ◌++◌}
use lib.ListN.{take, drop}
use Rattle.grid.proofs.Slices.{Moving}
use Rattle.times.proofs.insert.put_at.Given as goal

abbrev pub invariant-loop-i : goal.invariant-loop-i
invariant-loop-i l = Moving l.initial.f l.count (take l.place l.initial.f ++ l.initial.moved ∷ drop l.place (take l.count l.initial.f)) l.f l.moved l.i
