use mathlib.Core.List.{map}
use Rattle.histories.proofs.Sweeps.{Climbs}
use Rattle.rules.specs.Histories.{by_value}
use Rattle.edits.specs.Edits.{edits, key_of}
use Rattle.edits.proofs.order.ascend_by_value.Given as goal

abbrev pub invariant-loop-i : goal.invariant-loop-i
invariant-loop-i l = Climbs by_value (map key_of (edits l.times l.values l.diffs)) l.i
