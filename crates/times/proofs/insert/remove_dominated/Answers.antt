use mathlib.Core.Path.{sym, ap, ◌∙◌}
use mathlib.Core.Bool.{not}
use Rattle.grid.proofs.Slices.{removing_start, removing_pass, removing_keep, removing_end}
use Rattle.times.proofs.insert.remove_dominated.Goals as goal
use Rattle.times.proofs.insert.remove_dominated.Goals.{then-not-below, else-not-below}

pub loop-i-init : goal.loop-i-init
loop-i-init c = removing_start _ _ _ c.requires

pub loop-i-preserved : goal.loop-i-preserved
loop-i-preserved c =
    elim c.if-not-below.branch [
      | then-not-below w ↦ rw (w.f-is, w.k-is) (removing_keep c.loop-i.invariant 0 c.loop-i-test.true (ap not (sym c.below.ensures ∙ w.if-not-below.true)))
      | else-not-below w ↦ rw (w.f-is, w.k-is) (removing_pass c.loop-i.invariant 0 c.loop-i-test.true (ap not (sym c.below.ensures ∙ w.if-not-below.false)))
    ]

pub returns : goal.returns
returns c = removing_end c.loop-i.invariant 0 c.loop-i-test.false
