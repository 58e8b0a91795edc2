use mathlib.Core.Path.{sym, ◌∙◌}
use Rattle.times.proofs.Finding.{searching_start, searching_better, searching_worse, searching_end}
use Rattle.times.proofs.minimal.first_minimal.Goals as goal
use Rattle.times.proofs.minimal.first_minimal.Goals.{then-is_better, else-is_better}

pub loop-i-init : goal.loop-i-init
loop-i-init c = searching_start _ _

pub loop-i-preserved : goal.loop-i-preserved
loop-i-preserved c =
    elim c.if-is_better.branch [
      | then-is_better w ↦ rw w.best-is (searching_better c.loop-i.invariant c.loop-i-test.true (sym c.is_better.ensures ∙ w.if-is_better.true))
      | else-is_better w ↦ rw w.best-is (searching_worse c.loop-i.invariant c.loop-i-test.true (sym c.is_better.ensures ∙ w.if-is_better.false))
    ]

pub returns : goal.returns
returns c = searching_end c.loop-i.invariant c.loop-i-test.false
