use mathlib.Core.Path.{sym, ◌∙◌}
use Rattle.grid.proofs.Tests.{and_i}
use Rattle.wave.proofs.Checking.{lent-alike, before_short, before_unfit, before_fit}
use Rattle.wave.proofs.checks.check.Goals as goal
use Rattle.wave.proofs.checks.check.Goals.{else-is_good_run-via-then-is_good_run+else-is_good_run-2, else-is_good_run-via-else-is_good_run}

pub returns-then-not-is_lent_well : goal.returns-then-not-is_lent_well
returns-then-not-is_lent_well c = before_short _ _ (sym c.is_lent_well.ensures ∙ c.if-not-is_lent_well.true)

pub is_good_run-requires : goal.is_good_run-requires
is_good_run-requires c = (lent-alike _ _ _ _ (sym c.is_lent_well.ensures ∙ c.if-not-is_lent_well.false)).0

pub is_good_run-requires-then-is_good_run : goal.is_good_run-requires-then-is_good_run
is_good_run-requires-then-is_good_run c = (lent-alike _ _ _ _ (sym c.is_lent_well.ensures ∙ c.if-not-is_lent_well.false)).1

pub returns-then-is_good_run-2 : goal.returns-then-is_good_run-2
returns-then-is_good_run-2 c =
    before_fit _ _ (sym c.is_lent_well.ensures ∙ c.if-not-is_lent_well.false)
    (and_i _ _ (sym c.is_good_run.ensures ∙ c.if-is_good_run.true) (sym c.is_good_run-then-is_good_run.ensures ∙ c.if-is_good_run-2.true))

pub returns-else-is_good_run : goal.returns-else-is_good_run
returns-else-is_good_run c =
    before_unfit _ _ (sym c.is_lent_well.ensures ∙ c.if-not-is_lent_well.false)
    (elim c.else-is_good_run.branch [
      | else-is_good_run-via-then-is_good_run+else-is_good_run-2 w ↦ rw (sym c.is_good_run.ensures ∙ w.if-is_good_run.true) (sym w.is_good_run-then-is_good_run.ensures ∙ w.if-is_good_run-2.false)
      | else-is_good_run-via-else-is_good_run w ↦ rw (sym c.is_good_run.ensures ∙ w.if-is_good_run.false)
    ])
