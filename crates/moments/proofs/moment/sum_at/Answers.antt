use borrow.Author.Rules.{rules}
use mathlib.Core.Logic.{inl, inr}
use mathlib.Core.Path.{sym, ◌∙◌}
use Rattle.moments.proofs.Summing.{summing_start, sum_fits, summing_skip, summing_add, summing_end}
use Rattle.moments.proofs.moment.sum_at.Goals as goal

pub loop-time-init : goal.loop-time-init
loop-time-init c = summing_start _ _ _ c.requires (search rules) (search rules)

pub overflow_add-sum : goal.overflow_add-sum
overflow_add-sum c = sum_fits c.loop-time.invariant c.in-Some.ensures.steps.0 c.in-Some.ensures.steps.1

pub loop-time-preserved-then-is_seen : goal.loop-time-preserved-then-is_seen
loop-time-preserved-then-is_seen c = summing_add c.loop-time.invariant c.in-Some.ensures.steps.0 c.in-Some.ensures.steps.1 (sym c.if-is_seen.ensures)

pub loop-time-preserved : goal.loop-time-preserved
loop-time-preserved c = summing_skip c.loop-time.invariant c.in-Some.ensures.steps.0 c.in-Some.ensures.steps.1 (sym c.if-is_seen.ensures)

pub returns : goal.returns
returns c = summing_end c.loop-time.invariant (elim c.in-None.ensures.steps [ inl x ↦ x.1.0 | inr x ↦ sym c.loop-time.invariant.same ∙ x.1.0 ])
