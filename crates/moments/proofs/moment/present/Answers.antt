use borrow.Author.Rules.{rules}
use mathlib.Core.Path.{sym, ◌∙◌}
use Rattle.grid.proofs.Signed.{back}
use Rattle.backends.proofs.Signed.{told_none, told_some}
use Rattle.moments.proofs.Passing.{bounds, run_asks, pass_skip, pass_write, passing_end}
use Rattle.moments.proofs.moment.present.Goals as goal

pub slice_bounds-sum_at-end : goal.slice_bounds-sum_at-end
slice_bounds-sum_at-end c = let b = bounds c.loop-i.invariant c.loop-i-test.true c.run_end-end.ensures in search (rules, b.1.1.0)

pub sum_at-sum-requires : goal.sum_at-sum-requires
sum_at-sum-requires c = run_asks c.loop-i.invariant c.loop-i-test.true c.run_end-end.ensures

pub loop-i-preserved-then-sum-ne0 : goal.loop-i-preserved-then-sum-ne0
loop-i-preserved-then-sum-ne0 c =
    let h = c.sum_at-sum.type_inv in
    pass_write c.loop-i.invariant c.loop-i-test.true c.run_end-end.ensures _ (back h ∙ c.sum_at-sum.ensures) (told_some {R = c.sum_at-sum.result} h (sym (back h)) c.if-sum-ne0.true)

pub loop-i-preserved : goal.loop-i-preserved
loop-i-preserved c =
    let h = c.sum_at-sum.type_inv in
    pass_skip c.loop-i.invariant c.loop-i-test.true c.run_end-end.ensures _ (back h ∙ c.sum_at-sum.ensures) (told_none {R = c.sum_at-sum.result} h (sym (back h)) c.if-sum-ne0.false)

pub returns : goal.returns
returns c = passing_end c.loop-i.invariant c.loop-i-test.false
