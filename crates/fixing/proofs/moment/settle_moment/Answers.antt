use mathlib.Core.Path.{sym, ◌∙◌}
use Rattle.fixing.proofs.Corrected.{column_within, over_fixed, append_asks, append_fixed}
use Rattle.fixing.proofs.moment.settle_moment.Goals as goal

pub slice_bounds-is_too_large-end : goal.slice_bounds-is_too_large-end
slice_bounds-is_too_large-end c = column_within c.correct-count.ensures.diffs

pub returns-then-is_too_large : goal.returns-then-is_too_large
returns-then-is_too_large c = over_fixed c.requires c.correct-count.ensures _ _ (sym c.if-is_too_large.true ∙ c.is_too_large.ensures)

pub slice_bounds-append_fixes-end : goal.slice_bounds-append_fixes-end
slice_bounds-append_fixes-end c = column_within c.correct-count.ensures.values

pub slice_bounds-append_fixes-end-2 : goal.slice_bounds-append_fixes-end-2
slice_bounds-append_fixes-end-2 c = column_within c.correct-count.ensures.diffs

pub append_fixes-fixes-requires : goal.append_fixes-fixes-requires
append_fixes-fixes-requires c = append_asks c.requires c.correct-count.ensures (sym c.if-is_too_large.false ∙ c.is_too_large.ensures)

pub returns : goal.returns
returns c = append_fixed c.requires c.correct-count.ensures (sym c.if-is_too_large.false ∙ c.is_too_large.ensures) _ _ c.append_fixes-fixes.ensures
