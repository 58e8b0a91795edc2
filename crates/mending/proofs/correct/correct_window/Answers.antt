use mathlib.Core.Path.{sym, ◌∙◌}
use Rattle.mending.proofs.Corrected.{corrects_asks, corrects_steps, corrects_within, corrects_short, corrects_adds, corrected_left, corrected_done, corrected_over}
use Rattle.mending.proofs.correct.correct_window.Goals as goal

pub returns-then-is_done : goal.returns-then-is_done
returns-then-is_done c = corrected_left (sym c.is_done.ensures ∙ c.if-is_done.true)

pub settle-settled-requires : goal.settle-settled-requires
settle-settled-requires c = corrects_asks c.requires.corrects (sym c.is_done.ensures ∙ c.if-is_done.false) c.requires.wide

pub longest-n-requires : goal.longest-n-requires
longest-n-requires c = corrects_steps c.requires.corrects (sym c.is_done.ensures ∙ c.if-is_done.false)

pub slice_bounds-count_marks-end : goal.slice_bounds-count_marks-end
slice_bounds-count_marks-end c = corrects_within c.requires.corrects (sym c.is_done.ensures ∙ c.if-is_done.false) c.longest-n.ensures c.settle-settled.new.marks c.settle-settled.auto.marks

pub count_marks-crossed-requires : goal.count_marks-crossed-requires
count_marks-crossed-requires c = corrects_short c.requires.corrects (sym c.is_done.ensures ∙ c.if-is_done.false) c.longest-n.ensures c.settle-settled.new.marks

pub overflow_add-result : goal.overflow_add-result
overflow_add-result c = record { fits = corrects_adds c.requires.corrects (sym c.is_done.ensures ∙ c.if-is_done.false) c.longest-n.ensures c.settle-settled.new.marks c.count_marks-crossed.ensures }

pub returns-in-Ok : goal.returns-in-Ok
returns-in-Ok c = corrected_done c.requires.corrects (sym c.is_done.ensures ∙ c.if-is_done.false) c.longest-n.ensures c.settle-settled.new.marks c.count_marks-crossed.ensures c.in-Ok.ensures

pub returns-in-Err : goal.returns-in-Err
returns-in-Err c = corrected_over c.requires.corrects (sym c.is_done.ensures ∙ c.if-is_done.false) c.in-Err.ensures
