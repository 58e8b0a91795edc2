use Rattle.grid.proofs.Signed.{back}
use Rattle.fixing.proofs.Noting.{noting_start, in_diffs_lem, in_fk, in_fv, in_ft, in_fd, noting_more, noting_end}
use borrow.Author.Rules.{rules}
use Rattle.fixing.proofs.appends.append_fixes.Goals as goal

pub loop-i-init : goal.loop-i-init
loop-i-init c = noting_start _ _ c.requires

pub offset_bounds-fk-k : goal.offset_bounds-fk-k
offset_bounds-fk-k c = search (rules, in_fk c.loop-i.invariant c.loop-i-test.true)

pub bounds-fk-k : goal.bounds-fk-k
bounds-fk-k c = in_fk c.loop-i.invariant c.loop-i-test.true

pub offset_bounds-fv-k : goal.offset_bounds-fv-k
offset_bounds-fv-k c = search (rules, in_fv c.loop-i.invariant c.loop-i-test.true)

pub bounds-fv-k : goal.bounds-fv-k
bounds-fv-k c = in_fv c.loop-i.invariant c.loop-i-test.true

pub offset_bounds-ft-k : goal.offset_bounds-ft-k
offset_bounds-ft-k c = search (rules, in_ft c.loop-i.invariant c.loop-i-test.true)

pub bounds-ft-k : goal.bounds-ft-k
bounds-ft-k c = in_ft c.loop-i.invariant c.loop-i-test.true

pub offset_bounds-cd-i : goal.offset_bounds-cd-i
offset_bounds-cd-i c = search (rules, in_diffs_lem c.loop-i.invariant c.loop-i-test.true)

pub bounds-cd-i : goal.bounds-cd-i
bounds-cd-i c = in_diffs_lem c.loop-i.invariant c.loop-i-test.true

pub offset_bounds-fd-k : goal.offset_bounds-fd-k
offset_bounds-fd-k c = search (rules, in_fd c.loop-i.invariant c.loop-i-test.true)

pub bounds-fd-k : goal.bounds-fd-k
bounds-fd-k c = in_fd c.loop-i.invariant c.loop-i-test.true

pub overflow_add-k : goal.overflow_add-k
overflow_add-k c = search (rules, in_fk c.loop-i.invariant c.loop-i-test.true)

pub loop-i-preserved : goal.loop-i-preserved
loop-i-preserved c = noting_more c.loop-i.invariant c.loop-i-test.true _ (back c.d-1.given)

pub shape_of-fk : goal.shape_of-fk
shape_of-fk c = c.loop-i.invariant.rows.keys.same

pub shape_of-fv : goal.shape_of-fv
shape_of-fv c = c.loop-i.invariant.rows.values.same

pub shape_of-ft : goal.shape_of-ft
shape_of-ft c = c.loop-i.invariant.rows.times.same

pub shape_of-fd : goal.shape_of-fd
shape_of-fd c = c.loop-i.invariant.rows.diffs.same

pub returns : goal.returns
returns c = noting_end c.loop-i.invariant c.loop-i-test.false
