use Rattle.grid.proofs.Signed.{back}
use Rattle.rounds.proofs.Laying.{laying_start, in_times_lem, in_diffs_lem, in_yv, in_yt, in_yd, laying_more, laying_end}
use borrow.Author.Rules.{rules}
use Rattle.rounds.proofs.lays.append_edits.Goals as goal

pub loop-i-init : goal.loop-i-init
loop-i-init c = laying_start c.requires

pub offset_bounds-yv-k : goal.offset_bounds-yv-k
offset_bounds-yv-k c = search (rules, in_yv c.loop-i.invariant c.loop-i-test.true)

pub bounds-yv-k : goal.bounds-yv-k
bounds-yv-k c = in_yv c.loop-i.invariant c.loop-i-test.true

pub offset_bounds-times-i : goal.offset_bounds-times-i
offset_bounds-times-i c = search (rules, in_times_lem c.loop-i.invariant c.loop-i-test.true)

pub bounds-times-i : goal.bounds-times-i
bounds-times-i c = in_times_lem c.loop-i.invariant c.loop-i-test.true

pub offset_bounds-yt-k : goal.offset_bounds-yt-k
offset_bounds-yt-k c = search (rules, in_yt c.loop-i.invariant c.loop-i-test.true)

pub bounds-yt-k : goal.bounds-yt-k
bounds-yt-k c = in_yt c.loop-i.invariant c.loop-i-test.true

pub offset_bounds-diffs-i : goal.offset_bounds-diffs-i
offset_bounds-diffs-i c = search (rules, in_diffs_lem c.loop-i.invariant c.loop-i-test.true)

pub bounds-diffs-i : goal.bounds-diffs-i
bounds-diffs-i c = in_diffs_lem c.loop-i.invariant c.loop-i-test.true

pub offset_bounds-yd-k : goal.offset_bounds-yd-k
offset_bounds-yd-k c = search (rules, in_yd c.loop-i.invariant c.loop-i-test.true)

pub bounds-yd-k : goal.bounds-yd-k
bounds-yd-k c = in_yd c.loop-i.invariant c.loop-i-test.true

pub overflow_add-k : goal.overflow_add-k
overflow_add-k c = search (rules, in_yv c.loop-i.invariant c.loop-i-test.true)

pub loop-i-preserved : goal.loop-i-preserved
loop-i-preserved c = laying_more c.loop-i.invariant c.loop-i-test.true _ (back c.d-1.given)

pub shape_of-yv : goal.shape_of-yv
shape_of-yv c = c.loop-i.invariant.row.values.same

pub shape_of-yt : goal.shape_of-yt
shape_of-yt c = c.loop-i.invariant.row.times.same

pub shape_of-yd : goal.shape_of-yd
shape_of-yd c = c.loop-i.invariant.row.diffs.same

pub returns : goal.returns
returns c = laying_end c.loop-i.invariant c.loop-i-test.false
