use borrow.Author.Rules.{rules}
use Rattle.grid.proofs.Signed.{back}
use Rattle.gather.proofs.Dating.{dating_start, in_diffs_lem, in_uv, in_ut, in_ud, dating_more, dating_end}
use Rattle.gather.proofs.gathering.append_dated.Goals as goal

pub loop-i-init : goal.loop-i-init
loop-i-init c = dating_start _ c.requires

pub offset_bounds-uv-k : goal.offset_bounds-uv-k
offset_bounds-uv-k c = search (rules, in_uv c.loop-i.invariant c.loop-i-test.true)

pub bounds-uv-k : goal.bounds-uv-k
bounds-uv-k c = in_uv c.loop-i.invariant c.loop-i-test.true

pub offset_bounds-ut-k : goal.offset_bounds-ut-k
offset_bounds-ut-k c = search (rules, in_ut c.loop-i.invariant c.loop-i-test.true)

pub bounds-ut-k : goal.bounds-ut-k
bounds-ut-k c = in_ut c.loop-i.invariant c.loop-i-test.true

pub offset_bounds-cd-i : goal.offset_bounds-cd-i
offset_bounds-cd-i c = search (rules, in_diffs_lem c.loop-i.invariant c.loop-i-test.true)

pub bounds-cd-i : goal.bounds-cd-i
bounds-cd-i c = in_diffs_lem c.loop-i.invariant c.loop-i-test.true

pub offset_bounds-ud-k : goal.offset_bounds-ud-k
offset_bounds-ud-k c = search (rules, in_ud c.loop-i.invariant c.loop-i-test.true)

pub bounds-ud-k : goal.bounds-ud-k
bounds-ud-k c = in_ud c.loop-i.invariant c.loop-i-test.true

pub overflow_add-k : goal.overflow_add-k
overflow_add-k c = search (rules, in_uv c.loop-i.invariant c.loop-i-test.true)

pub loop-i-preserved : goal.loop-i-preserved
loop-i-preserved c = dating_more c.loop-i.invariant c.loop-i-test.true _ (back c.d-1.given)

pub shape_of-uv : goal.shape_of-uv
shape_of-uv c = c.loop-i.invariant.values.same

pub shape_of-ut : goal.shape_of-ut
shape_of-ut c = c.loop-i.invariant.times.same

pub shape_of-ud : goal.shape_of-ud
shape_of-ud c = c.loop-i.invariant.diffs.same

pub returns : goal.returns
returns c = dating_end c.loop-i.invariant c.loop-i-test.false
