use lib.Seq.{take-length}
use mathlib.Core.Path.{◌≡◌, sym}
use Rattle.tiles.proofs.Cutting.{cutting_start, cutting_turn, cutting_end}
use Rattle.tiles.proofs.cut.cut.Goals as goal

pub loop-t-init : goal.loop-t-init
loop-t-init c =
    let e : c.into_iter-t-iterator.result.iter.rest.now ≡ c.args.later.now = cc in
    rw e (sym (take-length c.args.later.now), cutting_start c.requires c.write_all-count.ensures)

pub loop-t-preserved : goal.loop-t-preserved
loop-t-preserved c = cutting_turn c.args.later.now _ _ _ c.loop-t.invariant.0 c.in-Some.ensures.steps c.loop-t.invariant.1 c.insert_time-count.ensures

pub returns : goal.returns
returns c = cutting_end c.loop-t.invariant.1 c.in-None.ensures.steps.0
