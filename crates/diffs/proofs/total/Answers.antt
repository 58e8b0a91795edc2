use lib.IntN.{pos}
use mir.Syntax.{w64}
use mir.Val.{to_z}
use Rattle.diffs.proofs.Adding.{adding_more, next_fits}
use Rattle.diffs.proofs.Signed.{added, added_fits}
use native.Mathlib.Omega.{arith}
use lib.ListN.{get_or}
use Rattle.diffs.proofs.total.Goals as goal

pub overflow_add-t : goal.overflow_add-t
overflow_add-t c = added_fits (to_z w64 c.loop-x.t-bits) _ (omega arith) (next_fits c.loop-x.invariant c.requires.1 c.loop-x-test.true c.requires.0)

pub loop-x-preserved : goal.loop-x-preserved
loop-x-preserved c =
    adding_more c.loop-x.invariant c.requires.1 c.loop-x-test.true _ (added (to_z w64 c.loop-x.t-bits) (get_or c.args.d.now c.loop-x.x-index (pos 0)) (omega arith) (next_fits c.loop-x.invariant c.requires.1 c.loop-x-test.true c.requires.0))
