use native.Mathlib.Omega.{arith}
use Rattle.keys.proofs.Changed.{merging_less, merging_more, merging_end}
use Rattle.keys.proofs.changes.changed_keys.Goals as goal

pub loop-i-smaller : goal.loop-i-smaller
loop-i-smaller c = merging_less c.loop-i.invariant c.loop-i-test.true c.lesser_head-key.ensures c.end_equal-i.ensures c.end_equal-j.ensures

pub loop-i-preserved : goal.loop-i-preserved
loop-i-preserved c = merging_more c.loop-i.invariant c.loop-i-test.true c.lesser_head-key.ensures c.end_equal-i.ensures c.end_equal-j.ensures

pub returns : goal.returns
returns c = merging_end c.loop-i.invariant (omega arith)
