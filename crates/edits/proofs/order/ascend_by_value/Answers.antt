use Rattle.edits.proofs.InOrder.{length_keys, keys_before}
use Rattle.histories.proofs.Sweeps.{climbs_more, climbs_stops, climbs_end}
use mathlib.Core.Path.{sym, ◌∙◌}
use Rattle.edits.proofs.order.ascend_by_value.Goals as goal

pub loop-i-preserved : goal.loop-i-preserved
loop-i-preserved c = climbs_more c.loop-i.invariant (0, 0) (rw (length_keys _ _ _ c.requires) c.loop-i-test.true) (keys_before _ _ _ c.requires _ _ (sym c.if-not-pair_before.false ∙ c.pair_before.ensures))

pub returns-then-not-pair_before : goal.returns-then-not-pair_before
returns-then-not-pair_before c = climbs_stops c.loop-i.invariant (0, 0) (rw (length_keys _ _ _ c.requires) c.loop-i-test.true) (keys_before _ _ _ c.requires _ _ (sym c.if-not-pair_before.true ∙ c.pair_before.ensures))

pub returns : goal.returns
returns c = climbs_end c.loop-i.invariant (rw (length_keys _ _ _ c.requires) c.loop-i-test.false)
