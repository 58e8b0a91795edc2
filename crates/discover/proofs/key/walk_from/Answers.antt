use Rattle.discover.proofs.Finds.{begun_at, found_none, found}
use Rattle.discover.proofs.Starting.{prepared_kept, at_first_state}
use Rattle.discover.proofs.key.walk_from.Goals as goal

pub walk-w-requires : goal.walk-w-requires
walk-w-requires c = record { kept = prepared_kept c.requires.prepared c.args.l.m c.first_walk.ensures; begun = begun_at c.args.upper.now (at_first_state c.args.seeds.now c.args.pending.now c.args.times.now c.args.values.now c.args.diffs.now c.args.output.now c.args.waiting.now c.args.tracked.now c.args.moments.now c.args.pended.now c.args.scount c.args.l.count c.args.ocount c.args.l.m c.first_walk.ensures) c.requires.begun }

pub returns-then-is_over : goal.returns-then-is_over
returns-then-is_over c = found_none c.args.upper.now (at_first_state c.args.seeds.now c.args.pending.now c.args.times.now c.args.values.now c.args.diffs.now c.args.output.now c.args.waiting.now c.args.tracked.now c.args.moments.now c.args.pended.now c.args.scount c.args.l.count c.args.ocount c.args.l.m c.first_walk.ensures) _ _ _ _ _ _ _ _ _ _ c.walk-w.result c.walk-w.ensures.ended c.is_over.ensures c.if-is_over.true

pub returns-else-is_over : goal.returns-else-is_over
returns-else-is_over c = found c.args.upper.now (at_first_state c.args.seeds.now c.args.pending.now c.args.times.now c.args.values.now c.args.diffs.now c.args.output.now c.args.waiting.now c.args.tracked.now c.args.moments.now c.args.pended.now c.args.scount c.args.l.count c.args.ocount c.args.l.m c.first_walk.ensures) _ _ _ _ _ _ _ _ _ _ c.walk-w.result c.walk-w.ensures.ended c.is_over.ensures c.if-is_over.false
