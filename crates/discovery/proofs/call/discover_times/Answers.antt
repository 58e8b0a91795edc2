use borrow.Author.Rules.{rules}
use mathlib.Core.Bool.{true}
use mathlib.Core.Path.{◌≡◌, ◌∙◌, ap}
use lib.ListN.{length}
use Rattle.std.specs.Prelude.{Err}
use Rattle.grid.specs.Lists.{every}
use Rattle.grid.specs.Records.{in_range}
use Rattle.discovery.specs.Calls.{lent_well, status_before}
use Rattle.discovery.proofs.Calls.{before-zero, well_lent, untouched, room_kept, discovered}
use Rattle.discovery.proofs.call.discover_times.Goals as goal
use Rattle.discovery.proofs.call.discover_times.Goals.{In_ok-check}

pub returns-in_err-check : goal.returns-in_err-check
returns-in_err-check c =
    let e : c.from_residual.result ≡ Err c.in_err-check.field-0.0 = search rules in
    rw e (untouched c.args.upper.now c.args.seedtimes.now c.args.pending.now c.args.intimes.now c.args.invalues.now c.args.indiffs.now c.args.outtimes.now c.args.seeds.now c.args.times.now c.args.values.now c.args.diffs.now c.args.output.now c.args.meets.now c.args.waiting.now c.args.tracked.now c.args.moments.now c.args.pended.now c.args.work.now c.args.places.now c.args.wvalues.now c.args.wdiffs.now _ _ (c.in_err-check.ensures ∙ ap (λ w. status_before w c.args.indiffs.now) c.is_lent_well-well.ensures))

-- once all was tested
lent_right : (c : In_ok-check) → (lent_well (length c.args.seedtimes.now) (length c.args.pending.now) (length c.args.intimes.now) (length c.args.invalues.now) (length c.args.indiffs.now) (length c.args.outtimes.now) (length c.args.seeds.now) (length c.args.times.now) (length c.args.values.now) (length c.args.diffs.now) (length c.args.output.now) (length c.args.meets.now) (length c.args.waiting.now) (length c.args.tracked.now) (length c.args.moments.now) (length c.args.pended.now) (length c.args.work.now) (length c.args.places.now) (length c.args.wvalues.now) (length c.args.wdiffs.now) ≡ true) × (every in_range c.args.indiffs.now ≡ true)
lent_right c = before-zero _ c.args.indiffs.now (c.in_ok-check.ensures ∙ ap (λ w. status_before w c.args.indiffs.now) c.is_lent_well-well.ensures)

pub discover_key-f-requires : goal.discover_key-f-requires
discover_key-f-requires c = well_lent c.args.seedtimes.now c.args.pending.now c.args.intimes.now c.args.invalues.now c.args.indiffs.now c.args.outtimes.now c.args.seeds.now c.args.times.now c.args.values.now c.args.diffs.now c.args.output.now c.args.meets.now c.args.waiting.now c.args.tracked.now c.args.moments.now c.args.pended.now c.args.work.now c.args.places.now c.args.wvalues.now c.args.wdiffs.now (lent_right (goal.at.discover_key-f-requires c).In_ok-check)

pub clear_all-requires : goal.clear_all-requires
clear_all-requires c = room_kept c.args.upper.now (well_lent c.args.seedtimes.now c.args.pending.now c.args.intimes.now c.args.invalues.now c.args.indiffs.now c.args.outtimes.now c.args.seeds.now c.args.times.now c.args.values.now c.args.diffs.now c.args.output.now c.args.meets.now c.args.waiting.now c.args.tracked.now c.args.moments.now c.args.pended.now c.args.work.now c.args.places.now c.args.wvalues.now c.args.wdiffs.now (lent_right (goal.at.clear_all-requires c).In_ok-check)) c.discover_key-f.ensures c.discover_key-f.auto.moments c.discover_key-f.auto.pended

pub returns : goal.returns
returns c = discovered c.args.upper.now c.args.seedtimes.now c.args.pending.now c.args.intimes.now c.args.invalues.now c.args.indiffs.now c.args.outtimes.now _ c.discover_key-f.new.diffs c.discover_key-f.new.wdiffs (lent_right (goal.at.returns c).In_ok-check) c.discover_key-f.ensures (room_kept c.args.upper.now (well_lent c.args.seedtimes.now c.args.pending.now c.args.intimes.now c.args.invalues.now c.args.indiffs.now c.args.outtimes.now c.args.seeds.now c.args.times.now c.args.values.now c.args.diffs.now c.args.output.now c.args.meets.now c.args.waiting.now c.args.tracked.now c.args.moments.now c.args.pended.now c.args.work.now c.args.places.now c.args.wvalues.now c.args.wdiffs.now (lent_right (goal.at.returns c).In_ok-check)) c.discover_key-f.ensures c.discover_key-f.auto.moments c.discover_key-f.auto.pended) c.discover_key-f.auto.seeds c.discover_key-f.auto.times c.discover_key-f.auto.values c.discover_key-f.auto.diffs c.discover_key-f.auto.output c.discover_key-f.auto.meets c.discover_key-f.auto.waiting c.discover_key-f.auto.tracked c.discover_key-f.auto.moments c.discover_key-f.auto.pended c.discover_key-f.auto.work c.discover_key-f.auto.places c.discover_key-f.auto.wvalues c.discover_key-f.auto.wdiffs c.clear_all.ensures.publishes c.clear_all.ensures.clears c.clear_all.ensures.clears_input_and_work c.clear_all.ensures.diffs_after
