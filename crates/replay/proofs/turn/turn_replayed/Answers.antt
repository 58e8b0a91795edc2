use Rattle.std.proofs.lemmas.Result.{err_from_is_err_and}
use Rattle.replay.proofs.Rounding.{gather_input, gather_output, input_bounds, show_input, output_bounds, show_output, adds_fit, nothing_taken, fix_asks, over_taken, date_asks, fixed_taken}
use Rattle.fixing.proofs.Corrected.{column_within}
use mathlib.Core.Path.{◌∙◌}
use Rattle.replay.proofs.turn.turn_replayed.Goals as goal

pub gather_within-x-requires : goal.gather_within-x-requires
gather_within-x-requires c = gather_input c.requires

pub gather_from-u-requires : goal.gather_from-u-requires
gather_from-u-requires c = gather_output c.requires c.gather_within-x.auto.places c.gather_within-x.auto.firsts c.gather_within-x.auto.seconds c.gather_within-x.auto.sums

pub slice_bounds-present-end : goal.slice_bounds-present-end
slice_bounds-present-end c = (input_bounds c.requires _ _ _ c.gather_within-x.ensures c.gather_within-x.auto.xv c.gather_within-x.auto.xt c.gather_within-x.auto.xd).0

pub slice_bounds-present-end-2 : goal.slice_bounds-present-end-2
slice_bounds-present-end-2 c = (input_bounds c.requires _ _ _ c.gather_within-x.ensures c.gather_within-x.auto.xv c.gather_within-x.auto.xt c.gather_within-x.auto.xd).1.0

pub slice_bounds-present-end-3 : goal.slice_bounds-present-end-3
slice_bounds-present-end-3 c = (input_bounds c.requires _ _ _ c.gather_within-x.ensures c.gather_within-x.auto.xv c.gather_within-x.auto.xt c.gather_within-x.auto.xd).1.1

pub present-a-requires : goal.present-a-requires
present-a-requires c = show_input c.requires _ _ _ c.gather_within-x.ensures c.gather_within-x.auto.xv c.gather_within-x.auto.xt c.gather_within-x.auto.xd (c.gather_from-u.auto.firsts ∙ c.gather_within-x.auto.firsts)

pub slice_bounds-present-end-4 : goal.slice_bounds-present-end-4
slice_bounds-present-end-4 c = (output_bounds c.requires _ _ _ c.gather_within-x.ensures c.gather_within-x.auto.xv c.gather_within-x.auto.xt c.gather_within-x.auto.xd _ _ _ c.gather_from-u.ensures c.gather_from-u.auto.uv c.gather_from-u.auto.ut c.gather_from-u.auto.ud).0

pub slice_bounds-present-end-5 : goal.slice_bounds-present-end-5
slice_bounds-present-end-5 c = (output_bounds c.requires _ _ _ c.gather_within-x.ensures c.gather_within-x.auto.xv c.gather_within-x.auto.xt c.gather_within-x.auto.xd _ _ _ c.gather_from-u.ensures c.gather_from-u.auto.uv c.gather_from-u.auto.ut c.gather_from-u.auto.ud).1.0

pub slice_bounds-present-end-6 : goal.slice_bounds-present-end-6
slice_bounds-present-end-6 c = (output_bounds c.requires _ _ _ c.gather_within-x.ensures c.gather_within-x.auto.xv c.gather_within-x.auto.xt c.gather_within-x.auto.xd _ _ _ c.gather_from-u.ensures c.gather_from-u.auto.uv c.gather_from-u.auto.ut c.gather_from-u.auto.ud).1.1

pub present-b-requires : goal.present-b-requires
present-b-requires c = show_output c.requires _ _ _ c.gather_within-x.ensures c.gather_within-x.auto.xv c.gather_within-x.auto.xt c.gather_within-x.auto.xd _ _ _ c.gather_from-u.ensures c.gather_from-u.auto.uv c.gather_from-u.auto.ut c.gather_from-u.auto.ud (c.gather_from-u.auto.seconds ∙ c.gather_within-x.auto.seconds) (c.gather_from-u.auto.sums ∙ c.gather_within-x.auto.sums)

pub overflow_add-a : goal.overflow_add-a
overflow_add-a c = record { fits = adds_fit c.requires _ _ _ c.gather_within-x.ensures c.gather_within-x.auto.xv c.gather_within-x.auto.xt c.gather_within-x.auto.xd _ _ _ c.gather_from-u.ensures c.gather_from-u.auto.uv c.gather_from-u.auto.ut c.gather_from-u.auto.ud c.present-a.ensures c.present-b.ensures }

pub returns-then-a-b-eq0 : goal.returns-then-a-b-eq0
returns-then-a-b-eq0 c = nothing_taken c.requires _ _ _ c.gather_within-x.ensures c.gather_within-x.auto.xv c.gather_within-x.auto.xt c.gather_within-x.auto.xd _ _ _ c.gather_from-u.ensures c.gather_from-u.auto.uv c.gather_from-u.auto.ut c.gather_from-u.auto.ud c.present-a.ensures c.present-b.ensures _ _ c.if-a-b-eq0.true

pub slice_bounds-settle_moment-end : goal.slice_bounds-settle_moment-end
slice_bounds-settle_moment-end c = column_within c.present-a.ensures.values

pub slice_bounds-settle_moment-end-2 : goal.slice_bounds-settle_moment-end-2
slice_bounds-settle_moment-end-2 c = column_within c.present-a.ensures.diffs

pub slice_bounds-settle_moment-end-3 : goal.slice_bounds-settle_moment-end-3
slice_bounds-settle_moment-end-3 c = column_within c.present-b.ensures.values

pub slice_bounds-settle_moment-end-4 : goal.slice_bounds-settle_moment-end-4
slice_bounds-settle_moment-end-4 c = column_within c.present-b.ensures.diffs

pub settle_moment-requires : goal.settle_moment-requires
settle_moment-requires c = fix_asks c.requires _ _ _ c.gather_within-x.ensures c.gather_within-x.auto.xv c.gather_within-x.auto.xt c.gather_within-x.auto.xd _ _ _ c.gather_from-u.ensures c.gather_from-u.auto.uv c.gather_from-u.auto.ut c.gather_from-u.auto.ud c.present-a.ensures c.present-b.ensures (c.gather_from-u.auto.places ∙ c.gather_within-x.auto.places) (c.present-a.auto.sv ∙ (c.gather_from-u.auto.firsts ∙ c.gather_within-x.auto.firsts)) c.present-a.auto.sd (c.present-b.auto.sv ∙ (c.gather_from-u.auto.seconds ∙ c.gather_within-x.auto.seconds)) (c.present-b.auto.sd ∙ (c.gather_from-u.auto.sums ∙ c.gather_within-x.auto.sums))

pub returns-in_err-f : goal.returns-in_err-f
returns-in_err-f c =
    let p = err_from_is_err_and c.from_residual.result c.from_residual.ensures.1 in
    rw p.1 (over_taken c.requires _ _ _ c.gather_within-x.ensures c.gather_within-x.auto.xv c.gather_within-x.auto.xt c.gather_within-x.auto.xd _ _ _ c.gather_from-u.ensures c.gather_from-u.auto.uv c.gather_from-u.auto.ut c.gather_from-u.auto.ud c.present-a.ensures c.present-b.ensures c.if-a-b-eq0.false _ _ c.in_err-f.ensures)

pub slice_bounds-append_dated-end : goal.slice_bounds-append_dated-end
slice_bounds-append_dated-end c = column_within c.in_ok-f.ensures.corrected.values

pub slice_bounds-append_dated-end-2 : goal.slice_bounds-append_dated-end-2
slice_bounds-append_dated-end-2 c = column_within c.in_ok-f.ensures.corrected.diffs

pub append_dated-output-requires : goal.append_dated-output-requires
append_dated-output-requires c = date_asks c.requires _ _ _ c.gather_within-x.ensures c.gather_within-x.auto.xv c.gather_within-x.auto.xt c.gather_within-x.auto.xd _ _ _ c.gather_from-u.ensures c.gather_from-u.auto.uv c.gather_from-u.auto.ut c.gather_from-u.auto.ud c.present-a.ensures c.present-b.ensures c.if-a-b-eq0.false _ _ c.in_ok-f.ensures (c.settle_moment.auto.cv ∙ (c.gather_from-u.auto.places ∙ c.gather_within-x.auto.places)) c.settle_moment.auto.cd

pub returns : goal.returns
returns c = fixed_taken c.requires _ _ _ c.gather_within-x.ensures c.gather_within-x.auto.xv c.gather_within-x.auto.xt c.gather_within-x.auto.xd _ _ _ c.gather_from-u.ensures c.gather_from-u.auto.uv c.gather_from-u.auto.ut c.gather_from-u.auto.ud c.present-a.ensures c.present-b.ensures c.if-a-b-eq0.false _ _ c.in_ok-f.ensures _ _ _ c.append_dated-output.ensures
