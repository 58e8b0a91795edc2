use Rattle.std.proofs.lemmas.Result.{err_from_is_err_and}
use Rattle.backends.specs.Modes.{mode_number}
use Rattle.fixing.proofs.Corrected.{column_within}
use Rattle.plain.proofs.Turned.{turn_shows, turn_shows_out, turn_fits, turn_skips, turn-fixes, turn-over, turn_merges, turn_done}
use Rattle.plain.proofs.round.turn_plainly.Goals as goal

pub present-a-requires : goal.present-a-requires
present-a-requires c = turn_shows c.requires

pub present-b-requires : goal.present-b-requires
present-b-requires c = turn_shows_out c.requires

pub overflow_add-a : goal.overflow_add-a
overflow_add-a c = record { fits = turn_fits c.requires (mode_number c.args.mode) c.args.key.0 c.args.t.0 c.present-a.ensures c.present-b.ensures }

pub returns-then-a-b-eq0 : goal.returns-then-a-b-eq0
returns-then-a-b-eq0 c = turn_skips c.requires (mode_number c.args.mode) c.args.key.0 c.args.t.0 c.present-a.ensures c.present-b.ensures c.if-a-b-eq0.true

pub slice_bounds-settle_moment-end : goal.slice_bounds-settle_moment-end
slice_bounds-settle_moment-end c = column_within c.present-a.ensures.values

pub slice_bounds-settle_moment-end-2 : goal.slice_bounds-settle_moment-end-2
slice_bounds-settle_moment-end-2 c = column_within c.present-a.ensures.diffs

pub slice_bounds-settle_moment-end-3 : goal.slice_bounds-settle_moment-end-3
slice_bounds-settle_moment-end-3 c = column_within c.present-b.ensures.values

pub slice_bounds-settle_moment-end-4 : goal.slice_bounds-settle_moment-end-4
slice_bounds-settle_moment-end-4 c = column_within c.present-b.ensures.diffs

pub settle_moment-requires : goal.settle_moment-requires
settle_moment-requires c = turn-fixes c.requires (mode_number c.args.mode) c.args.key.0 c.args.t.0 c.present-a.ensures c.present-b.ensures

pub returns-in_err-f : goal.returns-in_err-f
returns-in_err-f c = let p = err_from_is_err_and c.from_residual.result c.from_residual.ensures.1 in rw p.1 (turn-over c.requires (mode_number c.args.mode) c.args.key.0 c.args.t.0 c.present-a.ensures c.present-b.ensures c.if-a-b-eq0.false c.in_err-f.ensures)

pub slice_bounds-merge_back-end : goal.slice_bounds-merge_back-end
slice_bounds-merge_back-end c = column_within c.in_ok-f.ensures.corrected.values

pub slice_bounds-merge_back-end-2 : goal.slice_bounds-merge_back-end-2
slice_bounds-merge_back-end-2 c = column_within c.in_ok-f.ensures.corrected.diffs

pub merge_back-output-requires : goal.merge_back-output-requires
merge_back-output-requires c = turn_merges c.requires (mode_number c.args.mode) c.args.key.0 c.args.t.0 c.present-a.ensures c.present-b.ensures c.if-a-b-eq0.false c.in_ok-f.ensures c.present-a.auto.sv c.present-b.auto.sv c.present-a.auto.sd

pub returns : goal.returns
returns c = turn_done c.requires (mode_number c.args.mode) c.args.key.0 c.args.t.0 c.present-a.ensures c.present-b.ensures c.if-a-b-eq0.false c.in_ok-f.ensures c.merge_back-output.ensures
