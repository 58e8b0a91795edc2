use Rattle.std.proofs.lemmas.Result.{err_from_is_err_and}
use Rattle.backends.specs.Modes.{mode_number}
use Rattle.plain.proofs.Settling.{plain_lays, plain_asks, plain_more, plain_over}
use Rattle.fixing.proofs.Slotting.{slotting_start, slotting_end, slot_input, slot_output, slot_moments, slot_places}
use Rattle.plain.proofs.window.settle_plainly.Goals as goal

pub loop-b-init : goal.loop-b-init
loop-b-init c = slotting_start (mode_number c.args.mode) c.requires.0 c.requires.1

pub offset_bounds-outvalues-of : goal.offset_bounds-outvalues-of
offset_bounds-outvalues-of c = record { fits = (slot_places c.loop-b.invariant c.loop-b-test.true).1.1 }

pub slice_bounds-append_edits-count : goal.slice_bounds-append_edits-count
slice_bounds-append_edits-count c = (slot_output c.loop-b.invariant c.loop-b-test.true).0

pub slice_bounds-append_edits-start : goal.slice_bounds-append_edits-start
slice_bounds-append_edits-start c = (slot_output c.loop-b.invariant c.loop-b-test.true).0

pub slice_bounds-append_edits-end : goal.slice_bounds-append_edits-end
slice_bounds-append_edits-end c = (slot_output c.loop-b.invariant c.loop-b-test.true).1.0

pub offset_bounds-outtimes-of : goal.offset_bounds-outtimes-of
offset_bounds-outtimes-of c = record { fits = (slot_places c.loop-b.invariant c.loop-b-test.true).1.1 }

pub slice_bounds-append_edits-count-in-loop-b : goal.slice_bounds-append_edits-count-in-loop-b
slice_bounds-append_edits-count-in-loop-b c = (slot_output c.loop-b.invariant c.loop-b-test.true).0

pub slice_bounds-append_edits-start-in-loop-b : goal.slice_bounds-append_edits-start-in-loop-b
slice_bounds-append_edits-start-in-loop-b c = (slot_output c.loop-b.invariant c.loop-b-test.true).0

pub slice_bounds-append_edits-end-in-loop-b : goal.slice_bounds-append_edits-end-in-loop-b
slice_bounds-append_edits-end-in-loop-b c = (slot_output c.loop-b.invariant c.loop-b-test.true).1.1.0

pub offset_bounds-outdiffs-of : goal.offset_bounds-outdiffs-of
offset_bounds-outdiffs-of c = record { fits = (slot_places c.loop-b.invariant c.loop-b-test.true).1.1 }

pub slice_bounds-append_edits-count-in-loop-b-2 : goal.slice_bounds-append_edits-count-in-loop-b-2
slice_bounds-append_edits-count-in-loop-b-2 c = (slot_output c.loop-b.invariant c.loop-b-test.true).0

pub slice_bounds-append_edits-start-in-loop-b-2 : goal.slice_bounds-append_edits-start-in-loop-b-2
slice_bounds-append_edits-start-in-loop-b-2 c = (slot_output c.loop-b.invariant c.loop-b-test.true).0

pub slice_bounds-append_edits-end-in-loop-b-2 : goal.slice_bounds-append_edits-end-in-loop-b-2
slice_bounds-append_edits-end-in-loop-b-2 c = (slot_output c.loop-b.invariant c.loop-b-test.true).1.1.1

pub append_edits-n-requires : goal.append_edits-n-requires
append_edits-n-requires c = plain_lays c.loop-b.invariant c.loop-b-test.true

pub offset_bounds-moments-start : goal.offset_bounds-moments-start
offset_bounds-moments-start c = record { fits = (slot_places c.loop-b.invariant c.loop-b-test.true).0 }

pub slice_bounds-rounds_plainly-count : goal.slice_bounds-rounds_plainly-count
slice_bounds-rounds_plainly-count c = (slot_moments c.loop-b.invariant c.loop-b-test.true).0

pub slice_bounds-rounds_plainly-start : goal.slice_bounds-rounds_plainly-start
slice_bounds-rounds_plainly-start c = (slot_moments c.loop-b.invariant c.loop-b-test.true).0

pub slice_bounds-rounds_plainly-end : goal.slice_bounds-rounds_plainly-end
slice_bounds-rounds_plainly-end c = (slot_moments c.loop-b.invariant c.loop-b-test.true).1.0

pub offset_bounds-tv-f : goal.offset_bounds-tv-f
offset_bounds-tv-f c = record { fits = (slot_places c.loop-b.invariant c.loop-b-test.true).1.0 }

pub slice_bounds-rounds_plainly-count-in-loop-b : goal.slice_bounds-rounds_plainly-count-in-loop-b
slice_bounds-rounds_plainly-count-in-loop-b c = (slot_input c.loop-b.invariant c.loop-b-test.true).0

pub slice_bounds-rounds_plainly-start-in-loop-b : goal.slice_bounds-rounds_plainly-start-in-loop-b
slice_bounds-rounds_plainly-start-in-loop-b c = (slot_input c.loop-b.invariant c.loop-b-test.true).0

pub slice_bounds-rounds_plainly-end-in-loop-b : goal.slice_bounds-rounds_plainly-end-in-loop-b
slice_bounds-rounds_plainly-end-in-loop-b c = (slot_input c.loop-b.invariant c.loop-b-test.true).1.0

pub offset_bounds-tt-f : goal.offset_bounds-tt-f
offset_bounds-tt-f c = record { fits = (slot_places c.loop-b.invariant c.loop-b-test.true).1.0 }

pub slice_bounds-rounds_plainly-count-in-loop-b-2 : goal.slice_bounds-rounds_plainly-count-in-loop-b-2
slice_bounds-rounds_plainly-count-in-loop-b-2 c = (slot_input c.loop-b.invariant c.loop-b-test.true).0

pub slice_bounds-rounds_plainly-start-in-loop-b-2 : goal.slice_bounds-rounds_plainly-start-in-loop-b-2
slice_bounds-rounds_plainly-start-in-loop-b-2 c = (slot_input c.loop-b.invariant c.loop-b-test.true).0

pub slice_bounds-rounds_plainly-end-in-loop-b-2 : goal.slice_bounds-rounds_plainly-end-in-loop-b-2
slice_bounds-rounds_plainly-end-in-loop-b-2 c = (slot_input c.loop-b.invariant c.loop-b-test.true).1.1.0

pub offset_bounds-td-f : goal.offset_bounds-td-f
offset_bounds-td-f c = record { fits = (slot_places c.loop-b.invariant c.loop-b-test.true).1.0 }

pub slice_bounds-rounds_plainly-count-in-loop-b-3 : goal.slice_bounds-rounds_plainly-count-in-loop-b-3
slice_bounds-rounds_plainly-count-in-loop-b-3 c = (slot_input c.loop-b.invariant c.loop-b-test.true).0

pub slice_bounds-rounds_plainly-start-in-loop-b-3 : goal.slice_bounds-rounds_plainly-start-in-loop-b-3
slice_bounds-rounds_plainly-start-in-loop-b-3 c = (slot_input c.loop-b.invariant c.loop-b-test.true).0

pub slice_bounds-rounds_plainly-end-in-loop-b-3 : goal.slice_bounds-rounds_plainly-end-in-loop-b-3
slice_bounds-rounds_plainly-end-in-loop-b-3 c = (slot_input c.loop-b.invariant c.loop-b-test.true).1.1.1

pub rounds_plainly-requires : goal.rounds_plainly-requires
rounds_plainly-requires c = plain_asks c.loop-b.invariant c.loop-b-test.true c.append_edits-n.ensures c.append_edits-n.auto.yv c.append_edits-n.auto.yt c.append_edits-n.auto.yd

pub returns-in_err-fixes : goal.returns-in_err-fixes
returns-in_err-fixes c = let p = err_from_is_err_and c.from_residual.result c.from_residual.ensures.1 in rw p.1 (plain_over c.loop-b.invariant c.loop-b-test.true c.append_edits-n.ensures c.append_edits-n.auto.yv c.append_edits-n.auto.yt c.append_edits-n.auto.yd c.in_err-fixes.ensures)

pub loop-b-preserved : goal.loop-b-preserved
loop-b-preserved c = plain_more c.loop-b.invariant c.loop-b-test.true c.append_edits-n.ensures c.append_edits-n.auto.yv c.append_edits-n.auto.yt c.append_edits-n.auto.yd c.in_ok-fixes.ensures c.rounds_plainly.auto.uv c.rounds_plainly.auto.ut c.rounds_plainly.auto.ud c.rounds_plainly.auto.iv c.rounds_plainly.auto.id c.rounds_plainly.auto.ov c.rounds_plainly.auto.od c.rounds_plainly.auto.cv c.rounds_plainly.auto.cd c.rounds_plainly.auto.marks c.rounds_plainly.auto.fk c.rounds_plainly.auto.fv c.rounds_plainly.auto.ft c.rounds_plainly.auto.fd

pub returns : goal.returns
returns c = slotting_end c.loop-b.invariant c.loop-b-test.false
