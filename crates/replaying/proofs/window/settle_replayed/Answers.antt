use Rattle.std.proofs.lemmas.Result.{err_from_is_err_and}
use mathlib.Core.Path.{sym}
use Rattle.backends.specs.Modes.{mode_number}
use Rattle.replaying.proofs.Settling.{loads_start, loads_again, replay_asks, replay_more, replay_over}
use Rattle.fixing.proofs.Slotting.{slotting_start, slotting_end, slot_input, slot_output, slot_moments, slot_places}
use Rattle.replaying.proofs.window.settle_replayed.Goals as goal

pub loop-b-init : goal.loop-b-init
loop-b-init c = (slotting_start (mode_number c.args.mode) c.requires.0 c.requires.1, loads_start)

pub offset_bounds-moments-start : goal.offset_bounds-moments-start
offset_bounds-moments-start c = record { fits = (slot_places c.loop-b.invariant.0 c.loop-b-test.true).0 }

pub slice_bounds-replay_key-count : goal.slice_bounds-replay_key-count
slice_bounds-replay_key-count c = (slot_moments c.loop-b.invariant.0 c.loop-b-test.true).0

pub slice_bounds-replay_key-start : goal.slice_bounds-replay_key-start
slice_bounds-replay_key-start c = (slot_moments c.loop-b.invariant.0 c.loop-b-test.true).0

pub slice_bounds-replay_key-end : goal.slice_bounds-replay_key-end
slice_bounds-replay_key-end c = (slot_moments c.loop-b.invariant.0 c.loop-b-test.true).1.0

pub offset_bounds-tv-f : goal.offset_bounds-tv-f
offset_bounds-tv-f c = record { fits = (slot_places c.loop-b.invariant.0 c.loop-b-test.true).1.0 }

pub slice_bounds-replay_key-count-in-loop-b : goal.slice_bounds-replay_key-count-in-loop-b
slice_bounds-replay_key-count-in-loop-b c = (slot_input c.loop-b.invariant.0 c.loop-b-test.true).0

pub slice_bounds-replay_key-start-in-loop-b : goal.slice_bounds-replay_key-start-in-loop-b
slice_bounds-replay_key-start-in-loop-b c = (slot_input c.loop-b.invariant.0 c.loop-b-test.true).0

pub slice_bounds-replay_key-end-in-loop-b : goal.slice_bounds-replay_key-end-in-loop-b
slice_bounds-replay_key-end-in-loop-b c = (slot_input c.loop-b.invariant.0 c.loop-b-test.true).1.0

pub offset_bounds-tt-f : goal.offset_bounds-tt-f
offset_bounds-tt-f c = record { fits = (slot_places c.loop-b.invariant.0 c.loop-b-test.true).1.0 }

pub slice_bounds-replay_key-count-in-loop-b-2 : goal.slice_bounds-replay_key-count-in-loop-b-2
slice_bounds-replay_key-count-in-loop-b-2 c = (slot_input c.loop-b.invariant.0 c.loop-b-test.true).0

pub slice_bounds-replay_key-start-in-loop-b-2 : goal.slice_bounds-replay_key-start-in-loop-b-2
slice_bounds-replay_key-start-in-loop-b-2 c = (slot_input c.loop-b.invariant.0 c.loop-b-test.true).0

pub slice_bounds-replay_key-end-in-loop-b-2 : goal.slice_bounds-replay_key-end-in-loop-b-2
slice_bounds-replay_key-end-in-loop-b-2 c = (slot_input c.loop-b.invariant.0 c.loop-b-test.true).1.1.0

pub offset_bounds-td-f : goal.offset_bounds-td-f
offset_bounds-td-f c = record { fits = (slot_places c.loop-b.invariant.0 c.loop-b-test.true).1.0 }

pub slice_bounds-replay_key-count-in-loop-b-3 : goal.slice_bounds-replay_key-count-in-loop-b-3
slice_bounds-replay_key-count-in-loop-b-3 c = (slot_input c.loop-b.invariant.0 c.loop-b-test.true).0

pub slice_bounds-replay_key-start-in-loop-b-3 : goal.slice_bounds-replay_key-start-in-loop-b-3
slice_bounds-replay_key-start-in-loop-b-3 c = (slot_input c.loop-b.invariant.0 c.loop-b-test.true).0

pub slice_bounds-replay_key-end-in-loop-b-3 : goal.slice_bounds-replay_key-end-in-loop-b-3
slice_bounds-replay_key-end-in-loop-b-3 c = (slot_input c.loop-b.invariant.0 c.loop-b-test.true).1.1.1

pub offset_bounds-outvalues-of : goal.offset_bounds-outvalues-of
offset_bounds-outvalues-of c = record { fits = (slot_places c.loop-b.invariant.0 c.loop-b-test.true).1.1 }

pub slice_bounds-replay_key-count-in-loop-b-4 : goal.slice_bounds-replay_key-count-in-loop-b-4
slice_bounds-replay_key-count-in-loop-b-4 c = (slot_output c.loop-b.invariant.0 c.loop-b-test.true).0

pub slice_bounds-replay_key-start-in-loop-b-4 : goal.slice_bounds-replay_key-start-in-loop-b-4
slice_bounds-replay_key-start-in-loop-b-4 c = (slot_output c.loop-b.invariant.0 c.loop-b-test.true).0

pub slice_bounds-replay_key-end-in-loop-b-4 : goal.slice_bounds-replay_key-end-in-loop-b-4
slice_bounds-replay_key-end-in-loop-b-4 c = (slot_output c.loop-b.invariant.0 c.loop-b-test.true).1.0

pub offset_bounds-outtimes-of : goal.offset_bounds-outtimes-of
offset_bounds-outtimes-of c = record { fits = (slot_places c.loop-b.invariant.0 c.loop-b-test.true).1.1 }

pub slice_bounds-replay_key-count-in-loop-b-5 : goal.slice_bounds-replay_key-count-in-loop-b-5
slice_bounds-replay_key-count-in-loop-b-5 c = (slot_output c.loop-b.invariant.0 c.loop-b-test.true).0

pub slice_bounds-replay_key-start-in-loop-b-5 : goal.slice_bounds-replay_key-start-in-loop-b-5
slice_bounds-replay_key-start-in-loop-b-5 c = (slot_output c.loop-b.invariant.0 c.loop-b-test.true).0

pub slice_bounds-replay_key-end-in-loop-b-5 : goal.slice_bounds-replay_key-end-in-loop-b-5
slice_bounds-replay_key-end-in-loop-b-5 c = (slot_output c.loop-b.invariant.0 c.loop-b-test.true).1.1.0

pub offset_bounds-outdiffs-of : goal.offset_bounds-outdiffs-of
offset_bounds-outdiffs-of c = record { fits = (slot_places c.loop-b.invariant.0 c.loop-b-test.true).1.1 }

pub slice_bounds-replay_key-count-in-loop-b-6 : goal.slice_bounds-replay_key-count-in-loop-b-6
slice_bounds-replay_key-count-in-loop-b-6 c = (slot_output c.loop-b.invariant.0 c.loop-b-test.true).0

pub slice_bounds-replay_key-start-in-loop-b-6 : goal.slice_bounds-replay_key-start-in-loop-b-6
slice_bounds-replay_key-start-in-loop-b-6 c = (slot_output c.loop-b.invariant.0 c.loop-b-test.true).0

pub slice_bounds-replay_key-end-in-loop-b-6 : goal.slice_bounds-replay_key-end-in-loop-b-6
slice_bounds-replay_key-end-in-loop-b-6 c = (slot_output c.loop-b.invariant.0 c.loop-b-test.true).1.1.1

pub slice_bounds-replay_key-end-in-loop-b-7 : goal.slice_bounds-replay_key-end-in-loop-b-7
slice_bounds-replay_key-end-in-loop-b-7 c = sym c.loop-b.invariant.1.long_far

pub slice_bounds-replay_key-end-in-loop-b-8 : goal.slice_bounds-replay_key-end-in-loop-b-8
slice_bounds-replay_key-end-in-loop-b-8 c = sym c.loop-b.invariant.1.long_yv

pub slice_bounds-replay_key-end-in-loop-b-9 : goal.slice_bounds-replay_key-end-in-loop-b-9
slice_bounds-replay_key-end-in-loop-b-9 c = sym c.loop-b.invariant.1.long_yt

pub slice_bounds-replay_key-end-in-loop-b-10 : goal.slice_bounds-replay_key-end-in-loop-b-10
slice_bounds-replay_key-end-in-loop-b-10 c = sym c.loop-b.invariant.1.long_yd

pub slice_bounds-replay_key-end-in-loop-b-11 : goal.slice_bounds-replay_key-end-in-loop-b-11
slice_bounds-replay_key-end-in-loop-b-11 c = sym c.loop-b.invariant.1.long_zv

pub slice_bounds-replay_key-end-in-loop-b-12 : goal.slice_bounds-replay_key-end-in-loop-b-12
slice_bounds-replay_key-end-in-loop-b-12 c = sym c.loop-b.invariant.1.long_zt

pub slice_bounds-replay_key-end-in-loop-b-13 : goal.slice_bounds-replay_key-end-in-loop-b-13
slice_bounds-replay_key-end-in-loop-b-13 c = sym c.loop-b.invariant.1.long_zd

pub replay_key-requires : goal.replay_key-requires
replay_key-requires c = replay_asks c.loop-b.invariant.0 c.loop-b-test.true c.loop-b.invariant.1

pub returns-in_err-fixes : goal.returns-in_err-fixes
returns-in_err-fixes c = let p = err_from_is_err_and c.from_residual.result c.from_residual.ensures.1 in rw p.1 (replay_over c.loop-b.invariant.0 c.loop-b-test.true c.in_err-fixes.ensures)

pub loop-b-preserved : goal.loop-b-preserved
loop-b-preserved c = (replay_more c.loop-b.invariant.0 c.loop-b-test.true c.in_ok-fixes.ensures c.replay_key.auto.uv c.replay_key.auto.ut c.replay_key.auto.ud c.replay_key.auto.iv c.replay_key.auto.id c.replay_key.auto.ov c.replay_key.auto.od c.replay_key.auto.cv c.replay_key.auto.cd c.replay_key.auto.marks c.replay_key.auto.fk c.replay_key.auto.fv c.replay_key.auto.ft c.replay_key.auto.fd, loads_again c.loop-b.invariant.1 c.replay_key.auto.far c.replay_key.auto.xv c.replay_key.auto.xt c.replay_key.auto.xd c.replay_key.auto.sv c.replay_key.auto.st c.replay_key.auto.sd)

pub returns : goal.returns
returns c = slotting_end c.loop-b.invariant.0 c.loop-b-test.false
