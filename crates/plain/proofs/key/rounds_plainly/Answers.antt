use Rattle.std.proofs.lemmas.Result.{err_from_is_err_and}
use Rattle.backends.specs.Modes.{mode_number}
use Rattle.plain.proofs.Going.{going_start, going_asks, going_more, going_over, going_end}
use Rattle.plain.proofs.key.rounds_plainly.Goals as goal

pub loop-j-init : goal.loop-j-init
loop-j-init c = going_start (mode_number c.args.mode) c.args.key.0 c.requires

pub turn_plainly-requires : goal.turn_plainly-requires
turn_plainly-requires c = going_asks c.loop-j.invariant c.loop-j-test.true

pub returns-in_err-r : goal.returns-in_err-r
returns-in_err-r c = let p = err_from_is_err_and c.from_residual.result c.from_residual.ensures.1 in rw p.1 (going_over c.loop-j.invariant c.loop-j-test.true c.in_err-r.ensures)

pub loop-j-preserved : goal.loop-j-preserved
loop-j-preserved c = going_more c.loop-j.invariant c.loop-j-test.true c.in_ok-r.ensures c.mark.ensures c.turn_plainly.auto.uv c.turn_plainly.auto.ut c.turn_plainly.auto.ud c.turn_plainly.auto.iv c.turn_plainly.auto.id c.turn_plainly.auto.ov c.turn_plainly.auto.od c.turn_plainly.auto.cv c.turn_plainly.auto.cd c.turn_plainly.auto.fk c.turn_plainly.auto.fv c.turn_plainly.auto.ft c.turn_plainly.auto.fd

pub returns : goal.returns
returns c = going_end c.loop-j.invariant c.loop-j-test.false
