use Rattle.std.proofs.lemmas.Result.{err_from_is_err_and}
use mathlib.Core.Path.{refl}
use Rattle.replay.proofs.Playing.{playing_start, playing_turn, playing_more, playing_over, playing_end}
use Rattle.replay.proofs.all.replay_rounds.Goals as goal

pub loop-j-init : goal.loop-j-init
loop-j-init c = playing_start _ _ c.requires

pub turn_replayed-requires : goal.turn_replayed-requires
turn_replayed-requires c = playing_turn c.loop-j.invariant c.loop-j-test.true

pub returns-in_err-w : goal.returns-in_err-w
returns-in_err-w c = let p = err_from_is_err_and c.from_residual.result c.from_residual.ensures.1 in rw p.1 (playing_over c.loop-j.invariant c.loop-j-test.true c.in_err-w.ensures.large_is)

pub loop-j-preserved : goal.loop-j-preserved
loop-j-preserved c = playing_more c.loop-j.invariant c.loop-j-test.true c.in_ok-w.ensures c.mark.ensures c.turn_replayed.auto.xv c.turn_replayed.auto.xt c.turn_replayed.auto.xd c.turn_replayed.auto.uv c.turn_replayed.auto.ut c.turn_replayed.auto.ud c.turn_replayed.auto.iv c.turn_replayed.auto.id c.turn_replayed.auto.ov c.turn_replayed.auto.od c.turn_replayed.auto.cv c.turn_replayed.auto.cd c.turn_replayed.auto.fk c.turn_replayed.auto.fv c.turn_replayed.auto.ft c.turn_replayed.auto.fd

pub returns : goal.returns
returns c = playing_end c.loop-j.invariant c.loop-j-test.false refl
