use native.Mathlib.Omega.{arith}
use mathlib.Core.Path.{sym, ◌∙◌}
use Rattle.emissions.proofs.Heads.{on_few, on_more}
use Rattle.wave.proofs.Replaying.{replaying_start, replaying_turn, replaying_end}
use Rattle.wave.proofs.replay.replay.Goals as goal

pub loop-times-init : goal.loop-times-init
loop-times-init c = replaying_start c.args.outtimes.now c.args.outfirsts.now c.args.outseconds.now c.args.outdiffs.now c.requires.first_side c.requires.second_side

pub turn-s-requires : goal.turn-s-requires
turn-s-requires c =
    let o = sym c.goes_on.ensures ∙ c.loop-times-test.true in
    record { first_side = c.loop-times.invariant.first; second_side = c.loop-times.invariant.second; more = (on_few _ _ _ o, on_more _ _ _ o) }

pub loop-times-preserved : goal.loop-times-preserved
loop-times-preserved c = replaying_turn c.loop-times.invariant (sym c.goes_on.ensures ∙ c.loop-times-test.true) (omega arith) (omega arith) c.turn-s.ensures.turned c.turn-s.ensures.first_side c.turn-s.ensures.second_side

pub returns : goal.returns
returns c = replaying_end c.loop-times.invariant (sym c.goes_on.ensures ∙ c.loop-times-test.false)
