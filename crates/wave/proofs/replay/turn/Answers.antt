use native.Mathlib.Omega.{arith}
use Rattle.wave.proofs.Replays.{lent-turn, first_more, second_more, turned_first, turned_second}
use Rattle.wave.proofs.replay.turn.Goals as goal

pub step_beside-t-requires : goal.step_beside-t-requires
step_beside-t-requires c =
    lent-turn c.requires.first_side c.requires.second_side c.requires.more.0 (first_more c.args.s c.requires.first_side c.requires.second_side c.first_steps.ensures c.if-first_steps.true)

pub returns-then-first_steps : goal.returns-then-first_steps
returns-then-first_steps c =
    let all = turned_first c.args.s c.requires.first_side c.requires.second_side c.first_steps.ensures _ _ _ _ _ _ (omega arith) (omega arith) (omega arith) (omega arith) (omega arith) (omega arith) c.if-first_steps.true c.step_beside-t.ensures in record { turned = all.0; first_side = all.1.0; second_side = all.1.1 }

pub step_beside-t-requires-else-first_steps : goal.step_beside-t-requires-else-first_steps
step_beside-t-requires-else-first_steps c =
    lent-turn c.requires.second_side c.requires.first_side c.requires.more.0 (second_more c.args.s c.requires.first_side c.requires.second_side c.first_steps.ensures c.if-first_steps.false c.requires.more.1)

pub returns-else-first_steps : goal.returns-else-first_steps
returns-else-first_steps c =
    let all = turned_second c.args.s c.requires.first_side c.requires.second_side c.first_steps.ensures _ _ _ _ _ _ (omega arith) (omega arith) (omega arith) (omega arith) (omega arith) (omega arith) c.if-first_steps.false c.requires.more.1 c.step_beside-t-else-first_steps.ensures in record { turned = all.0; first_side = all.1.0; second_side = all.1.1 }
