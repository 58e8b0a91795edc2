use Rattle.pops.proofs.Five.{all_popped}
use native.Mathlib.Omega.{arith}
use Rattle.std.proofs.lemmas.Bool.Decides.{nat_tests}
use Rattle.pops.proofs.stepping.pop_all.Goals as goal

pub returns : goal.returns
returns c = all_popped _ _ _ c.requires.standing c.step_while_time_is-i.auto.times c.step_while_time_is-i.auto.values c.step_while_time_is-i.auto.diffs c.step_while_time_is-o.auto.times c.step_while_time_is-i.ensures c.step_while_time_is-o.ensures c.step_seeds-s.ensures c.track_pending-t.ensures c.track_waiting-w.ensures (grind (arith, nat_tests))
