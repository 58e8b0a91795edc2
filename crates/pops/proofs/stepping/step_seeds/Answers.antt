use Rattle.pops.proofs.Tracks.{seeds_some, seeds_none}
use Rattle.pops.proofs.stepping.step_seeds.Goals as goal

pub returns-then-s : goal.returns-then-s
returns-then-s c = seeds_some c.requires.0 c.step_while_time_is-s.auto.times c.step_while_time_is-s.ensures c.if-s.true c.advance_times-count.ensures

pub returns-else-s : goal.returns-else-s
returns-else-s c = seeds_none c.requires.0 c.step_while_time_is-s.auto.times c.step_while_time_is-s.ensures c.if-s.false
