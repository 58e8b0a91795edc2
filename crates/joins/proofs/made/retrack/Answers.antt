use mathlib.Core.Path.{ap}
use Rattle.times.specs.Meets.{optional}
use Rattle.joins.proofs.Sets.{retracked_some, retracked_none}
use Rattle.joins.proofs.made.retrack.Goals as goal

pub returns-in-Some : goal.returns-in-Some
returns-in-Some c = retracked_some (ap optional c.in-Some.is) c.advance_times.ensures

pub returns-in-None : goal.returns-in-None
returns-in-None c = retracked_none _ _ (ap optional c.in-None.is) c.requires.0 c.sort_distinct.ensures.0
