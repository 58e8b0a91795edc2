use Rattle.histories.proofs.Advances.{advances_some, advances_none}
use Rattle.times.specs.Meets.{optional}
use mathlib.Core.Path.{ap}
use Rattle.histories.proofs.time_history.advance_buffer_by.Goals as goal

pub returns-in-Some : goal.returns-in-Some
returns-in-Some c = advances_some _ _ _ c.requires.0 c.requires.1 (ap optional c.in-Some.is) c.advance_by.ensures

pub returns-in-None : goal.returns-in-None
returns-in-None c = advances_none _ _ _ c.requires.0 c.requires.1 (ap optional c.in-None.is)
