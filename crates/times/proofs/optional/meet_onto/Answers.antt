use Rattle.std.proofs.Common.{rules}
use Rattle.grid.specs.Times.{meet_onto}
use Rattle.times.proofs.optional.meet_onto.Goals as goal

pub returns-in-Some : goal.returns-in-Some
unfolding meet_onto
returns-in-Some c = search rules

pub returns-in-None : goal.returns-in-None
unfolding meet_onto
returns-in-None c = search rules
