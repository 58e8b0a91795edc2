use Rattle.std.proofs.Common.{rules}
use Rattle.grid.specs.Times.{joined}
use Rattle.times.proofs.optional.joined.Goals as goal

pub returns-in-Some : goal.returns-in-Some
unfolding joined
returns-in-Some c = search rules

pub returns-in-None : goal.returns-in-None
unfolding joined
returns-in-None c = search rules
