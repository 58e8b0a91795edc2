use Rattle.std.proofs.Common.{rules}
use Rattle.grid.specs.Frontiers.{comparable}
use Rattle.times.proofs.time.PackedTime.comparable.Goals as goal

pub returns-then-below : goal.returns-then-below
unfolding comparable
returns-then-below c = search rules

pub returns-else-below : goal.returns-else-below
unfolding comparable
returns-else-below c = search rules
