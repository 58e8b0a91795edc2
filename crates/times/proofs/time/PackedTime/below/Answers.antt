use Rattle.std.proofs.Common.{rules}
use Rattle.grid.specs.Times.{below}
use Rattle.times.proofs.time.PackedTime.below.Goals as goal

pub returns-then-hi : goal.returns-then-hi
unfolding below
returns-then-hi c = search rules

pub returns-else-hi : goal.returns-else-hi
unfolding below
returns-else-hi c = search rules
