use Rattle.std.proofs.Common.{rules}
use Rattle.grid.specs.Times.{join}
use Rattle.times.proofs.time.PackedTime.join.Goals as goal

pub returns : goal.returns
unfolding join
returns c = search rules
