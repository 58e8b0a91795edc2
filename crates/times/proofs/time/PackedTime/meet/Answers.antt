use Rattle.std.proofs.Common.{rules}
use Rattle.grid.specs.Times.{meet}
use Rattle.times.proofs.time.PackedTime.meet.Goals as goal

pub returns : goal.returns
unfolding meet
returns c = search rules
