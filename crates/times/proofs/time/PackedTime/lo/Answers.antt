use Rattle.grid.specs.Times.{lo}
use borrow.Author.Rules.{rules}
use Rattle.times.proofs.time.PackedTime.lo.Goals as goal

pub returns : goal.returns
unfolding lo
returns c = search rules
