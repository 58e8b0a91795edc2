use Rattle.grid.specs.Times.{at}
use borrow.Author.Rules.{rules}
use Rattle.times.proofs.time.PackedTime.new.Goals as goal

pub returns : goal.returns
unfolding at
returns c = search rules
