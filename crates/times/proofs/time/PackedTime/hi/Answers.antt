use Rattle.grid.specs.Times.{hi}
use borrow.Author.Rules.{rules}
use Rattle.times.proofs.time.PackedTime.hi.Goals as goal

pub returns : goal.returns
unfolding hi
returns c = search rules
