use borrow.Author.Rules.{rules}
use Rattle.demands.specs.Lending.{column_needed}
use Rattle.demands.proofs.sizes.column_needed.Goals as goal

pub returns : goal.returns
unfolding column_needed
returns c = search rules
