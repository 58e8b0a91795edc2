use Rattle.results.proofs.Told.{nothing_told}
use Rattle.results.proofs.others.publish_nothing.Goals as goal

pub returns-clause-told : goal.returns-clause-told
returns-clause-told c = nothing_told c.requires c.clear_results.ensures.zeros
