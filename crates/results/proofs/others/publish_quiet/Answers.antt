use Rattle.results.proofs.Told.{quiet_told}
use Rattle.results.proofs.others.publish_quiet.Goals as goal

pub returns-clause-told : goal.returns-clause-told
returns-clause-told c = quiet_told c.requires c.clear_results.ensures.zeros c.publish_lists.ensures
