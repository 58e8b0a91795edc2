use Rattle.joins.proofs.Sets.{made_then}
use Rattle.joins.proofs.made.join_both.Goals as goal

pub returns : goal.returns
returns c = (c.join_all.ensures.0, made_then _ _ c.join_all-c.ensures.1 c.join_all.ensures.1)
