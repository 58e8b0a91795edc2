use Rattle.joins.proofs.Heads.{meets_four}
use Rattle.joins.proofs.remaining.meet_of_four.Goals as goal

pub returns : goal.returns
returns c = meets_four _ _ _ _ c.meet_with-a.ensures c.meet_with-b.ensures c.meet_with-c.ensures c.meet_with.ensures
