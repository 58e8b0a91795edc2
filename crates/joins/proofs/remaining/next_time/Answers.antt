use Rattle.joins.proofs.Heads.{least_five}
use Rattle.joins.proofs.remaining.next_time.Goals as goal

pub returns : goal.returns
returns c = least_five _ _ _ _ _ c.head_with-a.ensures c.head_with-b.ensures c.head_with-c.ensures c.head_with-d.ensures c.head_with.ensures
