use Rattle.joins.proofs.Heads.{head_some, head_none}
use Rattle.joins.proofs.remaining.head_with.Goals as goal

pub returns-then-at-times : goal.returns-then-at-times
returns-then-at-times c = head_some _ _ _ c.if-at-times.true c.lesser.ensures

pub returns-else-at-times : goal.returns-else-at-times
returns-else-at-times c = head_none _ _ _ c.if-at-times.false
