use Rattle.joins.proofs.Heads.{ahead_some, ahead_none}
use Rattle.joins.proofs.remaining.meet_with.Goals as goal

pub returns-then-at-times : goal.returns-then-at-times
returns-then-at-times c = ahead_some _ _ _ _ c.requires c.if-at-times.true c.meet_onto.ensures

pub returns-else-at-times : goal.returns-else-at-times
returns-else-at-times c = ahead_none c.args.times.now c.args.suffixes.now _ _ c.if-at-times.false
