use Rattle.std.proofs.Common.{rules}
use Rattle.joins.proofs.Heads.{lesser_less, lesser_more, lesser_none}
use Rattle.joins.proofs.remaining.lesser.Goals as goal

pub returns-then-lt : goal.returns-then-lt
returns-then-lt c = lesser_less _ c.in-Some.is (search rules)

pub returns-else-lt : goal.returns-else-lt
returns-else-lt c = lesser_more _ c.in-Some.is (search rules)

pub returns-in-None : goal.returns-in-None
returns-in-None c = lesser_none _ c.in-None.is
