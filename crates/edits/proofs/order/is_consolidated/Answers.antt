use Rattle.std.proofs.Common.{rules}
use Rattle.edits.proofs.InOrder.{two_tests}
use Rattle.edits.proofs.order.is_consolidated.Goals as goal

pub returns-then-ascend_by_value : goal.returns-then-ascend_by_value
returns-then-ascend_by_value c = rw (two_tests _ _ _ c.requires) (search rules)

pub returns-else-ascend_by_value : goal.returns-else-ascend_by_value
returns-else-ascend_by_value c = rw (two_tests _ _ _ c.requires) (search rules)
