use Rattle.checks.proofs.Rows.{alike_values, alike-times}
use Rattle.checks.proofs.order.is_good_run.Goals as goal

pub ranks_ascend-requires : goal.ranks_ascend-requires
ranks_ascend-requires c = (alike_values _ c.requires, alike-times _ c.requires)
