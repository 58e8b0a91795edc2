use Rattle.checks.proofs.Rows.{level_old, level_new, level_out, level_pending}
use Rattle.checks.proofs.verdict.records_verdict.Goals as goal

pub are_good_runs-requires : goal.are_good_runs-requires
are_good_runs-requires c = (level_old _ _ _ _ _ c.requires, (level_new _ _ _ _ _ c.requires, level_out _ _ _ _ _ c.requires))

pub pending_ascends-requires : goal.pending_ascends-requires
pending_ascends-requires c = level_pending _ _ _ _ _ c.requires
