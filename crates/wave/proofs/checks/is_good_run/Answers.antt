use Rattle.std.proofs.Common.{rules}
use Rattle.wave.proofs.Checking.{two_tests}
use Rattle.wave.proofs.checks.is_good_run.Goals as goal

pub returns-then-times-le-MOST_EDITS : goal.returns-then-times-le-MOST_EDITS
returns-then-times-le-MOST_EDITS c = rw (two_tests _ _ _ c.requires) (search rules)

pub returns-else-times-le-MOST_EDITS : goal.returns-else-times-le-MOST_EDITS
returns-else-times-le-MOST_EDITS c = rw (two_tests _ _ _ c.requires) (search rules)
