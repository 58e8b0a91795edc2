use Rattle.joins.proofs.Sets.{put_full, put_new}
use native.Mathlib.Omega.{arith}
use Rattle.joins.proofs.made.put_time.Goals as goal

pub returns-then-count-gt-MOST_MOMENTS : goal.returns-then-count-gt-MOST_MOMENTS
returns-then-count-gt-MOST_MOMENTS c = put_full _ _ _ c.requires (omega arith)

pub returns-else-count-gt-MOST_MOMENTS : goal.returns-else-count-gt-MOST_MOMENTS
returns-else-count-gt-MOST_MOMENTS c = put_new _ _ _ c.requires _ (omega arith) (omega arith) c.insert_distinct.ensures
