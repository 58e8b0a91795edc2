use Rattle.std.proofs.Common.{ap, ◌∙◌}
use lib.Dec.{leb}
use lib.IntN.{nat_abs}
use mir.Facts.{to_z-of_z}
use Rattle.grid.specs.Records.{in_range}
use Rattle.diffs.proofs.is_in_range.Goals as goal

pub returns : goal.returns
unfolding in_range
returns c = ap (λ n. leb n 2147483648) (c.unsigned_abs.ensures.value ∙ ap nat_abs (to_z-of_z c.ranges.d))
