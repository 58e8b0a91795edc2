-- What a function answers that may not have room.
--
-- fitted n room: the count n, where there is room for n; else none
use Rattle.std.specs.Prelude.{ℕ, Option, Some, None, cond, leb}

unfoldable pub fitted : ℕ → ℕ → Option ℕ
fitted n room = cond (leb n room) (Some n) None
