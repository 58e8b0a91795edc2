-- What borrowed columns hold.
--
-- columns_of: the columns of a run. first_of n: its first n records
use Rattle.std.specs.Prelude.{ℕ, take}
use Rattle.grid.specs.Records.{Columns}
use Rattle.requests.specs.declared.Run.{Run}

abbrev pub columns_of : Run → Columns
columns_of r = record { keys = r.keys.now; values = r.values.now; times = r.times.now; diffs = r.diffs.now }

abbrev pub first_of : ℕ → Columns → Columns
first_of n c = record { keys = take n c.keys; values = take n c.values; times = take n c.times; diffs = take n c.diffs }
