-- A call that works: what it begins with.
--
-- Begins l: what was lent passed the checks, and the call works. Forms: what forming the input asks
-- output_of: the columns of work memory that are scratch while the input is formed
use Rattle.std.specs.Prelude.{ℕ, ◌≤◌, true, List, ◌≡◌, length}
use Rattle.grid.specs.Records.{Columns}
use Rattle.rules.specs.Memory.{Lent, lent_well, request_of}
use Rattle.rules.proofs.Statuses.{Works}
use Rattle.requests.specs.declared.memory.WorkMemory.{WorkMemory}
use Rattle.input.specs.Formed.{Fits}
use Rattle.tallies.specs.Tallied.{most_input}
use Rattle.demands.specs.Lending.{needed}

pub record Begins (l : Lent) : Type 0 where
  pub well : lent_well (needed l) l ≡ true
  pub works : Works (request_of l)

-- n records of the input find room
pub record Forms (n : ℕ) (both : Columns) (work : List ℕ) (all : Columns) : Type 0 where
  pub few : n ≤ most_input
  pub for_both : Fits n both
  pub for_work : n ≤ length work
  pub for_all : Fits n all

abbrev pub output_of : List ℕ → WorkMemory → Columns
output_of moments w = record { keys = w.out_values.now; values = w.out_times.now; times = moments; diffs = w.out_diffs.now }
