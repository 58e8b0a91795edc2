-- What borrowed memory holds, as the rules name it.
--
-- memory_of: what memory holds. input_of: the columns of the input in it
-- SameResults, SameWork: each column is the one that it was, so whoever lent it reads there what was written to it, and as long as it was
-- lent_of: what a call is lent to read, with the memory that it is lent
use Rattle.std.specs.Prelude.{ℕ, List, [], ◌∷◌, ◌≡◌, length}
use Rattle.grid.specs.Records.{Columns}
use Rattle.rules.specs.Memory as rules
use Rattle.requests.specs.Runs.{columns_of}
use Rattle.requests.specs.declared.Request.{Request}
use Rattle.requests.specs.declared.memory.ResultMemory.{ResultMemory}
use Rattle.requests.specs.declared.memory.WorkMemory.{WorkMemory}

abbrev pub memory_of : ResultMemory → List ℕ → WorkMemory → rules.Memory
memory_of r moments w = record {
  numbers = r.numbers.now;
  diffs = r.diffs.now;
  work = moments ∷ w.keys.now ∷ w.values.now ∷ w.times.now ∷ w.out_values.now ∷ w.out_times.now ∷ [];
  work_diffs = w.diffs.now ∷ w.out_diffs.now ∷ [];
}

pub record SameResults (m m' : ResultMemory) : Type 0 where
  pub same_numbers : m'.numbers.ghost_name ≡ m.numbers.ghost_name
  pub same_diffs : m'.diffs.ghost_name ≡ m.diffs.ghost_name
  pub long_numbers : length m'.numbers.now ≡ length m.numbers.now
  pub long_diffs : length m'.diffs.now ≡ length m.diffs.now

pub record SameWork (m m' : WorkMemory) : Type 0 where
  pub same_keys : m'.keys.ghost_name ≡ m.keys.ghost_name
  pub same_values : m'.values.ghost_name ≡ m.values.ghost_name
  pub same_times : m'.times.ghost_name ≡ m.times.ghost_name
  pub same_diffs : m'.diffs.ghost_name ≡ m.diffs.ghost_name
  pub same_out_values : m'.out_values.ghost_name ≡ m.out_values.ghost_name
  pub same_out_times : m'.out_times.ghost_name ≡ m.out_times.ghost_name
  pub same_out_diffs : m'.out_diffs.ghost_name ≡ m.out_diffs.ghost_name
  pub long_keys : length m'.keys.now ≡ length m.keys.now
  pub long_values : length m'.values.now ≡ length m.values.now
  pub long_times : length m'.times.now ≡ length m.times.now
  pub long_diffs : length m'.diffs.now ≡ length m.diffs.now
  pub long_out_values : length m'.out_values.now ≡ length m.out_values.now
  pub long_out_times : length m'.out_times.now ≡ length m.out_times.now
  pub long_out_diffs : length m'.out_diffs.now ≡ length m.out_diffs.now

abbrev pub input_of : WorkMemory → Columns
input_of w = record { keys = w.keys.now; values = w.values.now; times = w.times.now; diffs = w.diffs.now }

abbrev pub lent_of : Request → rules.Memory → rules.Lent
lent_of q m = record {
  mode = q.mode;
  width = q.width;
  lower = q.frontiers.lower.now;
  upper = q.frontiers.upper.now;
  held = q.frontiers.held.now;
  old = columns_of q.old;
  new = columns_of q.new;
  out = columns_of q.out;
  pending_keys = q.pending.keys.now;
  pending_times = q.pending.times.now;
  memory = m;
}
