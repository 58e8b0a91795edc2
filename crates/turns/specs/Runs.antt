-- The runs of a call as its windows read them: in columns, the input of old and new together.
--
-- Runs, runs: the columns. in_rows, out_rows: the records of the input and of the old output
-- found_of R k, slot_at R k: what is found of a key, and its slot when its window begins
-- Good most: what is asked of the columns; most: the most records of a run, and half the most of the input. Asked q: they are those of a request
use Rattle.std.specs.Prelude.{ℕ, ◌+◌, ◌≤◌, List, ◌≡◌, leb, ℤ, length}
use Rattle.grid.specs.Records.{Row, rows, pairs}
use Rattle.grid.proofs.Lists.{All}
use Rattle.grid.proofs.Sort.{Sorted}
use Rattle.rules.specs.Discover.{State}
use Rattle.rules.specs.Call.{Request, together, changed, edits_of, times_of, pending_of}
use Rattle.keys.specs.Spans.{Level}
use Rattle.keys.proofs.Ranked.{Ranked, Modest}
use Rattle.slots.specs.Slots.{Slot}
use Rattle.seeking.specs.Sought.{found_in}

pub record Runs : Type 0 where
  pub upper : List ℕ
  pub new_keys : List ℕ
  pub new_times : List ℕ
  pub pending_keys : List ℕ
  pub pending_times : List ℕ
  pub in_keys : List ℕ
  pub in_values : List ℕ
  pub in_times : List ℕ
  pub in_diffs : List ℤ
  pub out_keys : List ℕ
  pub out_values : List ℕ
  pub out_times : List ℕ
  pub out_diffs : List ℤ

abbrev pub runs : List ℕ → List ℕ → List ℕ → List ℕ → List ℕ → List ℕ → List ℕ → List ℕ → List ℤ → List ℕ → List ℕ → List ℕ → List ℤ → Runs
runs upper nk nt pk pt ik iv it id ok ov ot od = record {
  upper = upper;
  new_keys = nk;
  new_times = nt;
  pending_keys = pk;
  pending_times = pt;
  in_keys = ik;
  in_values = iv;
  in_times = it;
  in_diffs = id;
  out_keys = ok;
  out_values = ov;
  out_times = ot;
  out_diffs = od;
}

abbrev pub in_rows : Runs → List Row
in_rows R = rows R.in_keys R.in_values R.in_times R.in_diffs

abbrev pub out_rows : Runs → List Row
out_rows R = rows R.out_keys R.out_values R.out_times R.out_diffs

abbrev pub found_of : Runs → ℕ → State
found_of R = found_in R.upper R.new_keys R.new_times R.pending_keys R.pending_times R.in_keys R.in_values R.in_times R.in_diffs R.out_keys R.out_times

unfoldable pub slot_at : Runs → ℕ → Slot
slot_at R k = record { key = k; input = edits_of k (in_rows R); output = edits_of k (out_rows R); moments = (found_of R k).moments }

pub record Good (most : ℕ) (R : Runs) : Type 0 where
  pub new_level : length R.new_times ≡ length R.new_keys
  pub new_few : length R.new_keys ≤ most
  pub new_ascends : Sorted leb R.new_keys
  pub pending_level : length R.pending_times ≡ length R.pending_keys
  pub pending_few : length R.pending_keys ≤ most
  pub pending_ascends : Sorted leb R.pending_keys
  pub in_level : Level R.in_keys R.in_values R.in_times R.in_diffs
  pub in_few : length R.in_keys ≤ most + most
  pub in_ranked : Ranked (in_rows R)
  pub in_modest : All Modest R.in_diffs
  pub out_level : Level R.out_keys R.out_values R.out_times R.out_diffs
  pub out_few : length R.out_keys ≤ most
  pub out_ranked : Ranked (out_rows R)
  pub out_modest : All Modest R.out_diffs

pub record Asked (q : Request) (mode width : ℕ) (R : Runs) (keys : List ℕ) : Type 0 where
  pub mode_is : q.mode ≡ mode
  pub width_is : q.width ≡ width
  pub upper_is : q.upper ≡ R.upper
  pub keys_are : changed q ≡ keys
  pub input_is : together q.old q.new ≡ in_rows R
  pub out_is : q.out ≡ out_rows R
  pub new_is : (k : ℕ) → times_of k q.new ≡ pending_of k (pairs R.new_keys R.new_times)
  pub pending_is : q.pending ≡ pairs R.pending_keys R.pending_times
