-- Old and new input in one run: "Input (old and new)", sorted by halves.
--
-- columns: four columns. cut n: the first n of each. Runs: the columns of each run are of one length
-- Fits: four columns have room for n records. Lending: so have the columns that are lent
-- Joined: the records of two runs, one after the other. Ordered: n records, in order. Formed: the records of two runs together, in order
use Rattle.std.specs.Prelude.{ℕ, ◌+◌, ◌≤◌, not, List, ◌++◌, ◌≡◌, ℤ, length, take}
use Rattle.grid.specs.Lists.{sort}
use Rattle.grid.specs.Records.{Columns, before}
use Rattle.rules.specs.Call.{together}
use Rattle.rules.specs.Memory.{rows_of}
use Rattle.arranging.specs.Arranged.{Long}

abbrev pub columns : List ℕ → List ℕ → List ℕ → List ℤ → Columns
columns ks vs ts ds = record { keys = ks; values = vs; times = ts; diffs = ds }

abbrev pub cut : ℕ → Columns → Columns
cut n c = columns (take n c.keys) (take n c.values) (take n c.times) (take n c.diffs)

pub record Runs (old new : Columns) : Type 0 where
  pub old_long : Long (length old.keys) old.keys old.values old.times old.diffs
  pub new_long : Long (length new.keys) new.keys new.values new.times new.diffs

pub record Fits (n : ℕ) (c : Columns) : Type 0 where
  pub for_keys : n ≤ length c.keys
  pub for_values : n ≤ length c.values
  pub for_times : n ≤ length c.times
  pub for_diffs : n ≤ length c.diffs

pub record Lending (n : ℕ) (both : Columns) (places work : List ℕ) (all : Columns) : Type 0 where
  pub for_both : Fits n both
  pub for_places : n ≤ length places
  pub for_work : n ≤ length work
  pub for_all : Fits n all

pub record Joined (old new both : Columns) : Type 0 where
  pub keys_are : take (length old.keys + length new.keys) both.keys ≡ old.keys ++ new.keys
  pub values_are : take (length old.keys + length new.keys) both.values ≡ old.values ++ new.values
  pub times_are : take (length old.keys + length new.keys) both.times ≡ old.times ++ new.times
  pub diffs_are : take (length old.keys + length new.keys) both.diffs ≡ old.diffs ++ new.diffs

pub record Ordered (n : ℕ) (both all : Columns) : Type 0 where
  pub records_are : rows_of (cut n all) ≡ sort (λ r s. not (before s r)) (rows_of (cut n both))

pub record Formed (old new : Columns) (n : ℕ) (all : Columns) : Type 0 where
  pub count : n ≡ length old.keys + length new.keys
  pub input_is : rows_of (cut n all) ≡ together (rows_of old) (rows_of new)
