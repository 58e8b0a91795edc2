-- Old and new records, one after the other, and in order.
--
-- formed: the records of both runs, in order. arranged: columns gathered at sorted places hold the records in order
use Prim.Native.Nat.{ℕ, ◌+◌, ◌≤◌}
use mathlib.Core.Bool.{not}
use mathlib.Core.List.{List, [], map}
use mathlib.Core.Path.{◌≡◌, refl, ◌∙◌, ap}
use native.Mathlib.Omega.{arith}
use lib.ListN.{length, take, length-take}
use Rattle.grid.specs.Lists.{sort}
use Rattle.grid.specs.Records.{Columns, before, rows}
use Rattle.rules.specs.Call.{together}
use Rattle.rules.specs.Memory.{rows_of}
use Rattle.slices.specs.Places.{entry, diff_entry}
use Rattle.arranging.specs.Arranged.{Long, sorted_places}
use Rattle.arranging.proofs.Arranged.{records_arranged, rows_append}
use Rattle.input.specs.Formed.{Runs, Fits, Joined, Ordered, Formed}

module _ (old new both : Columns) (r : Runs old new) where
  abbrev many : ℕ
  many = length old.keys + length new.keys

  pub formed : (all : Columns) → Joined old new both → Ordered many both all → Formed old new many all
  unfolding together rows_of
  formed all j o = record {
    count = refl;
    input_is =
        o.records_are
        ∙ ap (sort (λ r s. not (before s r)))
        ((λ i. rows (j.keys_are i) (j.values_are i) (j.times_are i) (j.diffs_are i))
        ∙ rows_append new.keys new.values new.times new.diffs old.keys old.values old.times old.diffs r.old_long.long_values r.old_long.long_times r.old_long.long_diffs);
  }

module _ (n : ℕ) (both all : Columns) (f : Fits n both) where
  same-cut : {A : Type 0} (s : List A) → n ≤ length s → length (take n s) ≡ length (take n both.keys)
  same-cut s h = rw (length-take n s, length-take n both.keys) (omega (arith, f.for_keys))

  cut_long : Long (length (take n both.keys)) (take n both.keys) (take n both.values) (take n both.times) (take n both.diffs)
  cut_long = record {
    long_keys = refl;
    long_values = same-cut both.values f.for_values;
    long_times = same-cut both.times f.for_times;
    long_diffs = same-cut both.diffs f.for_diffs;
  }

  pub arranged :
      (places : List ℕ) → take n places ≡ sorted_places (take n both.keys) (take n both.values) (take n both.times) []
      → take n all.keys ≡ map (entry (take n both.keys)) (take n places) → take n all.values ≡ map (entry (take n both.values)) (take n places)
      → take n all.times ≡ map (entry (take n both.times)) (take n places) → take n all.diffs ≡ map (diff_entry (take n both.diffs)) (take n places)
      → Ordered n both all
  unfolding rows_of
  arranged places p k v t d = record { records_are = (records_arranged (record { keys_are = k; values_are = v; times_are = t; diffs_are = d }) cut_long p).records_are }
