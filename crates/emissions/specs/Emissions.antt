-- Emissions in four columns.
--
-- over xs k s: xs written over s from the place k on, as far as s goes
-- most_edits: at most so many edits a side
-- most_diff: 2^30, the most that the diffs of one history are in all
-- Cleared: four columns are all zero
-- LentOther: what the advance of the other's buffer asks
-- Pairs: the pairs of one edit with those of three columns were appended. LentPairs: what that asks
use Rattle.std.specs.Prelude.{ℕ, ◌+◌, ◌≤◌, ◌<◌, ◌^◌, List, [], ◌∷◌, map, ◌≡◌, ℤ, pos, nat_abs, ◌*ℤ◌, length, take, set, replicate}
use Rattle.grid.specs.Times.{join}
use Rattle.consolidation.specs.Entries.{mass, most_mass}
use Rattle.edits.specs.Edits.{Alike}

unfoldable pub over : {A : Type 0} → List A → ℕ → List A → List A
over [] k s = s
over (x ∷ xs) k s = over xs (k + 1) (set s k x)

abbrev pub most_edits : ℕ
most_edits = 1024

abbrev pub most_diff : ℕ
most_diff = 1073741824

pub record LentPairs (d : ℤ) (ts vs : List ℕ) (ds : List ℤ) (n at : ℕ) : Type 0 where
  pub within_times : n ≤ length ts
  pub within_values : n ≤ length vs
  pub within_diffs : n ≤ length ds
  pub counts : at + n < 2 ^ 63
  pub small : nat_abs d ≤ most_diff
  pub all_small : mass (take n ds) ≤ most_diff

pub record Pairs (t v : ℕ) (d : ℤ) (ts vs : List ℕ) (ds : List ℤ) (n at : ℕ) (times values others : List ℕ) (diffs : List ℤ) (times' values' others' : List ℕ) (diffs' : List ℤ) : Type 0 where
  pub times_are : times' ≡ over (map (join t) ts) at times
  pub values_are : values' ≡ over (replicate n v) at values
  pub others_are : others' ≡ over vs at others
  pub diffs_are : diffs' ≡ over (map (λ e. d *ℤ e) ds) at diffs

pub record Cleared (times firsts seconds : List ℕ) (diffs : List ℤ) (times' firsts' seconds' : List ℕ) (diffs' : List ℤ) : Type 0 where
  pub times_are : times' ≡ replicate (length times) 0
  pub firsts_are : firsts' ≡ replicate (length firsts) 0
  pub seconds_are : seconds' ≡ replicate (length seconds) 0
  pub diffs_are : diffs' ≡ replicate (length diffs) (pos 0)

pub record LentOther (count : ℕ) (us ws : List ℕ) (es : List ℤ) : Type 0 where
  pub alike : Alike us ws es
  pub within : count ≤ length us
  pub bounded : mass (take count es) ≤ most_mass
  pub few : count ≤ most_edits
