-- A key's rounds, as far as they are settled: "some correction is outside -2^31 to 2^31 or there are over 4,096."
--
-- most: for how many corrections there is room; "4,096", or fewer where a call is tried in less memory
-- Listed most new n large r: `new` are appended to the n corrections so far, and there are r, or they are too large, and nothing else is promised
-- LentFixes, LentSums: the lengths of what is lent
-- Fixes: what a key's round asks, once what is seen of its input and output is known. FixedAt: what it leaves. OverAt: where the corrections are too large then
-- KeySettled: all rounds of a key are settled, and those are marked in which it crossed. WindowSettled: the same of the keys of a window
-- KeyOver, WindowOver: with these rounds the corrections are too large
use Rattle.std.specs.Prelude.{ℕ, ◌+◌, ◌≤◌, Bool, true, false, List, ◌++◌, map, ◌≡◌, ℤ, length, take}
use Rattle.grid.specs.Lists.{flat}
use Rattle.grid.specs.Records.{Row, most_records, rows}
use Rattle.rules.specs.Histories.{Edit}
use Rattle.rules.specs.Backends.{Sums}
use Rattle.rules.specs.Retire.{settle}
use Rattle.backends.specs.Columns.{Appended}
use Rattle.backends.specs.Correct.{Segment}
use Rattle.slots.specs.Slots.{Slot, slot_rounds, rows_in, crossed_in, window_rows, rows_too_large}
use Rattle.marks.specs.Marks.{marked, marked_all}
use Rattle.fixing.specs.declared.Fixed.{Fixed}
use Rattle.fixing.specs.Fixes.{fix_rows}

pub record Listed (most : ℕ) (new : List Row) (n : ℕ) (large : Bool) (r : ℕ) (fk₀ fv₀ ft₀ : List ℕ) (fd₀ : List ℤ) (fk fv ft : List ℕ) (fd : List ℤ) : Type 0 where
  pub large_is : large ≡ rows_too_large most n new
  pub fixes_are : large ≡ false → r ≡ n + length new
  pub rows_are : large ≡ false → rows (take r fk) (take r fv) (take r ft) (take r fd) ≡ rows (take n fk₀) (take n fv₀) (take n ft₀) (take n fd₀) ++ new

-- ---- what is lent
pub record LentFixes (most : ℕ) (fk fv ft : List ℕ) (fd : List ℤ) : Type 0 where
  pub long_k : length fk ≡ most
  pub long_v : length fv ≡ most
  pub long_t : length ft ≡ most
  pub long_d : length fd ≡ most

-- of an input of twice as many records, and of as many of the output beside the corrections
pub record LentSums (most : ℕ) (iv ov : List ℕ) (id od : List ℤ) (cv : List ℕ) (cd : List ℤ) : Type 0 where
  pub long_iv : length iv ≡ most + most
  pub long_ov : length ov ≡ most + most
  pub long_id : length id ≡ most + most
  pub long_od : length od ≡ most + most
  pub long_cv : length cv ≡ (most + most) + (most + most)
  pub long_cd : length cd ≡ (most + most) + (most + most)

-- ---- a round of a key
pub record Fixes (most : ℕ) (iv : List ℕ) (id : List ℤ) (ov : List ℕ) (od : List ℤ) (cv : List ℕ) (cd : List ℤ) (fk fv ft : List ℕ) (fd : List ℤ) (n : ℕ) : Type 0 where
  pub segment : Segment iv id ov od cv cd 0
  pub lent : LentFixes most fk fv ft fd
  pub fits : n ≤ most
  pub few : most ≤ most_records

-- c: the key's correction
pub record FixedAt (most k t : ℕ) (c : Sums) (cv₀ : List ℕ) (cd₀ : List ℤ) (n : ℕ) (r : Fixed) (cv : List ℕ) (cd : List ℤ) (fk₀ fv₀ ft₀ : List ℕ) (fd₀ : List ℤ) (fk fv ft : List ℕ) (fd : List ℤ) : Type 0 where
  pub corrected : Appended cv₀ cd₀ 0 c cv cd r.count
  pub listed : Listed most (fix_rows k t c) n false r.fixes fk₀ fv₀ ft₀ fd₀ fk fv ft fd

pub record OverAt (most k t : ℕ) (c : Sums) (cv₀ : List ℕ) (cd₀ : List ℤ) (n : ℕ) (cv : List ℕ) (cd : List ℤ) : Type 0 where
  pub corrected : (r : ℕ) × Appended cv₀ cd₀ 0 c cv cd r
  pub large_is : rows_too_large most n (fix_rows k t c) ≡ true

-- ---- all rounds
pub record KeySettled (most mode k : ℕ) (input output : List Edit) (moments : List ℕ) (n r : ℕ) (marks marks' fk₀ fv₀ ft₀ : List ℕ) (fd₀ : List ℤ) (fk fv ft : List ℕ) (fd : List ℤ) : Type 0 where
  pub listed : Listed most (flat (rows_in k) (settle mode input output moments)) n false r fk₀ fv₀ ft₀ fd₀ fk fv ft fd
  pub marks_are : marks' ≡ marked (crossed_in (settle mode input output moments)) marks

abbrev pub KeyOver : ℕ → ℕ → ℕ → List Edit → List Edit → List ℕ → ℕ → Type 0
KeyOver most mode k input output moments n = rows_too_large most n (flat (rows_in k) (settle mode input output moments)) ≡ true

pub record WindowSettled (most mode : ℕ) (ss : List Slot) (n r : ℕ) (marks marks' fk₀ fv₀ ft₀ : List ℕ) (fd₀ : List ℤ) (fk fv ft : List ℕ) (fd : List ℤ) : Type 0 where
  pub listed : Listed most (window_rows mode ss) n false r fk₀ fv₀ ft₀ fd₀ fk fv ft fd
  pub marks_are : marks' ≡ marked_all (map (λ s. crossed_in (slot_rounds mode s)) ss) marks

abbrev pub WindowOver : ℕ → ℕ → List Slot → ℕ → Type 0
WindowOver most mode ss n = rows_too_large most n (window_rows mode ss) ≡ true
