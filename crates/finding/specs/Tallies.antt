-- discover_times for the keys of a window, one after the other: their moments laid in a row, their pended times appended to the next pending list.
-- 18: "for some key: over 1,024 moments … ; or over 4,096 pended in all".
--
-- most: for how many pended times in all there is room. It is also the most records of a run, and half the most of the input
-- Scratch: memory that serves any key of a call. LentTally: memory in which the tally goes on. LentSlot: what one key's discovery asks
-- Extends: a list was appended, in memory that is used past it
-- slot_over: a limit was passed before, or by this key. FindsSlot: what one key's discovery leaves
use Rattle.std.specs.Prelude.{ℕ, suc, ◌+◌, ◌≤◌, Bool, false, ◌||◌, List, ◌++◌, ◌≡◌, ltb, ℤ, length, take, replicate}
use Rattle.rules.specs.Discover.{most_moments, State}
use Rattle.consolidation.specs.Entries.{Lent}
use Rattle.edits.specs.Edits.{Alike}
use Rattle.backends.specs.Columns.{Column}
use Rattle.tallies.specs.Appends.{NextRoom}
use Rattle.tallies.specs.Tallied.{most_window}
use Rattle.tallies.specs.declared.Tally.{Tally}

pub record Scratch (most : ℕ) (seeds times values : List ℕ) (diffs : List ℤ) (output meets waiting tracked pended work places wvalues : List ℕ) (wdiffs : List ℤ) : Type 0 where
  pub seeds_room : most ≤ length seeds
  pub input_alike : Alike times values diffs
  pub input_room : most + most ≤ length times
  pub output_room : most ≤ length output
  pub meets_room : ((most + most) + (most + most)) + most ≤ length meets
  pub waiting_room : suc most_moments ≤ length waiting
  pub tracked_room : most + suc most_moments ≤ length tracked
  pub pended_room : suc most_moments ≤ length pended
  pub work_room : most + most ≤ length work
  pub for_tracked : length tracked ≤ length work
  pub places_room : most + most ≤ length places
  pub wvalues_room : most + most ≤ length wvalues
  pub wdiffs_room : most + most ≤ length wdiffs

pub record LentTally (most : ℕ) (moments nextkeys nexttimes : List ℕ) (p : Tally) : Type 0 where
  pub moments_room : p.moments + suc most_moments ≤ length moments
  pub moments_few : p.moments ≤ most_window
  pub next_room : NextRoom most p.pended nextkeys nexttimes

pub record LentSlot (most : ℕ) (seedtimes pending intimes invalues : List ℕ) (indiffs : List ℤ) (outtimes moments nextkeys nexttimes : List ℕ) (p : Tally) : Type 0 where
  pub seeds_few : length seedtimes ≤ most
  pub pending_few : length pending ≤ most
  pub input_lent : Lent intimes invalues indiffs
  pub input_few : length intimes ≤ most + most
  pub output_few : length outtimes ≤ most
  pub goes_on : LentTally most moments nextkeys nexttimes p

-- `new` follows what stood before `at`, up to r; what lies past r is not told
pub record Extends {A : Type 0} (before : List A) (at : ℕ) (new after : List A) (r : ℕ) : Type 0 where
  pub end : r ≡ at + length new
  pub front : take r after ≡ take at before ++ new

unfoldable pub slot_over : ℕ → Bool → ℕ → State → Bool
slot_over most over n D = over || (D.over || ltb most (n + length D.pended))

pub record FindsSlot (most : ℕ) (D : State) (k : ℕ) (p : Tally) (moments nextkeys nexttimes moments' nextkeys' nexttimes' : List ℕ) (r : Tally) : Type 0 where
  pub over_is : r.over ≡ slot_over most p.over p.pended D
  pub moments_few : r.moments ≤ p.moments + most_moments
  pub next_few : r.pended ≤ most
  pub moments_are : r.over ≡ false → Extends moments p.moments D.moments moments' r.moments
  pub keys_are : r.over ≡ false → Column nextkeys p.pended (replicate (length D.pended) k) nextkeys' r.pended
  pub times_are : r.over ≡ false → Column nexttimes p.pended D.pended nexttimes' r.pended
