-- What discover_times finds.
--
-- Loading: what was loaded, and the meet of seeds and pending
-- all_meets: the meets of all suffixes of seeds, pending, input and output, one after the other
-- Lending: what discover_key asks. Prepared: what is asked once all is loaded
-- Finds D moments pended r: nothing is found exactly if a limit was passed in D; else the moments and the pended times are those of D
use Rattle.std.specs.Prelude.{Option, Some, None, ℕ, suc, ◌+◌, ◌≤◌, true, false, List, ◌++◌, ◌≡◌, ℤ, length, take}
use Rattle.std.proofs.Math.Option.{none}
use Rattle.grid.specs.Times.{meets}
use Rattle.times.specs.Meets.{optional}
use Rattle.rules.specs.Histories.{Edit, load_times, load_edits, suffix_meets}
use Rattle.rules.specs.Discover.{most_moments, State}
use Rattle.consolidation.specs.Entries.{most_mass}
use Rattle.edits.specs.Edits.{edits, Alike}
use Rattle.edits.specs.Buffers.{LentLoad}
use Rattle.pops.specs.Standing.{weight}
use Rattle.discover.specs.declared.loads.Loaded.{Loaded}
use Rattle.discover.specs.declared.Found.{Found}

pub record Loading (seedtimes pending : List ℕ) (input : List Edit) (most : ℕ) (outtimes seeds : List ℕ) (E : List Edit) (output : List ℕ) (r : Loaded) : Type 0 where
  pub m_is : optional r.m ≡ meets (seedtimes ++ pending) none
  pub seeds_are : take (length seedtimes) seeds ≡ load_times none seedtimes
  pub within : r.count ≤ most
  pub input_is : take r.count E ≡ load_edits (optional r.m) input
  pub output_is : take (length outtimes) output ≡ load_times (optional r.m) outtimes

unfoldable pub all_meets : List ℕ → List ℕ → List ℕ → List ℕ → List ℕ
all_meets seeds pending times output = suffix_meets seeds ++ (suffix_meets pending ++ (suffix_meets times ++ suffix_meets output))

pub data Finds (D : State) (moments pended : List ℕ) : Option Found → Type 0 where
  limited : D.over ≡ true → Finds D moments pended None
  counted : (f : Found) → D.over ≡ false → take f.moments moments ≡ D.moments → take f.pended pended ≡ D.pended → Finds D moments pended (Some f)

-- what is lent: columns with room for what is loaded and for what is found
pub record Lending (seedtimes pending intimes invalues : List ℕ) (indiffs : List ℤ) (outtimes seeds times values : List ℕ) (diffs : List ℤ) (output column waiting tracked moments pended work places wvalues : List ℕ) (wdiffs : List ℤ) : Type 0 where
  pub input : LentLoad intimes invalues indiffs work places times values diffs
  pub seeds_room : length seedtimes ≤ length seeds
  pub output_room : length outtimes ≤ length output
  pub meets_room : ((length seedtimes + length pending) + length intimes) + length outtimes ≤ length column
  pub for_seeds : length seedtimes ≤ length work
  pub for_output : length outtimes ≤ length work
  pub for_tracked : length tracked ≤ length work
  pub for_values : length intimes ≤ length wvalues
  pub for_diffs : length intimes ≤ length wdiffs
  pub waiting_room : suc most_moments ≤ length waiting
  pub pended_room : suc most_moments ≤ length pended
  pub moments_room : suc most_moments ≤ length moments
  pub tracked_room : length pending + suc most_moments ≤ length tracked

-- what a walk from its start asks: scount seeds, count edits and ocount outputs were loaded, and the meets of their suffixes written
pub record Prepared (pending column : List ℕ) (scount count ocount : ℕ) (seeds times values : List ℕ) (diffs : List ℤ) (output waiting tracked moments pended work places wvalues : List ℕ) (wdiffs : List ℤ) : Type 0 where
  pub seeds_within : scount ≤ length seeds
  pub input_within : count ≤ length times
  pub input_alike : Alike times values diffs
  pub input_light : weight (take count (edits times values diffs)) ≤ most_mass
  pub output_within : ocount ≤ length output
  pub meets_within : ((scount + length pending) + count) + ocount ≤ length column
  pub meets_are : take (((scount + length pending) + count) + ocount) column ≡ all_meets (take scount seeds) pending (take count times) (take ocount output)
  pub for_seeds : scount ≤ length work
  pub for_times : count ≤ length work
  pub for_output : ocount ≤ length work
  pub for_tracked : length tracked ≤ length work
  pub for_places : count ≤ length places
  pub for_values : count ≤ length wvalues
  pub for_diffs : count ≤ length wdiffs
  pub waiting_room : suc most_moments ≤ length waiting
  pub pended_room : suc most_moments ≤ length pended
  pub moments_room : suc most_moments ≤ length moments
  pub tracked_room : length pending + suc most_moments ≤ length tracked
