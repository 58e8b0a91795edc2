-- The state of the rules that the lent columns and the places of a walk hold, and what both keep.
--
-- state_of: the state. over_of: whether a limit was passed
-- Known: the suffix meets tell the meets of what is ahead
-- Roomy: waiting joins and pended times are sets with room for one more than the limit; so have the moments. The tracked times have room for the pending
-- times ahead and for each moment that may still come
-- Worked: the work slices have room for each buffer
-- Calm upper s: no limit was passed, and what waits is short of upper
-- Steps upper n s s': s' is the step of s at n. Once a limit is passed, only that is told
use Rattle.std.specs.Prelude.{ℕ, suc, ◌+◌, ◌-◌, ◌≤◌, Bool, false, ◌||◌, List, ◌≡◌, ltb, ℤ, length, take, drop}
use Rattle.grid.specs.Frontiers.{beyond}
use Rattle.grid.proofs.Lists.{All}
use Rattle.times.specs.Meets.{optional}
use Rattle.rules.specs.Discover.{most_moments, State, step}
use Rattle.histories.specs.Places.{history_of}
use Rattle.histories.specs.Suffixes.{Suffixes}
use Rattle.edits.specs.Edits.{edits}
use Rattle.joins.specs.Sets.{Set}
use Rattle.pops.specs.declared.Walk.{Walk}

abbrev pub over_of : Walk → Bool
over_of w = ltb most_moments w.moments || (ltb most_moments w.waiting || ltb most_moments w.pended)

unfoldable pub state_of : List ℕ → List ℕ → List ℕ → List ℕ → List ℤ → List ℕ → List ℕ → List ℕ → List ℕ → List ℕ → Walk → State
state_of seeds pending times values diffs output waiting tracked moments pended w =
    record {
      seeds = history_of seeds w.seeds;
      pending = drop w.pending pending;
      input = history_of (edits times values diffs) w.input;
      output = history_of output w.output;
      waiting = take w.waiting waiting;
      tracked = take w.tracked tracked;
      m = optional w.m;
      moments = take w.moments moments;
      pended = take w.pended pended;
      over = over_of w;
    }

pub record Known (seeds seedm pending pendm times inputm output outputm : List ℕ) (w : Walk) : Type 0 where
  pub of_seeds : Suffixes seeds seedm w.seeds.at
  pub of_pending : Suffixes pending pendm w.pending
  pub of_input : Suffixes times inputm w.input.at
  pub of_output : Suffixes output outputm w.output.at

pub record Roomy (pending waiting tracked moments pended : List ℕ) (w : Walk) : Type 0 where
  pub waiting_set : Set waiting w.waiting
  pub pended_set : Set pended w.pended
  pub moments_few : w.moments ≤ suc most_moments
  pub moments_long : suc most_moments ≤ length moments
  pub tracked_room : (w.tracked + (length pending - w.pending)) + (suc most_moments - w.moments) ≤ length tracked

pub record Worked (seeds times output tracked work places wvalues : List ℕ) (wdiffs : List ℤ) : Type 0 where
  pub for_seeds : length seeds ≤ length work
  pub for_times : length times ≤ length work
  pub for_output : length output ≤ length work
  pub for_tracked : length tracked ≤ length work
  pub for_places : length times ≤ length places
  pub for_values : length times ≤ length wvalues
  pub for_diffs : length times ≤ length wdiffs

pub record Calm (upper : List ℕ) (s : State) : Type 0 where
  pub within : s.over ≡ false
  pub short : All (λ t. beyond upper t ≡ false) s.waiting

pub record Steps (upper : List ℕ) (n : ℕ) (s s' : State) : Type 0 where
  pub over_is : s'.over ≡ (step upper n s).over
  pub same : s'.over ≡ false → s' ≡ step upper n s
