-- What becomes of n once all five are stepped past it.
--
-- made_of: the joins that are made of n. is_made: whether n is a moment
-- Acting: what became of n; m is what the buffers are advanced by
-- Finishing: the waiting joins met with the meet of what is ahead, and the tracked times joined with all that
use Rattle.std.specs.Prelude.{ℕ, ◌+◌, ◌≤◌, ◌<◌, Bool, cond, ◌&&◌, List, [], ◌∷◌, ◌++◌, map, ◌≡◌, ℤ, length, take, drop}
use Rattle.std.proofs.Math.Option.{Option}
use Rattle.grid.specs.Lists.{keep}
use Rattle.grid.specs.Times.{joined, meets, put, puts}
use Rattle.grid.specs.Frontiers.{beyond, short_of}
use Rattle.times.specs.Meets.{optional}
use Rattle.rules.specs.Histories.{Edit, time_of, advance_times, advance_edits}
use Rattle.rules.specs.Discover.{joins}
use Rattle.histories.specs.Places.{Placed}
use Rattle.edits.specs.Edits.{edits, Alike}
use Rattle.joins.specs.Sets.{Set, Grown}
use Rattle.consolidation.specs.Entries.{most_mass}
use Rattle.pops.specs.Standing.{weight}
use Rattle.pops.specs.declared.Walk.{Walk}
use Rattle.steps.specs.Walks.{Worked}

abbrev pub is_made : List ℕ → ℕ → Bool → Bool
is_made upper n keen = keen && short_of upper n

unfoldable pub made_of : List ℕ → ℕ → Bool → List ℕ → List ℕ → List ℕ → List ℕ → List ℕ
made_of upper n keen ins outs seeds tracked = cond (beyond upper n) [] (cond (is_made upper n keen) (joins n (ins ++ outs)) [] ++ joins n (seeds ++ tracked))

pub record Acting (upper : List ℕ) (n : ℕ) (keen : Bool) (m : Option ℕ) (seedb trackb : List ℕ) (E : List Edit) (output waiting pended moments : List ℕ) (q : Walk) (E' : List Edit) (output' waiting' pended' moments' : List ℕ) (a : Walk) : Type 0 where
  pub input_is : take a.input.count E' ≡ cond (is_made upper n keen) (advance_edits m (take q.input.count E)) (take q.input.count E)
  pub input_fewer : a.input.count ≤ q.input.count
  pub input_at : a.input.at ≡ q.input.at
  pub input_ahead : drop q.input.at E' ≡ drop q.input.at E
  pub output_is : take a.output.count output' ≡ cond (is_made upper n keen) (advance_times m (take q.output.count output)) (take q.output.count output)
  pub output_fewer : a.output.count ≤ q.output.count
  pub output_at : a.output.at ≡ q.output.at
  pub output_ahead : drop q.output.at output' ≡ drop q.output.at output
  pub waiting_is : Grown (keep (short_of upper) (made_of upper n keen (map time_of (take a.input.count E')) (take a.output.count output') seedb trackb)) (take q.waiting waiting) (take a.waiting waiting')
  pub pended_is : Grown (keep (beyond upper) (made_of upper n keen (map time_of (take a.input.count E')) (take a.output.count output') seedb trackb)) (cond (beyond upper n && keen) (put n (take q.pended pended)) (take q.pended pended)) (take a.pended pended')
  pub moments_are : take a.moments moments' ≡ cond (is_made upper n keen) (take q.moments moments ++ (n ∷ [])) (take q.moments moments)
  pub moments_counted : a.moments ≡ cond (is_made upper n keen) (q.moments + 1) q.moments
  pub waiting_set : Set waiting' a.waiting
  pub pended_set : Set pended' a.pended
  pub same_seeds : a.seeds ≡ q.seeds
  pub same_pending : a.pending ≡ q.pending
  pub same_tracked : a.tracked ≡ q.tracked

pub record Finishing (ahead : Option ℕ) (waits tracked tracked' : List ℕ) (a r : Walk) : Type 0 where
  pub m_is : optional r.m ≡ meets waits ahead
  pub tracked_is : take r.tracked tracked' ≡ puts (map (joined (optional r.m)) (take a.tracked tracked)) []
  pub tracked_fewer : r.tracked ≤ a.tracked
  pub same_rest : r ≡ record { seeds = a.seeds; pending = a.pending; input = a.input; output = a.output; waiting = a.waiting; tracked = r.tracked; moments = a.moments; pended = a.pended; m = r.m }

-- what is asked of the columns where n is acted upon
pub record Ready (seeds tracked times values : List ℕ) (diffs : List ℤ) (output waiting pended moments work places wvalues : List ℕ) (wdiffs : List ℤ) (q : Walk) : Type 0 where
  pub seeds_within : q.seeds.count ≤ length seeds
  pub tracked_within : q.tracked ≤ length tracked
  pub input_alike : Alike times values diffs
  pub input_placed : Placed (length times) q.input
  pub input_light : weight (take q.input.count (edits times values diffs)) ≤ most_mass
  pub output_placed : Placed (length output) q.output
  pub waiting_set : Set waiting q.waiting
  pub pended_set : Set pended q.pended
  pub moments_room : q.moments < length moments
  pub worked : Worked seeds times output tracked work places wvalues wdiffs
