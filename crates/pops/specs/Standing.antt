-- Where a walk stands in its lent columns.
--
-- weight: the sum of the sizes of the diffs, bounded by 2^44
-- Standing: each place lies in its column, and the diffs of the input still there are bounded, which advancing never undoes
use Rattle.std.specs.Prelude.{ℕ, ◌+◌, ◌≤◌, List, map, ℤ, length, take, drop}
use Rattle.rules.specs.Histories.{Edit}
use Rattle.histories.specs.Places.{Placed}
use Rattle.consolidation.specs.Entries.{mass, most_mass}
use Rattle.edits.specs.Edits.{edits, Alike}
use Rattle.pops.specs.declared.Walk.{Walk}

unfoldable pub weight : List Edit → ℕ
weight es = mass (map (λ (e : Edit). e.1) es)

pub record Standing (seeds pending times values : List ℕ) (diffs : List ℤ) (output : List ℕ) (w : Walk) : Type 0 where
  pub seeds_placed : Placed (length seeds) w.seeds
  pub pending_within : w.pending ≤ length pending
  pub input_placed : Placed (length times) w.input
  pub input_alike : Alike times values diffs
  pub input_light : weight (take w.input.count (edits times values diffs)) + weight (drop w.input.at (edits times values diffs)) ≤ most_mass
  pub output_placed : Placed (length output) w.output
