-- The test for a frontier, as a loop over its elements.
--
-- frontier_long: too many elements. frontier_hit, frontier_miss, frontier_end: the element at i is not apart from a later one, is apart from all, all is read
use Prim.Native.Nat.{ℕ, ◌+◌, ◌≤◌, ◌<◌}
use native.Mathlib.Numerals.{add-one}
use mathlib.Core.Bool.{true, false, ◌&&◌, not}
use mathlib.Core.List.{List}
use mathlib.Core.Path.{◌≡◌}
use lib.Dec.{ltb}
use lib.ListN.{length, drop, get_or, drop_of_length-le}
use lib.Seq.{drop-cons}
use borrow.Author.Tests.{le-leb, lt-leb}
use Rattle.grid.specs.Lists.{every}
use Rattle.grid.specs.Frontiers.{most_times, comparable, antichain, is_frontier}

module _ (f : List ℕ) where
  pub frontier_long : most_times < length f → false ≡ is_frontier f
  unfolding is_frontier
  frontier_long h = simp (lt-leb _ _ h)

  module _ (i : ℕ) where
    pub frontier_hit : length f ≤ most_times → i < length f → antichain (drop i f) ≡ antichain f
        → every (λ u. ltb (get_or f i 0) u && not (comparable (get_or f i 0) u)) (drop (i + 1) f) ≡ false → false ≡ is_frontier f
    unfolding is_frontier antichain
    frontier_hit h k e t = rw (le-leb _ _ h, ← e, drop-cons f i 0 k, ← add-one i, t)

    pub frontier_miss : i < length f → antichain (drop i f) ≡ antichain f
        → every (λ u. ltb (get_or f i 0) u && not (comparable (get_or f i 0) u)) (drop (i + 1) f) ≡ true → antichain (drop (i + 1) f) ≡ antichain f
    unfolding antichain
    frontier_miss k e t = rw (← e, drop-cons f i 0 k, add-one, rw add-one at t)

    pub frontier_end : length f ≤ most_times → length f ≤ i → antichain (drop i f) ≡ antichain f → true ≡ is_frontier f
    unfolding is_frontier antichain
    frontier_end h k e = rw (le-leb _ _ h, ← e, drop_of_length-le f k)
