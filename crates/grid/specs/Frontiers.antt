-- "A frontier has 0 to 16 pairwise incomparable times, strictly ascending. A time is beyond it if some element is at or below it;
-- nothing is beyond the empty one. 'Short of' means not beyond."
--
-- beyond f t, short_of f t: t is beyond f, is short of f
-- comparable s t: one of the two is at or below the other
-- antichain: strictly ascending and pairwise incomparable. is_frontier: that, and at most 16
-- inserted t f: t inserted into f, dominated times removed. all_inserted: the times of a list, one after the other
-- minimal ts: the minimal times of a list
use Rattle.std.specs.Prelude.{ℕ, Bool, true, cond, ◌&&◌, ◌||◌, not, List, [], ◌∷◌, leb, ltb, length}
use Rattle.grid.specs.Lists.{any, every, keep}
use Rattle.grid.specs.Times.{below, put}

-- the most times that a frontier has
abbrev pub most_times : ℕ
most_times = 16

unfoldable pub beyond : List ℕ → ℕ → Bool
beyond f t = any (λ u. below u t) f

abbrev pub short_of : List ℕ → ℕ → Bool
short_of f t = not (beyond f t)

unfoldable pub comparable : ℕ → ℕ → Bool
comparable s t = below s t || below t s

unfoldable pub antichain : List ℕ → Bool
antichain [] = true
antichain (t ∷ ts) = every (λ u. ltb t u && not (comparable t u)) ts && antichain ts

unfoldable pub is_frontier : List ℕ → Bool
is_frontier f = leb (length f) most_times && antichain f

unfoldable pub inserted : ℕ → List ℕ → List ℕ
inserted t f = cond (beyond f t) f (put t (keep (λ u. not (below t u)) f))

unfoldable pub all_inserted : List ℕ → List ℕ → List ℕ
all_inserted [] f = f
all_inserted (t ∷ ts) f = inserted t (all_inserted ts f)

unfoldable pub minimal : List ℕ → List ℕ
minimal ts = all_inserted ts []
