-- What an advance of a buffer leaves.
--
-- work_after o b w: the work slice w after the buffer b of times was advanced by o: where the joined times ascend already, they are not sorted
-- Advanced f s w s' w' r: equals were removed from what f makes of the entries of s; the work slice is as long
-- Advances o count col work col' work' r: the first `count` entries of the column were advanced by o, if there is one. The buffer's entries come
-- first, then zeros up to `count`; what lies from there on stays as it was
use Rattle.std.specs.Prelude.{ℕ, ◌≤◌, cond, List, [], ◌++◌, map, ◌≡◌, leb, ltb, length, take, drop}
use Rattle.std.proofs.Math.Option.{Option, none, some}
use Rattle.grid.specs.Lists.{sort, ascending, padded}
use Rattle.grid.specs.Times.{join, puts}
use Rattle.distinct.specs.Sets.{Removed}
use Rattle.grid.specs.Slices.{laid}
use Rattle.rules.specs.Histories.{advance_times}

unfoldable pub work_after : Option ℕ → List ℕ → List ℕ → List ℕ
work_after none b w = w
work_after (some m) b w = cond (ascending ltb (map (join m) b)) w (laid (sort leb (map (join m) b)) w)

pub record Advanced (f : ℕ → ℕ) (s w s' w' : List ℕ) (r : ℕ) : Type 0 where
  pub within : r ≤ length s
  pub removed : Removed (puts (map f s) []) (length s) s' r
  pub work : w' ≡ cond (ascending ltb (map f s)) w (sort leb (map f s))

pub record Advances (o : Option ℕ) (count : ℕ) (col work col' work' : List ℕ) (r : ℕ) : Type 0 where
  pub within : r ≤ count
  pub buffer : take r col' ≡ advance_times o (take count col)
  pub holds : col' ≡ padded 0 count (advance_times o (take count col)) ++ drop count col
  pub same_ahead : drop count col' ≡ drop count col
  pub work_holds : work' ≡ work_after o (take count col) work
