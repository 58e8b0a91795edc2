-- "Result memory holds 4,096 corrections, 4,096 pending entries, 16 tiles with bounds of up to 31 times, 16 frontier times": what a call says
-- and leaves there, and how its caller reads it.
--
-- Retires z l r m: the call that was lent l, work memory needing the sizes that the rule z says for l, says r and leaves m: the answer of the rules,
-- at every status
-- Retired a m r m': r is said of the answer a, and memory, which was m, holds what it holds after that answer
-- columns_past i: what lies past i columns. tile_in, tiles_in: tiles read from their numbers
-- answer_in r m: the answer as it is read: so many corrections, pending entries, tiles and frontier times as the call says. answer_from: from six numbers
use Rattle.std.specs.Prelude.{ℕ, zero, suc, ◌*◌, List, [], ◌∷◌, ◌≡◌, length, take, drop, get_or}
use Rattle.grid.specs.Frontiers.{most_times}
use Rattle.grid.specs.Records.{most_records, pairs}
use Rattle.rules.specs.Tiles.{Tile}
use Rattle.rules.specs.Call.{Answer}
use Rattle.rules.specs.Memory.{Memory, Sizes, Lent, most_bound, tile_size, call_lent, after}
use Rattle.arranging.specs.Arranged.{fixes}
use Rattle.requests.specs.Statuses.{number_of}
use Rattle.answers.specs.Tells.{Tells}
use Rattle.answers.specs.declared.Outcome.{Outcome}

pub record Retires (z : Lent → Sizes) (l : Lent) (r : Outcome) (m : Memory) : Type 0 where
  pub status_is : number_of r.status ≡ (call_lent (z l) l).status
  pub crossings_are : r.crossings ≡ (call_lent (z l) l).crossings
  pub tiles-many : r.tiles ≡ length (call_lent (z l) l).tiles
  pub fixes-many : r.fixes ≡ length (call_lent (z l) l).fixes
  pub pending_many : r.pending ≡ length (call_lent (z l) l).pending
  pub frontier_many : r.frontier ≡ length (call_lent (z l) l).frontier
  pub memory_is : m ≡ after (call_lent (z l) l) l.memory

pub record Retired (a : Answer) (m : Memory) (r : Outcome) (m' : Memory) : Type 0 where
  pub tells : Tells a r m.numbers m'.numbers m.diffs m'.diffs
  pub work_is : m'.work ≡ (after a m).work
  pub work_diffs_is : m'.work_diffs ≡ (after a m).work_diffs

unfoldable pub columns_past : ℕ → List ℕ → List ℕ
columns_past zero s = s
columns_past (suc i) s = columns_past i (drop most_records s)

-- a bound begins with its length and has room for 31 times
unfoldable pub tile_in : List ℕ → Tile
tile_in s =
    let u = drop (suc most_bound) s in
    record { lower = take (get_or s 0 0) (drop 1 s); upper = take (get_or u 0 0) (drop 1 u); held = get_or (drop (suc most_bound) u) 0 0 }

unfoldable pub tiles_in : ℕ → List ℕ → List Tile
tiles_in zero s = []
tiles_in (suc n) s = tile_in s ∷ tiles_in n (drop tile_size s)

unfoldable pub answer_from : ℕ → ℕ → ℕ → ℕ → ℕ → ℕ → Memory → Answer
answer_from status crossings tiles fixes_many pending frontier m =
    let s = m.numbers in
    record {
      status = status;
      crossings = crossings;
      tiles = tiles_in tiles (columns_past 6 s);
      fixes = fixes (take fixes_many s) (take fixes_many (columns_past 1 s)) (take fixes_many (columns_past 2 s)) (take fixes_many (columns_past 3 s)) (take fixes_many m.diffs);
      pending = pairs (take pending (columns_past 4 s)) (take pending (columns_past 5 s));
      frontier = take frontier (drop (most_times * tile_size) (columns_past 6 s));
    }

abbrev pub answer_in : Outcome → Memory → Answer
answer_in r m = answer_from (number_of r.status) r.crossings r.tiles r.fixes r.pending r.frontier m
