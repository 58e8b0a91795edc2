-- "After 0, 1 and 2 unused result entries and work memory are zero." "'Cleared' is all zero over the whole result and work memory."
--
-- Told a: result memory holds the answer a, and zeros past it. Counted a: the counts are of the answer's lists
-- placed held ts rs: corrections, each with the place of its tile. published: the answer of a call that worked
-- Ready, Published: what publish takes, and what it says. Quiet, QuietTold: the same of publish_quiet. NothingTold: what publish_nothing says
use Rattle.std.specs.Prelude.{ℕ, ◌≤◌, false, ◌&&◌, List, map, ◌≡◌, leb, ℤ, pos, length}
use Rattle.grid.specs.Frontiers.{most_times}
use Rattle.grid.specs.Records.{Row, most_records, rows, pairs}
use Rattle.rules.specs.Tiles.{Tile, tiles, tile_of}
use Rattle.rules.specs.Call.{Fix, Request, Answer, refused, quiet_answer}
use Rattle.rules.specs.Memory.{numbers_size, numbers, diffs, leaves}
use Rattle.results.specs.Sorted.{sorted_fixes}
use Rattle.results.specs.declared.worked.Counts.{Counts}

pub record Told (a : Answer) (res res' : List ℕ) (rd rd' : List ℤ) : Type 0 where
  pub numbers_are : res' ≡ leaves 0 a.status res (numbers a)
  pub diffs_are : rd' ≡ leaves (pos 0) a.status rd (diffs a)

pub record Counted (a : Answer) (n : Counts) : Type 0 where
  pub tiles-counted : n.tiles ≡ length a.tiles
  pub fixes-counted : n.fixes ≡ length a.fixes
  pub pending_counted : n.pending ≡ length a.pending
  pub frontier_counted : n.frontier ≡ length a.frontier

unfoldable pub placed : List ℕ → List Tile → List Row → List Fix
placed held ts rs = map (λ (r : Row). record { tile = tile_of held ts r.time; row = r }) rs

unfoldable pub published : ℕ → List ℕ → List ℕ → List ℕ → List Row → List (ℕ × ℕ) → List ℕ → Answer
published crossings lower upper held rs ps f = record {
  status = 0;
  crossings = crossings;
  tiles = tiles lower upper held;
  fixes = sorted_fixes (placed held (tiles lower upper held) rs);
  pending = ps;
  frontier = f;
}

-- ---- a call that worked
pub record Published (keys values times : List ℕ) (diffs : List ℤ) (pendkeys pendtimes frontier lower upper held res res' : List ℕ) (rd rd' : List ℤ) (n : Counts) : Type 0 where
  pub counted : (crossings : ℕ) → Counted (published crossings lower upper held (rows keys values times diffs) (pairs pendkeys pendtimes) frontier) n
  pub told : (crossings : ℕ) → Told (published crossings lower upper held (rows keys values times diffs) (pairs pendkeys pendtimes) frontier) res res' rd rd'

-- what publish takes: the first n corrections and the first m pending entries
pub record Ready (keys values times : List ℕ) (diffs : List ℤ) (n : ℕ) (pendkeys pendtimes : List ℕ) (m : ℕ) (frontier lower upper held out places work res : List ℕ) (rd : List ℤ) : Type 0 where
  pub few_fixes : n ≤ most_records
  pub in_keys : n ≤ length keys
  pub in_values : n ≤ length values
  pub in_times : n ≤ length times
  pub in_diffs : n ≤ length diffs
  pub few_pending : m ≤ most_records
  pub in_pendkeys : m ≤ length pendkeys
  pub in_pendtimes : m ≤ length pendtimes
  pub few_frontier : length frontier ≤ most_times
  pub few_lower : length lower ≤ most_times
  pub few_upper : length upper ≤ most_times
  pub few_held : length held ≤ most_times
  pub room_out : n ≤ length out
  pub room_places : n ≤ length places
  pub room_work : n ≤ length work
  pub wide_numbers : numbers_size ≤ length res
  pub wide_diffs : most_records ≤ length rd

-- ---- the other statuses
pub record Quiet (held pendkeys pendtimes res : List ℕ) (rd : List ℤ) : Type 0 where
  pub few_held : length held ≤ most_times
  pub few_pending : length pendkeys ≤ most_records
  pub long_pending : length pendtimes ≡ length pendkeys
  pub wide_numbers : numbers_size ≤ length res
  pub wide_diffs : most_records ≤ length rd

pub record QuietTold (held pendkeys pendtimes res res' : List ℕ) (rd rd' : List ℤ) (n : Counts) : Type 0 where
  pub counted : (q : Request) → q.held ≡ held → q.pending ≡ pairs pendkeys pendtimes → Counted (quiet_answer q) n
  pub told : (q : Request) → q.held ≡ held → q.pending ≡ pairs pendkeys pendtimes → Told (quiet_answer q) res res' rd rd'

-- at every status that writes: all but 11 to 17
pub record NothingTold (res res' : List ℕ) (rd rd' : List ℤ) (n : Counts) : Type 0 where
  pub counted : (status : ℕ) → Counted (refused status) n
  pub told : (status : ℕ) → (leb 11 status && leb status 17) ≡ false → Told (refused status) res res' rd rd'
