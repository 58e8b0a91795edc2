-- A call as it is lent, in columns, and what memory holds after it.
--
-- "'Cleared' is all zero over the whole result and work memory. After 0, 1 and 2 unused result entries and work memory are zero. The old
-- pending list is never written. Result memory holds 4,096 corrections, 4,096 pending entries, 16 tiles with bounds of up to 31 times, 16
-- frontier times; work sizes are published constants."
-- 11: "unequal column lengths … lent memory too short". 11 to 17: "untouched". 18 and 19: "cleared".
--
-- Memory: the result slices and the work slices. Sizes: how long work slices must be. Lent: all that is lent
-- alike: a run's columns are of one length. roomy: memory is long enough. request_of: the lists of a lent call
-- call_lent: the answer to a lent call
-- numbers, diffs: the results as two slices. leaves: what a slice holds afterwards. after: all of memory afterwards
use Rattle.std.specs.Prelude.{ℕ, ◌+◌, ◌*◌, Bool, true, false, cond, ◌&&◌, List, [], ◌∷◌, ◌++◌, map, leb, eqb, ℤ, pos, length}
use Rattle.grid.specs.Lists.{flat, padded}
use Rattle.grid.specs.Frontiers.{most_times}
use Rattle.grid.specs.Records.{Row, Columns, rows, pairs, most_records}
use Rattle.rules.specs.Tiles.{Tile}
use Rattle.rules.specs.Call.{Request, Fix, Answer, refused, call}

-- the most times of a tile's bound: 16 of upper and 15 held
abbrev pub most_bound : ℕ
most_bound = 31

-- a tile's numbers: two lengths, two bounds, the held time
abbrev pub tile_size : ℕ
tile_size = 65

-- six columns of 4,096, 16 tiles, 16 frontier times
abbrev pub numbers_size : ℕ
numbers_size = 6 * most_records + most_times * tile_size + most_times

pub record Memory : Type 0 where
  pub numbers : List ℕ
  pub diffs : List ℤ
  pub work : List (List ℕ)
  pub work_diffs : List (List ℤ)

pub record Sizes : Type 0 where
  pub work : List ℕ
  pub work_diffs : List ℕ

pub record Lent : Type 0 where
  pub mode : ℕ
  pub width : ℕ
  pub lower : List ℕ
  pub upper : List ℕ
  pub held : List ℕ
  pub old : Columns
  pub new : Columns
  pub out : Columns
  pub pending_keys : List ℕ
  pub pending_times : List ℕ
  pub memory : Memory

unfoldable pub alike : Columns → Bool
alike c = eqb (length c.values) (length c.keys) && eqb (length c.times) (length c.keys) && eqb (length c.diffs) (length c.keys)

abbrev pub long_enough : {A : Type 0} → List ℕ → List (List A) → Bool
long_enough [] ss = true
long_enough (n ∷ ns) [] = false
long_enough (n ∷ ns) (s ∷ ss) = leb n (length s) && long_enough ns ss

unfoldable pub roomy : Sizes → Memory → Bool
roomy z m =
    leb numbers_size (length m.numbers) && leb most_records (length m.diffs) && long_enough z.work m.work && long_enough z.work_diffs m.work_diffs

unfoldable pub lent_well : Sizes → Lent → Bool
lent_well z l =
    alike l.old && alike l.new && alike l.out && eqb (length l.pending_times) (length l.pending_keys) && roomy z l.memory

unfoldable pub rows_of : Columns → List Row
rows_of c = rows c.keys c.values c.times c.diffs

unfoldable pub request_of : Lent → Request
request_of l = record {
  mode = l.mode;
  width = l.width;
  lower = l.lower;
  upper = l.upper;
  held = l.held;
  old = rows_of l.old;
  new = rows_of l.new;
  out = rows_of l.out;
  pending = pairs l.pending_keys l.pending_times;
}

unfoldable pub call_lent : Sizes → Lent → Answer
call_lent z l = let a : Answer = call (request_of l) in cond (lent_well z l) a (refused 11)

-- ---- afterwards
unfoldable pub tile_numbers : Tile → List ℕ
tile_numbers t =
    length t.lower ∷ padded 0 most_bound t.lower ++ length t.upper ∷ padded 0 most_bound t.upper ++ t.held ∷ []

unfoldable pub numbers : Answer → List ℕ
numbers a =
    padded 0 most_records (map (λ (f : Fix). f.tile) a.fixes)
    ++ padded 0 most_records (map (λ (f : Fix). f.row.key) a.fixes)
    ++ padded 0 most_records (map (λ (f : Fix). f.row.value) a.fixes)
    ++ padded 0 most_records (map (λ (f : Fix). f.row.time) a.fixes)
    ++ padded 0 most_records (map (λ p. p.0) a.pending)
    ++ padded 0 most_records (map (λ p. p.1) a.pending)
    ++ padded 0 (most_times * tile_size) (flat tile_numbers a.tiles)
    ++ padded 0 most_times a.frontier

unfoldable pub diffs : Answer → List ℤ
diffs a = map (λ (f : Fix). f.row.diff) a.fixes

-- untouched at 11 to 17, else the results and then zeros
unfoldable pub leaves : {A : Type 0} → A → ℕ → List A → List A → List A
leaves zero status slice results = cond (leb 11 status && leb status 17) slice (padded zero (length slice) results)

unfoldable pub after : Answer → Memory → Memory
after a m = record {
  numbers = leaves 0 a.status m.numbers (numbers a);
  diffs = leaves (pos 0) a.status m.diffs (diffs a);
  work = map (λ s. leaves 0 a.status s []) m.work;
  work_diffs = map (λ s. leaves (pos 0) a.status s []) m.work_diffs;
}
