-- The answer that stands in the result memory, which is laid out as Memory.antt says, with the counts beside it; and what writing it answers.
--
-- places i n: i, i + 1, …, n of them
-- fix_at, pair_at, tile_at: the i-th correction, pending entry and tile. bound_at: a tile's bound, with its length before it
-- standing: the whole answer
-- the_fix: a correction from its parts
-- Fits, sizes_fit, counts_fit, memory_fits: a worked answer's memory is long enough, and its counts are no larger than the memory
-- told n most: the answer to writing n bytes into a slice of most bytes
-- Written: what writing leaves
use Rattle.std.specs.Prelude.{ℕ, zero, suc, ◌+◌, ◌*◌, ◌≤◌, min, Bool, cond, ◌&&◌, ◌||◌, Option, Some, None, List, [], ◌∷◌, map, ◌≡◌, leb, ℤ, pos, length, get_or, take, drop}
use Rattle.std.proofs.lemmas.List.Edits.{sets}
use Rattle.grid.specs.Frontiers.{most_times}
use Rattle.grid.specs.Records.{Row, most_records}
use Rattle.rules.specs.Tiles.{Tile}
use Rattle.rules.specs.Call.{Fix, Answer}
use Rattle.rules.specs.Memory.{most_bound, tile_size, numbers_size}
use Rattle.writing.specs.declared.Results.{Results}

abbrev pub places : ℕ → ℕ → List ℕ
places i zero = []
places i (suc n) = i ∷ places (suc i) n

unfoldable pub fix_at : List ℕ → List ℤ → ℕ → Fix
fix_at ns ds i = record {
  tile = get_or ns i 0;
  row = record { key = get_or ns (most_records + i) 0; value = get_or ns (2 * most_records + i) 0; time = get_or ns (3 * most_records + i) 0; diff = get_or ds i (pos 0) };
}

unfoldable pub pair_at : List ℕ → ℕ → ℕ × ℕ
pair_at ns i = (get_or ns (4 * most_records + i) 0, get_or ns (5 * most_records + i) 0)

unfoldable pub bound_at : List ℕ → ℕ → List ℕ
bound_at ns from = take (min (get_or ns from 0) most_bound) (drop (from + 1) ns)

unfoldable pub tile_from : List ℕ → ℕ → Tile
tile_from ns from = record { lower = bound_at ns from; upper = bound_at ns (from + 32); held = get_or ns (from + 64) 0 }

unfoldable pub tile_at : List ℕ → ℕ → Tile
tile_at ns i = tile_from ns (6 * most_records + tile_size * i)

unfoldable pub frontier_at : List ℕ → ℕ → List ℕ
frontier_at ns n = take n (drop (6 * most_records + most_times * tile_size) ns)

unfoldable pub standing : Results → List ℕ → List ℤ → Answer
standing a ns ds = record {
  status = a.status;
  crossings = a.crossings;
  tiles = map (tile_at ns) (places 0 a.tiles);
  fixes = map (fix_at ns ds) (places 0 a.fixes);
  pending = map (pair_at ns) (places 0 a.pending);
  frontier = frontier_at ns a.frontier;
}

abbrev pub the_fix : ℕ → Row → Fix
the_fix i r = record { tile = i; row = r }

pub record Fits (a : Results) (ns ds : ℕ) : Type 0 where
  pub numbers_fit : numbers_size ≤ ns
  pub diffs_fit : most_records ≤ ds
  pub tiles_fit : a.tiles ≤ most_times
  pub fixes_fit : a.fixes ≤ most_records
  pub pending_fit : a.pending ≤ most_records
  pub frontier_fit : a.frontier ≤ most_times

unfoldable pub sizes_fit : ℕ → ℕ → Bool
sizes_fit ns ds = leb numbers_size ns && leb most_records ds

unfoldable pub counts_fit : Results → Bool
counts_fit a = leb a.tiles most_times && (leb a.fixes most_records && (leb a.pending most_records && leb a.frontier most_times))

unfoldable pub memory_fits : Results → ℕ → ℕ → Bool
memory_fits a ns ds = leb 3 a.status || (sizes_fit ns ds && counts_fit a)

abbrev pub told : ℕ → ℕ → Option ℕ
told n most = cond (leb n most) (Some n) None

pub record Written (fits : Bool) (xs out out' : List ℕ) (r : Option ℕ) : Type 0 where
  pub told_is : r ≡ cond fits (told (length xs) (length out)) None
  pub holds : out' ≡ cond fits (sets out 0 xs) out
