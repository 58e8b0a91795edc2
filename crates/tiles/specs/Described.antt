-- What the functions on tiles say.
--
-- bound: a tile's bound as numbers: its length, then its times up to 31
-- kept lower cut h: the tile of one held time, if it is not skipped. Tiles are these, one held time after the other
-- held_times: those of tiles. Kept, Tiled: what slices hold after one tile, if it is kept, and after all tiles
-- position x xs: how many elements stand before the first x (all of them, if there is none)
-- place_beside held places count t: the place beside the last held time at or below t, or `count` if there is none
-- fitting, Described: what tile_descriptions takes, and what it says
-- Front xs s n: the first n elements of s are xs
use Rattle.std.specs.Prelude.{ℕ, suc, ◌*◌, ◌≤◌, ◌<◌, Bool, true, false, cond, ◌&&◌, List, [], ◌∷◌, ◌++◌, map, ◌≡◌, eqb, leb, length, take}
use Rattle.std.proofs.Math.Option.{none, some}
use Rattle.grid.specs.Lists.{keep, last, flat, padded, same}
use Rattle.grid.specs.Times.{below}
use Rattle.grid.specs.Records.{pairs}
use Rattle.grid.specs.Frontiers.{most_times}
use Rattle.rules.specs.Tiles.{Tile, tiles, place}
use Rattle.rules.specs.Memory.{most_bound, tile_size, tile_numbers}
use Rattle.grid.specs.Slices.{laid, Laid}

unfoldable pub bound : List ℕ → List ℕ
bound f = length f ∷ padded 0 most_bound f

unfoldable pub kept : List ℕ → List ℕ → ℕ → List Tile
kept lower cut h = cond (same cut lower) [] (record { lower = lower; upper = cut; held = h } ∷ [])

unfoldable pub held_times : List Tile → List ℕ
held_times ts = map (λ (t : Tile). t.held) ts

abbrev pub position : ℕ → List ℕ → ℕ
position x [] = 0
position x (y ∷ ys) = let r = suc (position x ys) in cond (eqb x y) 0 r

-- "A correction goes to the tile of the last held time at or below t", with the places of tiles beside the held times
unfoldable pub place_beside : List ℕ → List ℕ → ℕ → ℕ → ℕ
place_beside held places count t = elim (last (keep (λ (p : ℕ × ℕ). below p.0 t) (pairs held places))) [ none ↦ count | some p ↦ p.1 ]

pub record Front (xs s : List ℕ) (n : ℕ) : Type 0 where
  pub counted : n ≡ length xs
  pub within : n ≤ length s
  pub holds : take n s ≡ xs

-- the tile of one held time, if it is kept: after `count` tiles, of which out has the numbers and times the held times
pub record Kept (lower cut : List ℕ) (h : ℕ) (out out' times times' : List ℕ) (count r : ℕ) : Type 0 where
  pub numbers : Laid (take (count * tile_size) out ++ flat tile_numbers (kept lower cut h)) out out' (r * tile_size)
  pub helds : Laid (take count times ++ held_times (kept lower cut h)) times times' r

-- all tiles
pub record Tiled (ts : List Tile) (out out' times times' : List ℕ) (r : ℕ) : Type 0 where
  pub numbers : Laid (flat tile_numbers ts) out out' (r * tile_size)
  pub helds : Laid (held_times ts) times times' r

-- how long slices are where all tiles are written
pub record Roomy (lower upper held out times low up : ℕ) : Type 0 where
  pub few_lower : lower ≤ most_times
  pub few_upper : upper ≤ most_times
  pub few_held : held ≤ most_times
  pub room_out : most_times * tile_size ≤ out
  pub room_times : most_times ≤ times
  pub room_low : most_bound < low
  pub room_up : most_bound < up

-- what tile_descriptions takes: at most 16 times each, and slices for 16 tiles and 16 places
unfoldable pub fitting : ℕ → ℕ → ℕ → ℕ → ℕ → Bool
fitting lower upper held out places =
    leb lower most_times && leb upper most_times && leb held most_times && leb (most_times * tile_size) out && leb most_times places

-- The tiles' numbers and, beside each held time, the place of its tile, each over the front of a slice whose rest stays as it was. What does
-- not fit is refused: no tile, and nothing is written.
pub record Described (lower upper held out out' places places' : List ℕ) (r : ℕ) : Type 0 where
  pub tiled : fitting (length lower) (length upper) (length held) (length out) (length places) ≡ true
      → (r ≡ length (tiles lower upper held))
      × ((out' ≡ laid (flat tile_numbers (tiles lower upper held)) out) × (places' ≡ laid (map (λ h. place h (tiles lower upper held)) held) places))
  pub refused : fitting (length lower) (length upper) (length held) (length out) (length places) ≡ false → (r ≡ 0) × ((out' ≡ out) × (places' ≡ places))
