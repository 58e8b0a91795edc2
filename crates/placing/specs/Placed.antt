-- "A correction goes to the tile of the last held time at or below t."
--
-- Few: at most 16 times each, room for the tiles, and for a tile beside each of the first n times
-- TilesTold: what publish_tiles says
use Rattle.std.specs.Prelude.{ℕ, ◌≤◌, List, map, ◌≡◌, length}
use Rattle.grid.specs.Lists.{flat}
use Rattle.grid.specs.Frontiers.{most_times}
use Rattle.rules.specs.Tiles.{tiles, tile_of}
use Rattle.rules.specs.Memory.{tile_numbers, numbers_size}
use Rattle.placing.specs.Parts.{laid_at, tiles_at}

pub record Few (lower upper held times : List ℕ) (n : ℕ) (out res : List ℕ) : Type 0 where
  pub few_lower : length lower ≤ most_times
  pub few_upper : length upper ≤ most_times
  pub few_held : length held ≤ most_times
  pub in_times : n ≤ length times
  pub room_out : n ≤ length out
  pub wide_numbers : numbers_size ≤ length res

pub record TilesTold (lower upper held times out res res' : List ℕ) (r : ℕ) : Type 0 where
  pub counted : r ≡ length (tiles lower upper held)
  pub places_are : out ≡ map (tile_of held (tiles lower upper held)) times
  pub tiles_are : res' ≡ laid_at tiles_at (flat tile_numbers (tiles lower upper held)) res
