-- "Changed keys: keys of seeds and pending, ascending, cut into windows of the width. Round j of a window takes the j-th moment t of each key that
-- has one."
-- "Crossings counts the rounds in which at least one key crossed"
-- "A correction goes to the tile of the last held time at or below t."
--
-- slot_of q k: the slot of a key when its window begins: its part of both inputs together, its part of the output, and its moments
-- windows_of q ks: keys, cut into windows of the width
-- rows_of, crossings_of: the corrections of windows, one window after the other, and in how many rounds of them some key crosses
-- as_fix q r: the record of a correction, with the place of its tile
use Rattle.std.specs.Prelude.{ℕ, List, map, length}
use Rattle.grid.specs.Lists.{flat}
use Rattle.grid.specs.Records.{Row}
use Rattle.rules.specs.Tiles.{tiles, tile_of}
use Rattle.rules.specs.Retire.{windows}
use Rattle.rules.specs.Call.{Request, Fix, together, edits_of}
use Rattle.rules.specs.Runs.{work_of}
use Rattle.rules.proofs.Width.{sum_of}
use Rattle.slots.specs.Slots.{Slot, window_rows, window_crossings}

unfoldable pub slot_of : Request → ℕ → Slot
slot_of q k = record { key = k; input = edits_of k (together q.old q.new); output = edits_of k q.out; moments = (work_of q k).found.moments }

unfoldable pub windows_of : Request → List ℕ → List (List ℕ)
windows_of q ks = windows (length ks) q.width ks

unfoldable pub rows_of : Request → List (List ℕ) → List Row
rows_of q ws = flat (λ w. window_rows q.mode (map (slot_of q) w)) ws

unfoldable pub crossings_of : Request → List (List ℕ) → ℕ
crossings_of q ws = sum_of (λ w. window_crossings q.mode (map (slot_of q) w)) ws

abbrev pub as_fix : Request → Row → Fix
as_fix q r = record { tile = tile_of q.held (tiles q.lower q.upper q.held) r.time; row = r }
