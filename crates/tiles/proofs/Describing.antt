-- All tiles and all places.
--
-- fitting-roomy: what fits is roomy.
-- fits_places: there is room for a place beside each held time. tiled_count: and for the tiles' held times. described_tiled: tiles and places written
-- described_tile: the place beside the last held time at or below t is that of the rules' tile
use Prim.Native.Nat.{ℕ, ◌*◌, ◌≤◌, ◌<◌}
use native.Mathlib.Omega.{arith}
use mathlib.Core.Bool.{true, ◌&&◌}
use mathlib.Core.List.{List, ◌++◌, map}
use mathlib.Core.Path.{◌≡◌, sym, ◌∙◌, ap, subst}
use lib.Dec.{leb}
use lib.ListN.{length, take, drop, length-map}
use borrow.Author.Tests.{leb-true}
use Rattle.grid.specs.Frontiers.{most_times}
use Rattle.grid.proofs.Tests.{and_l, and_r, clash}
use Rattle.rules.specs.Tiles.{Tile, tiles, place, tile_of}
use Rattle.rules.specs.Memory.{most_bound, tile_size}
use Rattle.rules.proofs.Tiles.{tiles-length}
use Rattle.grid.specs.Slices.{Laid}
use Rattle.grid.proofs.Slices.{laid_fits, laid-length, laid_front}
use Rattle.tiles.specs.Described.{held_times, position, place_beside, Tiled, Roomy, fitting, Described}
use Rattle.tiles.proofs.Places.{place-position, beside_tile}

module _ (lower upper held out places : ℕ) (e : fitting lower upper held out places ≡ true) where
  fits_three : (leb lower most_times && leb upper most_times && leb held most_times) ≡ true
  unfolding fitting
  fits_three = and_l (leb lower most_times && leb upper most_times && leb held most_times) (leb (most_times * tile_size) out) (and_l _ (leb most_times places) e)

  fits_held : held ≤ most_times
  fits_held = leb-true held most_times (and_r (leb lower most_times && leb upper most_times) (leb held most_times) fits_three)

  pub fits_places : held ≤ places
  unfolding fitting
  fits_places =
      let p : most_times ≤ places = leb-true most_times places (and_r (leb lower most_times && leb upper most_times && leb held most_times && leb (most_times * tile_size) out) (leb most_times places) e) in
      omega (arith, fits_held)

  pub fitting-roomy : {times low up : ℕ} → most_times ≤ times → most_bound < low → most_bound < up → Roomy lower upper held out times low up
  unfolding fitting
  fitting-roomy t l u = record {
    few_lower = leb-true lower most_times (and_l (leb lower most_times) (leb upper most_times) (and_l (leb lower most_times && leb upper most_times) (leb held most_times) fits_three));
    few_upper = leb-true upper most_times (and_r (leb lower most_times) (leb upper most_times) (and_l (leb lower most_times && leb upper most_times) (leb held most_times) fits_three));
    few_held = fits_held;
    room_out = leb-true (most_times * tile_size) out (and_r (leb lower most_times && leb upper most_times && leb held most_times) (leb (most_times * tile_size) out) (and_l _ (leb most_times places) e));
    room_times = t;
    room_low = l;
    room_up = u;
  }

module _ (lower upper held out places : List ℕ) where
  module _ (e : fitting (length lower) (length upper) (length held) (length out) (length places) ≡ true) {out' times times' : List ℕ} {count : ℕ} (room : most_times ≤ length times)
      (t : Tiled (tiles lower upper held) out out' times times' count) where
    helds_length : length (held_times (tiles lower upper held)) ≡ length (tiles lower upper held)
    unfolding held_times
    helds_length = length-map (tiles lower upper held) (λ (t : Tile). t.held)

    few : count ≤ length times
    few =
        omega (arith, t.helds.counted, helds_length, tiles-length lower upper held, fits_held (length lower) (length upper) (length held) (length out) (length places) e)

    pub tiled_count : count ≤ length times'
    tiled_count = let n : length times' ≡ length times = ap length t.helds.holds ∙ laid-length _ times in omega (arith, few)

    pub described_tiled : {places' : List ℕ} {r : ℕ} → Laid (map (λ h. position h (take count times')) held) places places' r → Described lower upper held out out' places places' count
    described_tiled {places'} {r} l =
        let ts = tiles lower upper held in
        let f : take count times' ≡ held_times ts = laid_front t.helds (omega (arith, few, t.helds.counted)) in
        let p : map (λ h. position h (take count times')) held ≡ map (λ h. place h ts) held =
        ap (λ xs. map (λ h. position h xs) held) f ∙ (λ i. map (λ h. sym (place-position h ts) i) held) in
        record {
          tiled = λ _. (t.helds.counted ∙ helds_length, (t.numbers.holds, (subst (λ xs. Laid xs places places' r) p l).holds));
          refused = λ k. clash (fitting (length lower) (length upper) (length held) (length out) (length places)) e k;
        }

-- With the places that tile_descriptions writes, tile_of says the rules' tile.
pub described_tile : {lower upper held out out' places places' : List ℕ} {r : ℕ} (t : ℕ) → fitting (length lower) (length upper) (length held) (length out) (length places) ≡ true
    → Described lower upper held out out' places places' r → place_beside held places' r t ≡ tile_of held (tiles lower upper held) t
described_tile {lower} {upper} {held} {out} {out'} {places} {places'} {r} t e d =
    let ts = tiles lower upper held in
    let n : length (map (λ h. place h ts) held) ≡ length held = length-map held (λ h. place h ts) in
    let p : places' ≡ map (λ h. place h ts) held ++ drop (length (map (λ h. place h ts) held)) places =
    (d.tiled e).1.1 ∙ laid_fits (map (λ h. place h ts) held) places (omega (arith, fits_places (length lower) (length upper) (length held) (length out) (length places) e)) in
    rw (p, (d.tiled e).0) (beside_tile held ts t (drop (length (map (λ h. place h ts) held)) places))
