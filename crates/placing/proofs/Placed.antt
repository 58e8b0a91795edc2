-- Tiles in result memory, and the tiles of times.
--
-- numbers_short: the tiles' numbers are at most 65 for each held time
-- few_fitting: what publish_tiles asks fits tile_descriptions. tiles-told: what publish_tiles says
use Prim.Native.Nat.{ℕ, suc, ◌+◌, ◌*◌, ◌-◌, ◌≤◌}
use native.Mathlib.Omega.{arith}
use native.Mathlib.Nat.{sub-zero}
use mathlib.Core.Bool.{true, ◌&&◌}
use mathlib.Core.List.{List, [], ◌∷◌, ◌++◌, map}
use mathlib.Core.Path.{◌≡◌, sym, ◌∙◌, ap}
use lib.Dec.{leb}
use lib.ListN.{length, take, drop, length-append, length-map}
use lib.Seq.{length-take-le, take_at}
use borrow.Author.Tests.{le-leb}
use borrow.Rule.Slice.PartMut.{put_mid, mid_of, mid_len}
use Rattle.grid.specs.Lists.{flat, same}
use Rattle.grid.specs.Frontiers.{most_times, all_inserted}
use Rattle.grid.proofs.Tests.{by-test, and_i}
use Rattle.grid.proofs.Frontiers.{all_inserted-length}
use Rattle.grid.proofs.Slices.{laid_fits}
use Rattle.rules.specs.Tiles.{tiles}
use Rattle.rules.specs.Memory.{most_bound, tile_size, tile_numbers}
use Rattle.tiles.specs.Described.{place_beside, fitting, Described}
use Rattle.tiles.proofs.Writing.{tile-length}
use Rattle.tiles.proofs.Describing.{described_tile}
use Rattle.placing.specs.Parts.{tiles_at, frontier_at}
use Rattle.placing.specs.Placed.{Few, TilesTold}
use Rattle.placing.proofs.Parts.{part_front}

pub numbers_short : (upper lower held : List ℕ) → length lower ≤ most_bound → length held + length upper ≤ suc most_bound → length (flat tile_numbers (tiles lower upper held)) ≤ length held * tile_size
unfolding tiles
numbers_short upper lower [] l k = omega arith
numbers_short upper lower (h ∷ later) l k =
    let cut = all_inserted later upper in
    let c : length cut ≤ most_bound = omega (arith, all_inserted-length upper later) in
    let rest = numbers_short upper cut later c (omega arith) in
    by-test (same cut lower) (λ e. rw e (omega arith)) (λ e. rw (e, length-append, tile-length lower cut h l c) (omega arith))

module _ {lower upper held times : List ℕ} {n : ℕ} {out res : List ℕ} (f : Few lower upper held times n out res) where
  few_fitting : {a b : ℕ} → most_times * tile_size ≤ a → most_times ≤ b → fitting (length lower) (length upper) (length held) a b ≡ true
  unfolding fitting
  few_fitting {a} {b} h k =
      and_i (leb (length lower) most_times && leb (length upper) most_times && leb (length held) most_times && leb (most_times * tile_size) a) (leb most_times b)
      (and_i (leb (length lower) most_times && leb (length upper) most_times && leb (length held) most_times) (leb (most_times * tile_size) a)
      (and_i (leb (length lower) most_times && leb (length upper) most_times) (leb (length held) most_times)
      (and_i (leb (length lower) most_times) (leb (length upper) most_times) (le-leb (length lower) most_times f.few_lower) (le-leb (length upper) most_times f.few_upper))
      (le-leb (length held) most_times f.few_held))
      (le-leb (most_times * tile_size) a h))
      (le-leb most_times b k)

  pub tiles-told : {part places places' beside : List ℕ} {r : ℕ} → most_times ≤ length places
      → Described lower upper held (mid_of tiles_at (frontier_at - tiles_at) res) part places places' r → beside ≡ map (place_beside held places' r) (take n times)
      → TilesTold lower upper held (take n times) (take n (beside ++ drop n out)) res (put_mid tiles_at (frontier_at - tiles_at) res part) r
  tiles-told {part} {places} {places'} {beside} {r} k d e =
      let ts = tiles lower upper held in
      let w = f.wide_numbers in
      let l : length (mid_of tiles_at (frontier_at - tiles_at) res) ≡ frontier_at - tiles_at = mid_len tiles_at frontier_at res (omega arith) in
      let fit = few_fitting {a = length (mid_of tiles_at (frontier_at - tiles_at) res)} (omega arith) k in
      let short : length (flat tile_numbers ts) ≤ most_times * tile_size = omega (arith, numbers_short upper lower held (omega (arith, f.few_lower)) (omega (arith, f.few_upper, f.few_held)), f.few_held) in
      record {
        counted = (d.tiled fit).0;
        places_are =
            take_at beside (drop n out) n (ap length e ∙ length-map (take n times) (place_beside held places' r) ∙ length-take-le n times f.in_times)
            ∙ e
            ∙ (λ i. map (λ t. described_tile t fit d i) (take n times));
        tiles_are = part_front res tiles_at (flat tile_numbers ts) frontier_at (omega arith) (omega arith) ((d.tiled fit).1.0 ∙ laid_fits (flat tile_numbers ts) _ (omega arith));
      }
