-- "tile_descriptions. Cut i is upper with held[i+1..] inserted, dominated times removed. Tile i runs from the last kept cut (at first lower)
-- to cut i; skipped if the two are equal."
-- "A correction goes to the tile of the last held time at or below t."
--
-- Tile: its bounds and its held time
-- tiles lower upper held: the tiles of the held times, the last kept cut being `lower`
-- place h ts: how many tiles stand before the one with the held time h (all of them, if it has none)
-- holder held t: the last held time at or below t. tile_of held ts t: the place of its tile
use Rattle.std.specs.Prelude.{ℕ, suc, cond, List, [], ◌∷◌, eqb, length}
use Rattle.std.proofs.Math.Option.{Option, none, some}
use Rattle.grid.specs.Lists.{keep, last, same}
use Rattle.grid.specs.Times.{below}
use Rattle.grid.specs.Frontiers.{all_inserted}

pub record Tile : Type 0 where
  pub lower : List ℕ
  pub upper : List ℕ
  pub held : ℕ

unfoldable pub tiles : List ℕ → List ℕ → List ℕ → List Tile
tiles lower upper [] = []
tiles lower upper (h ∷ later) =
    let cut = all_inserted later upper in
    let rest = tiles cut upper later in
    cond (same cut lower) rest (record { lower = lower; upper = cut; held = h } ∷ rest)

unfoldable pub place : ℕ → List Tile → ℕ
place h [] = 0
place h (t ∷ ts) = let r = suc (place h ts) in cond (eqb h t.held) 0 r

unfoldable pub holder : List ℕ → ℕ → Option ℕ
holder held t = last (keep (λ h. below h t) held)

unfoldable pub tile_of : List ℕ → List Tile → ℕ → ℕ
tile_of held ts t = elim (holder held t) [ none ↦ length ts | some h ↦ place h ts ]
