-- Where the corrections of a call are: each is at a moment of its key, so short of upper and at or above a new or pending time of the key, and
-- goes to the tile of the last held time at or below it, which exists and has the time between its bounds.
--
-- settle-times: a key has one round for each moment, at that moment
-- Placed, fixes-placed: what holds of every correction
use Prim.Native.Nat.{ℕ}
use mathlib.Core.Bool.{true, false, not}
use mathlib.Core.List.{List, [], ◌∷◌, map, ◌++◌}
use mathlib.Core.Path.{◌≡◌, refl, ap}
use lib.Dec.{ltb}
use lib.IntN.{ℤ}
use Rattle.grid.specs.Lists.{ascending}
use Rattle.grid.specs.Frontiers.{beyond}
use Rattle.grid.proofs.Lists.{All, all_of, all_imp, all_both, all_flat, all_map, map_all, all_sort}
use Rattle.rules.specs.Histories.{Edit}
use Rattle.rules.specs.Tiles.{Tile, tiles, tile_of}
use Rattle.rules.specs.Retire.{Round, round_at, settle, dated}
use Rattle.rules.specs.Call.{Request, Fix, check15, together, times_of, pending_of, changed, work, work_all, fixes_of, fix_before, fixes_all}
use Rattle.rules.specs.Right.{touched}
use Rattle.rules.proofs.Moments.{moments_above, found_listed}
use Rattle.rules.proofs.Tiles.{Landed, touched_lands}
use Rattle.rules.proofs.Statuses.{Accepted, fixes_found}
use Rattle.rules.proofs.Work.{pending_ascends}

pub settle-times : (mode : ℕ) (input output : List Edit) (ts : List ℕ) → map (λ (r : Round). r.time) (settle mode input output ts) ≡ ts
unfolding settle round_at
settle-times mode input output [] = refl
settle-times mode input output (t ∷ ts) = ap (λ l. t ∷ l) (settle-times mode input (output ++ dated t (round_at mode input output t).fixes) ts)

module _ (q : Request) where
  -- a time of the key k at which corrections are made
  record Made (k t : ℕ) : Type 0 where
    short : beyond q.upper t ≡ false
    above : touched q k t ≡ true

  abbrev its_tiles : List Tile
  its_tiles = tiles q.lower q.upper q.held

  pub record Placed (f : Fix) : Type 0 where
    pub short : beyond q.upper f.row.time ≡ false
    pub above : touched q f.row.key f.row.time ≡ true
    pub place : f.tile ≡ tile_of q.held (tiles q.lower q.upper q.held) f.row.time
    pub lands : Landed q.lower q.upper q.held f.row.time

  module _ (A : Accepted q) where
    rises : (k : ℕ) → ascending ltb (pending_of k q.pending) ≡ true
    unfolding check15
    rises k = pending_ascends k q.pending A.holds_15

    rounds_made : (k : ℕ) → All (λ (r : Round). Made k r.time) (work q (together q.old q.new) k).rounds
    unfolding work touched beyond
    rounds_made k =
        map_all (λ (r : Round). r.time) _
        (rw (settle-times q.mode _ _ (work q (together q.old q.new) k).found.moments)
        (all_imp (λ t h. record { short = h.0; above = h.1 })
        (all_both (found_listed q.upper (times_of k q.new) (pending_of k q.pending) _ _ (rises k)).moments_short (moments_above q.upper (times_of k q.new) (pending_of k q.pending) _ _))))

    pub fixes-placed : All Placed (fixes_found q)
    unfolding fixes_all work_all fixes_of work
    fixes-placed =
        all_sort (λ f g. not (fix_before g f))
        (all_flat (fixes_of q its_tiles)
        (all_map (work q (together q.old q.new))
        (all_of (λ k. all_flat _ (all_imp (λ (r : Round) m. all_map _ (all_of (λ (c : ℕ × ℤ). record {
          short = m.short;
          above = m.above;
          place = refl;
          lands = touched_lands q A.holds_16 A.holds_17 A.holds_12 k r.time m.above m.short;
        }) r.fixes)) (rounds_made k))) (changed q))))
