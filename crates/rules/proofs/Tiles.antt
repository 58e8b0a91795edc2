-- Tiles: they run from lower to upper without a gap, and no time short of upper that is at or above a new or pending one falls into a skipped
-- tile. That a moment is such a time is a law of discover_times and is not shown here.
--
-- Run, tiles-run, call-run: each tile begins where the one before it ends; the tiles of a call run so from lower to upper
-- Landed, time_lands: the last held time at or below a time between lower and upper has a tile, and the time lies between its bounds
-- tile_of-place, tile_of_within: tile_of of such a time is that tile's place, and a place
-- tiles-length: at most one tile for each held time. Bounded, tiles_bounds: bounds of at most 31 times. frontier_length: a frontier has at most 16
-- touched_lands: in an accepted call every time short of upper that is at or above a new or pending time of a key lands so
use Prim.Native.Nat.{ℕ, zero, suc, ◌+◌, ◌≤◌, ◌<◌}
use mathlib.Core.Bool.{Bool, true, false, ◌&&◌, ◌||◌}
use mathlib.Core.List.{List, [], ◌∷◌, ◌++◌}
use mathlib.Core.Option.{some, none-ne-some}
use mathlib.Core.Path.{◌≡◌, refl, sym, ◌∙◌, ap, ap₂, subst}
use native.Mathlib.Omega.{arith}
use lib.Dec.{eqb, leb}
use lib.ListN.{length, get_elem?}
use borrow.Author.Tests.{eqb-true, eq-eqb, ne_eqb, leb-true}
use Rattle.grid.specs.Lists.{any, every, same}
use Rattle.grid.specs.Times.{below}
use Rattle.grid.specs.Frontiers.{beyond, short_of, antichain, is_frontier, all_inserted, most_times}
use Rattle.grid.proofs.Tests.{by-test, clash, and_l, and_r, or_l, or_r}
use Rattle.grid.proofs.Lists.{All, nil, cons, keep_none, every_all, all_at, all_imp, all_append, all_keep, all_map, all_both, none_all}
use Rattle.grid.proofs.Times.{below_true}
use Rattle.grid.proofs.Frontiers.{beyond_up, short_down, Apart, Antichain, none, more, antichain_true, all_inserted-beyond, all_inserted-length}
use Rattle.rules.specs.Tiles.{Tile, tiles, place, holder, tile_of}
use Rattle.rules.specs.Call.{Request, check12, check16, is_held, check17, quiet, times_of, pending_of}
use Rattle.rules.specs.Right.{touched}
use Rattle.rules.specs.Memory.{most_bound}

-- ---- one after the other
same_true : (f g : List ℕ) → same f g ≡ true → f ≡ g
same_true [] [] e = refl
same_true [] (y ∷ ys) e = cc
same_true (x ∷ xs) [] e = cc
same_true (x ∷ xs) (y ∷ ys) e = ap₂ ◌∷◌ (eqb-true x y (and_l (eqb x y) _ e)) (same_true xs ys (and_r (eqb x y) (same xs ys) e))

-- the first tile's lower is the first bound, each next tile's lower is the upper before it, and the last tile's upper is the last bound;
-- with no tile the two bounds are equal. No tile is empty
pub data Run : List ℕ → List ℕ → List Tile → Type 0 where
  done : {bound : List ℕ} → Run bound bound []
  next : {lower cut upper : List ℕ} {h : ℕ} {ts : List Tile} → same cut lower ≡ false → Run cut upper ts → Run lower upper (record { lower = lower; upper = cut; held = h } ∷ ts)

pub tiles-run : (lower upper : List ℕ) (h : ℕ) (later : List ℕ) → Run lower upper (tiles lower upper (h ∷ later))
unfolding tiles all_inserted
tiles-run lower upper h [] = by-test (same upper lower) (λ e. rw e (rw (same_true upper lower e) done)) (λ e. rw e (next e done))
tiles-run lower upper h (i ∷ later) =
    let cut = all_inserted (i ∷ later) upper in
    by-test (same cut lower)
    (λ e. rw e (subst (λ b. Run b upper (tiles cut upper (i ∷ later))) (same_true cut lower e) (tiles-run cut upper i later)))
    (λ e. rw e (next e (tiles-run cut upper i later)))

-- A call that is not quiet has a held time.
pub call-run : (q : Request) → quiet q ≡ false → Run q.lower q.upper (tiles q.lower q.upper q.held)
unfolding quiet
call-run q e = from q.held e
  where
    from : (held : List ℕ) → every (beyond q.upper) held ≡ false → Run q.lower q.upper (tiles q.lower q.upper held)
    from [] n = clash true refl n
    from (h ∷ later) n = tiles-run q.lower q.upper h later

-- ---- the tile of a time
-- t in the tiles of held from lower to upper: its held time is the last one at or below it, and has a tile, between whose bounds t lies
pub record Landed (lower upper held : List ℕ) (t : ℕ) : Type 0 where
  pub time : ℕ
  pub is_held_lem : any (eqb time) held ≡ true
  pub at_or_below : below time t ≡ true
  pub is_last : All (λ u. below u t ≡ true → u ≤ time) held
  pub is_holder : holder held t ≡ some time
  pub tile : Tile
  pub found : get_elem? (tiles lower upper held) (place time (tiles lower upper held)) ≡ some tile
  pub of_time : tile.held ≡ time
  pub from_lower : beyond tile.lower t ≡ true
  pub to_upper : beyond tile.upper t ≡ false

-- a later held time's holder, with one more held time in front
holder-later : (h : ℕ) (later : List ℕ) (t : ℕ) {time : ℕ} → holder later t ≡ some time → holder (h ∷ later) t ≡ some time
unfolding holder
holder-later h later t e = by-test (below h t) (λ b. rw (b, e)) (λ b. rw b e)

holder_here : (h : ℕ) (later : List ℕ) (t : ℕ) → below h t ≡ true → All (λ u. below u t ≡ false) later → holder (h ∷ later) t ≡ some h
unfolding holder
holder_here h later t b n = rw (b, keep_none (λ u. below u t) n)

module _ (lower upper : List ℕ) (h : ℕ) (later : List ℕ) where
  found-later :
      (time : ℕ) (tile : Tile) → h < time
      → get_elem? (tiles (all_inserted later upper) upper later) (place time (tiles (all_inserted later upper) upper later)) ≡ some tile
      → get_elem? (tiles lower upper (h ∷ later)) (place time (tiles lower upper (h ∷ later))) ≡ some tile
  unfolding tiles place
  found-later time tile n e =
      by-test (same (all_inserted later upper) lower) (λ k. rw k e)
      (λ k. rw (k, ne_eqb time h (λ q. omega (arith, q, n))) e)

  module _ (t : ℕ) (apart : All (Apart h) later) where
    land_later : Landed (all_inserted later upper) upper later t → Landed lower upper (h ∷ later) t
    land_later l =
        let n = (all_at l.time later apart l.is_held_lem).earlier in
        record {
          time = l.time;
          is_held_lem = or_r (eqb l.time h) (any (eqb l.time) later) l.is_held_lem;
          at_or_below = l.at_or_below;
          is_last = cons {x = h} (λ _. omega arith) l.is_last;
          is_holder = holder-later h later t l.is_holder;
          tile = l.tile;
          found = found-later l.time l.tile n l.found;
          of_time = l.of_time;
          from_lower = l.from_lower;
          to_upper = l.to_upper;
        }

    -- cut is short of t and lower is not, so the tile is not skipped
    land_here : beyond lower t ≡ true → beyond upper t ≡ false → below h t ≡ true → beyond later t ≡ false → Landed lower upper (h ∷ later) t
    unfolding tiles place beyond
    land_here low short here none_later =
        let cut = all_inserted later upper in
        let none_below = none_all (λ u. below u t) later none_later in
        let under : beyond cut t ≡ false = all_inserted-beyond upper later t ∙ rw (none_later, short) in
        let kept : same cut lower ≡ false =
        by-test (same cut lower) (λ e. clash (beyond lower t) low (ap (λ f. beyond f t) (sym (same_true cut lower e)) ∙ under)) (λ e. e) in
        record {
          time = h;
          is_held_lem = or_l (eqb h h) _ (eq-eqb h h refl);
          at_or_below = here;
          is_last = cons {x = h} (λ _. omega arith) (all_imp (λ u n b. clash (below u t) b n) none_below);
          is_holder = holder_here h later t here none_below;
          tile = record { lower = lower; upper = cut; held = h };
          found = rw (kept, eq-eqb h h refl);
          of_time = refl;
          from_lower = low;
          to_upper = under;
        }

land : (upper : List ℕ) (t : ℕ) → beyond upper t ≡ false → {held : List ℕ} → Antichain held → (lower : List ℕ) → beyond lower t ≡ true → beyond held t ≡ true → Landed lower upper held t
unfolding beyond
land upper t short none lower low some-held = clash false some-held refl
land upper t short (more {t = h} {ts = later} apart chain) lower low some-held =
    by-test (beyond later t)
    (λ e. land_later lower upper h later t apart (land upper t short chain (all_inserted later upper) (all_inserted-beyond upper later t ∙ or_l (beyond later t) _ e) e))
    (λ e. land_here lower upper h later t apart low short (by-test (below h t) (λ b. b) (λ b. clash (beyond later t) (rw b at some-held) e)) e)

within : {A : Type 0} (xs : List A) (i : ℕ) {x : A} → get_elem? xs i ≡ some x → i < length xs
within [] i e = absurd (none-ne-some _ e)
within (y ∷ xs) zero e = omega arith
within (y ∷ xs) (suc i) e = omega (arith, within xs i e)

module _ (lower upper held : List ℕ) (t : ℕ) where
  -- Checks 12, 16 and 17 give what is supposed here (touched_lands).
  pub time_lands : is_frontier held ≡ true → beyond lower t ≡ true → beyond upper t ≡ false → beyond held t ≡ true → Landed lower upper held t
  unfolding is_frontier
  time_lands frontier low short some-held =
      land upper t short (antichain_true held (and_r (leb (length held) most_times) (antichain held) frontier)) lower low some-held

  pub tile_of-place : (l : Landed lower upper held t) → tile_of held (tiles lower upper held) t ≡ place l.time (tiles lower upper held)
  unfolding tile_of
  tile_of-place l = rw (l.is_holder, tile_of)

  pub tile_of_within : Landed lower upper held t → tile_of held (tiles lower upper held) t < length (tiles lower upper held)
  tile_of_within l = rw (tile_of-place l) (within (tiles lower upper held) _ l.found)

-- ---- how many, and how long
pub frontier_length : (f : List ℕ) → is_frontier f ≡ true → length f ≤ most_times
unfolding is_frontier
frontier_length f e = leb-true (length f) most_times (and_l (leb (length f) most_times) _ e)

pub tiles-length : (lower upper held : List ℕ) → length (tiles lower upper held) ≤ length held
unfolding tiles
tiles-length lower upper [] = omega arith
tiles-length lower upper (h ∷ later) =
    let cut = all_inserted later upper in
    by-test (same cut lower) (λ e. rw e (omega (arith, tiles-length cut upper later))) (λ e. rw e (omega (arith, tiles-length cut upper later)))

pub record Bounded (n : ℕ) (t : Tile) : Type 0 where
  pub lower_fits : length t.lower ≤ n
  pub upper_fits : length t.upper ≤ n

-- each cut has upper's times and those of the later held times
bounded : (n : ℕ) (upper : List ℕ) (lower held : List ℕ) → length lower ≤ n → length held + length upper ≤ suc n → All (Bounded n) (tiles lower upper held)
unfolding tiles
bounded n upper lower [] l k = nil
bounded n upper lower (h ∷ later) l k =
    let cut = all_inserted later upper in
    let c : length cut ≤ n = omega (arith, all_inserted-length upper later) in
    let rest = bounded n upper cut later c (omega arith) in
    by-test (same cut lower) (λ e. rw e rest) (λ e. rw e (cons (record { lower_fits = l; upper_fits = c }) rest))

pub tiles_bounds : (lower upper held : List ℕ) → is_frontier lower ≡ true → is_frontier upper ≡ true → is_frontier held ≡ true → All (Bounded most_bound) (tiles lower upper held)
tiles_bounds lower upper held l u h =
    bounded most_bound upper lower held (omega (arith, frontier_length lower l)) (omega (arith, frontier_length upper u, frontier_length held h))

-- ---- the times of an accepted call
-- a test that some element passes, if an element that passes gives b
some_gives : {A : Type 0} (p : A → Bool) (b : Bool) {xs : List A} → All (λ x. p x ≡ true → b ≡ true) xs → any p xs ≡ true → b ≡ true
some_gives p b nil e = clash false e refl
some_gives p b (cons {x = x} f h) e = by-test (p x) f (λ n. some_gives p b h (rw n at e))

-- what checks 16 and 17 say of a new or pending time
record Placed (q : Request) (s : ℕ) : Type 0 where
  above_lower : beyond q.lower s ≡ true
  above_held : (beyond q.upper s || beyond q.held s) ≡ true

-- the parts of check 16
abbrev old_short : Request → Bool
old_short q = every (λ r. short_of q.lower r.time) q.old && every (λ r. short_of q.lower r.time) q.out

abbrev new_between : Request → Bool
new_between q = every (λ r. beyond q.lower r.time && short_of q.upper r.time) q.new

abbrev pending_above : Request → Bool
pending_above q = every (λ p. beyond q.lower p.1) q.pending

module _ (q : Request) (c16 : check16 q ≡ true) (c17 : check17 q ≡ true) where
  new_placed : All (λ r. Placed q r.time) q.new
  unfolding check16 is_held check17
  new_placed =
      all_imp (λ r e. record { above_lower = and_l (beyond q.lower r.time) _ e.0; above_held = e.1 })
      (all_both (every_all _ q.new (and_r (old_short q) (new_between q) (and_l (old_short q && new_between q) (pending_above q) c16))) (every_all (λ r. is_held q r.time) q.new (and_l _ _ c17)))

  pending_placed : All (λ p. Placed q p.1) q.pending
  unfolding check16 is_held check17
  pending_placed =
      all_imp (λ p e. record { above_lower = e.0; above_held = e.1 })
      (all_both (every_all _ q.pending (and_r (old_short q && new_between q) (pending_above q) c16)) (every_all (λ p. is_held q p.1) q.pending (and_r (every (λ r. is_held q r.time) q.new) _ c17)))

  touching_placed : (k : ℕ) → All (Placed q) (times_of k q.new ++ pending_of k q.pending)
  unfolding times_of pending_of
  touching_placed k = all_append (all_map _ (all_keep _ new_placed)) (all_map _ (all_keep _ pending_placed))

  pub touched_lands : check12 q ≡ true → (k t : ℕ) → touched q k t ≡ true → beyond q.upper t ≡ false → Landed q.lower q.upper q.held t
  unfolding touched check12
  touched_lands c12 k t e short =
      time_lands q.lower q.upper q.held t (and_r (is_frontier q.lower && is_frontier q.upper) (is_frontier q.held) c12)
      (some_gives (λ s. below s t) (beyond q.lower t) (all_imp (λ s p b. beyond_up q.lower s t (below_true s t b) p.above_lower) (touching_placed k)) e)
      short
      (some_gives (λ s. below s t) (beyond q.held t) (all_imp (λ s p b. beyond_up q.held s t (below_true s t b) (rw (short_down q.upper s t (below_true s t b) short) at p.above_held)) (touching_placed k)) e)
