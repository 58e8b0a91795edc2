-- The places of tiles, beside the held times.
--
-- position_hit, position_miss: the first element is it, is not it
-- placing_start, placing_more, placing_end: the loop that writes the places
-- Seeking held places t i: no held time from i on is at or below t. seeking_start, seeking_more, seeking_hit, seeking_none: the loop keeps that
-- place-position: a tile's place, by the tiles' held times
-- beside_tile: the place beside the last held time at or below t is that of the rules' tile
use Prim.Native.Nat.{ℕ, zero, suc, ◌+◌, ◌-◌, ◌≤◌, ◌<◌, min}
use native.Mathlib.Omega.{arith}
use mathlib.Core.Bool.{Bool, true, false}
use mathlib.Core.List.{List, [], ◌∷◌, ◌++◌, map}
use mathlib.Core.Option.{Option, none, some}
use mathlib.Core.Path.{◌≡◌, refl, sym, ◌∙◌, ap, subst}
use lib.Dec.{eqb}
use lib.ListN.{length, drop, get_or, set, length-set, drop_of_length-le}
use lib.Seq.{drop-cons}
use borrow.Author.Tests.{eq-eqb, ne_eqb}
use Rattle.grid.specs.Lists.{keep, last}
use Rattle.grid.specs.Times.{below}
use Rattle.grid.specs.Records.{pairs}
use Rattle.grid.proofs.Tests.{by-test}
use Rattle.grid.proofs.Loops.{map_more}
use Rattle.rules.specs.Tiles.{Tile, place, holder, tile_of}
use Rattle.grid.specs.Slices.{Laid}
use Rattle.grid.proofs.Slices.{Laying, laying_start, laying_more, laying_end}
use Rattle.tiles.specs.Described.{held_times, position, place_beside}

-- ---- the position of an element
pub position_hit : (x y : ℕ) (ys : List ℕ) → y ≡ x → position x (y ∷ ys) ≡ 0
position_hit x y ys e = rw (eq-eqb x y (sym e))

pub position_miss : (x y : ℕ) (ys : List ℕ) → (y ≡ x → ⊥) → position x (y ∷ ys) ≡ position x ys + 1
position_miss x y ys n = rw (ne_eqb x y (λ e. n (sym e))) (omega arith)

-- ---- the places written
pub record Placing (f : ℕ → ℕ) (held s₀ s : List ℕ) (i : ℕ) : Type 0 where
  pub within : i ≤ length held
  pub fits : length held ≤ length s
  pub laying : Laying s₀ s i (map f (drop i held)) (map f held)

pub placing_start : (f : ℕ → ℕ) (held s : List ℕ) → length held ≤ length s → Placing f held s s 0
placing_start f held s h = record { within = omega arith; fits = h; laying = laying_start s (map f held) }

module _ {f : ℕ → ℕ} {held s₀ s : List ℕ} {i : ℕ} (w : Placing f held s₀ s i) where
  pub placing_more : (x : ℕ) → i < length held → x ≡ f (get_or held i 0) → Placing f held s₀ (set s i x) (i + 1)
  placing_more x h e =
      record {
        within = omega arith;
        fits = simp length-set w.fits;
        laying = laying_more w.laying x (omega (arith, w.fits)) (map_more f held i 0 h ∙ ap (λ y. y ∷ map f (drop (i + 1) held)) (sym e));
      }

  pub placing_end : length held ≤ i → Laid (map f held) s₀ s (length held)
  placing_end h =
      let n : i ≡ length held = omega (arith, w.within) in
      subst (Laid (map f held) s₀ s) n (laying_end w.laying (ap (map f) (drop_of_length-le held h)))

-- ---- the last held time at or below t
pairs-length : (hs ps : List ℕ) → length (pairs hs ps) ≡ min (length hs) (length ps)
pairs-length [] ps = omega arith
pairs-length (h ∷ hs) [] = omega arith
pairs-length (h ∷ hs) (p ∷ ps) = omega (arith, pairs-length hs ps)

pairs-at : (hs ps : List ℕ) (i : ℕ) → i < length hs → i < length ps → get_or (pairs hs ps) i (0, 0) ≡ (get_or hs i 0, get_or ps i 0)
pairs-at [] ps i a b = absurd (omega arith)
pairs-at (h ∷ hs) [] i a b = absurd (omega arith)
pairs-at (h ∷ hs) (p ∷ ps) zero a b = refl
pairs-at (h ∷ hs) (p ∷ ps) (suc i) a b = pairs-at hs ps i (omega arith) (omega arith)

last_kept : {A : Type 0} (p : A → Bool) (l : List A) (i : ℕ) (d : A) → i < length l → p (get_or l i d) ≡ true → keep p (drop (suc i) l) ≡ [] → last (keep p l) ≡ some (get_or l i d)
last_kept p [] i d h e n = absurd (omega arith)
last_kept p (x ∷ l) zero d h e n = rw (e, n)
last_kept p (x ∷ l) (suc i) d h e n =
    let r = last_kept p l i d (omega arith) e n in
    by-test (p x) (λ b. rw (b, r)) (λ b. rw b r)

pub record Seeking (held places : List ℕ) (t i : ℕ) : Type 0 where
  pub within_held : i ≤ length held
  pub within_places : i ≤ length places
  pub none_later : keep (λ (p : ℕ × ℕ). below p.0 t) (drop i (pairs held places)) ≡ []

pub seeking_start : (held places : List ℕ) (t : ℕ) {i : ℕ} → i ≡ min (length held) (length places) → Seeking held places t i
seeking_start held places t {i} e = record {
  within_held = omega arith;
  within_places = omega arith;
  none_later = ap (keep (λ (p : ℕ × ℕ). below p.0 t)) (drop_of_length-le (pairs held places) {i = i} (omega (arith, pairs-length held places)));
}

module _ {held places : List ℕ} {t i : ℕ} (w : Seeking held places t i) where
  here : 0 < i → get_or (pairs held places) (i - 1) (0, 0) ≡ (get_or held (i - 1) 0, get_or places (i - 1) 0)
  here h = pairs-at held places (i - 1) (omega (arith, w.within_held)) (omega (arith, w.within_places))

  long : 0 < i → i - 1 < length (pairs held places)
  long h = omega (arith, pairs-length held places, w.within_held, w.within_places)

  after : 0 < i → keep (λ (p : ℕ × ℕ). below p.0 t) (drop (suc (i - 1)) (pairs held places)) ≡ []
  after h = let n : suc (i - 1) ≡ i = omega arith in rw n w.none_later

  pub seeking_more : 0 < i → below (get_or held (i - 1) 0) t ≡ false → Seeking held places t (i - 1)
  seeking_more h e = record {
    within_held = omega (arith, w.within_held);
    within_places = omega (arith, w.within_places);
    none_later = rw (drop-cons (pairs held places) (i - 1) (0, 0) (long h), here h, e) (after h);
  }

  pub seeking_hit : (count : ℕ) → 0 < i → below (get_or held (i - 1) 0) t ≡ true → get_or places (i - 1) 0 ≡ place_beside held places count t
  unfolding place_beside
  seeking_hit count h e =
      let r : last (keep (λ (p : ℕ × ℕ). below p.0 t) (pairs held places)) ≡ some (get_or (pairs held places) (i - 1) (0, 0)) =
      last_kept (λ (p : ℕ × ℕ). below p.0 t) (pairs held places) (i - 1) (0, 0) (long h) (rw (here h) e) (after h) in
      rw (r, place_beside) (ap (λ (p : ℕ × ℕ). p.1) (sym (here h)))

  pub seeking_none : (count : ℕ) → i ≤ 0 → count ≡ place_beside held places count t
  unfolding place_beside
  seeking_none count h =
      let z : i ≡ 0 = omega arith in
      let n : keep (λ (p : ℕ × ℕ). below p.0 t) (pairs held places) ≡ [] = rw z at w.none_later in
      rw (n, place_beside)

-- ---- the rules' tile
pub place-position : (h : ℕ) (ts : List Tile) → place h ts ≡ position h (held_times ts)
unfolding place held_times
place-position h [] = refl
place-position h (t ∷ ts) = by-test (eqb h t.held) (λ e. rw e) (λ e. rw e (ap suc (place-position h ts)))

module _ (f : ℕ → ℕ) (t : ℕ) where
  beside : Option ℕ → Option (ℕ × ℕ)
  beside none = none
  beside (some h) = some (h, f h)

  next_beside : (h : ℕ) (o : Option ℕ) {q : Option (ℕ × ℕ)} → q ≡ beside o
      → elim q [ none ↦ some (h, f h) | some y ↦ some y ] ≡ beside (elim o [ none ↦ some h | some y ↦ some y ])
  unfolding beside
  next_beside h none e = rw e
  next_beside h (some u) e = rw e

  last_beside : (held : List ℕ) → last (keep (λ (p : ℕ × ℕ). below p.0 t) (pairs held (map f held))) ≡ beside (last (keep (λ h. below h t) held))
  unfolding beside
  last_beside [] = refl
  last_beside (h ∷ held) =
      by-test (below h t) (λ e. rw e (next_beside h (last (keep (λ h. below h t) held)) (last_beside held))) (λ e. rw e (last_beside held))

  beside_place : (n : ℕ) (o : Option ℕ) → ◌≡◌ {A = ℕ} (elim (beside o) [ none ↦ n | some p ↦ p.1 ]) (elim o [ none ↦ n | some h ↦ f h ])
  unfolding beside
  beside_place n none = refl
  beside_place n (some h) = refl

-- what lies past the places is not read
pairs_front : (f : ℕ → ℕ) (held rest : List ℕ) → pairs held (map f held ++ rest) ≡ pairs held (map f held)
pairs_front f [] rest = refl
pairs_front f (h ∷ held) rest = ap (λ r. (h, f h) ∷ r) (pairs_front f held rest)

pub beside_tile : (held : List ℕ) (ts : List Tile) (t : ℕ) (rest : List ℕ) → place_beside held (map (λ h. place h ts) held ++ rest) (length ts) t ≡ tile_of held ts t
unfolding place_beside tile_of holder
beside_tile held ts t rest =
    ap (λ (ps : List (ℕ × ℕ)). elim (last (keep (λ (p : ℕ × ℕ). below p.0 t) ps)) [ none ↦ length ts | some p ↦ p.1 ]) (pairs_front (λ h. place h ts) held rest)
    ∙ ap (λ (o : Option (ℕ × ℕ)). elim o [ none ↦ length ts | some p ↦ p.1 ]) (last_beside (λ h. place h ts) t held)
    ∙ beside_place (λ h. place h ts) t (length ts) (last (keep (λ h. below h t) held))
