-- A time inserted into the first `count` times of a slice.
--
-- Placing t f count i: t belongs at i or later among the first `count` times. placing_start, placing_here, placing_more, placing_end: the search for its place keeps that
-- insert_full, insert_beyond, insert_put: `Inserted`, where there is no room, where t is beyond the first `count` times, and where it is put into
-- those that it does not dominate. kept_short: t is not beyond those
use Prim.Native.Nat.{ℕ, ◌+◌, ◌-◌, ◌≤◌, ◌<◌}
use native.Mathlib.Numerals.{add-one}
use native.Mathlib.Omega.{arith}
use native.Mathlib.Nat.{sub-zero}
use mathlib.Core.Bool.{Bool, true, false, ◌||◌, not}
use mathlib.Core.List.{List, [], ◌∷◌, ◌++◌}
use mathlib.Core.Path.{◌≡◌, refl, ◌∙◌, ap}
use lib.Dec.{eqb, ltb}
use lib.ListN.{length, take, drop, get_or, length-append, length-take, length-drop, drop_of_length-le}
use lib.Seq.{take-suc, append_snoc, length-take-le, get_or-take}
use borrow.Author.Tests.{eqb-true}
use Rattle.grid.specs.Lists.{keep}
use Rattle.grid.specs.Times.{below, put}
use Rattle.grid.specs.Frontiers.{beyond, inserted}
use Rattle.grid.proofs.Lists.{all_keep, none_all, any_none}
use Rattle.grid.proofs.Tests.{by-test, clash, or_false_l, or_false_r}
use Rattle.grid.proofs.Times.{below_refl, true_below}
use Rattle.grid.proofs.Loops.{drop_more}
use Rattle.grid.specs.Slices.{Laid}
use Rattle.times.specs.Frontiers.{Inserted}
use Rattle.grid.proofs.Slices.{laid-length, laid_from, laid_front, laid-twice}

-- ---- the place of a time that is not beyond the first `count`
pub record Placing (t : ℕ) (f : List ℕ) (count i : ℕ) : Type 0 where
  pub within : i ≤ count
  pub fits : count ≤ length f
  pub short : beyond (drop i (take count f)) t ≡ false
  pub done : take i f ++ put t (drop i (take count f)) ≡ put t (take count f)

pub placing_start : (t : ℕ) (f : List ℕ) (count : ℕ) → count ≤ length f → beyond (take count f) t ≡ false → Placing t f count 0
placing_start t f count h e = record { within = omega arith; fits = h; short = e; done = refl }

module _ {t : ℕ} {f : List ℕ} {count i : ℕ} (w : Placing t f count i) where
  next : i < count → drop i (take count f) ≡ get_or f i 0 ∷ drop (i + 1) (take count f)
  next h =
      let b : count ≤ length f = w.fits in
      drop_more (take count f) i 0 (rw (length-take-le count f b) h) ∙ ap (λ x. x ∷ drop (i + 1) (take count f)) (get_or-take count f i 0 h)

  pub placing_here : i < count → ltb t (get_or f i 0) ≡ true → (i ≤ count) × (put t (take count f) ≡ take i f ++ t ∷ drop i (take count f))
  placing_here h e =
      let k : put t (drop i (take count f)) ≡ t ∷ drop i (take count f) = rw (next h, e) in
      (omega arith, rw (← w.done, k))

  pub placing_more : i < count → ltb t (get_or f i 0) ≡ false → Placing t f count (i + 1)
  unfolding beyond
  placing_more h e =
      let b : count ≤ length f = w.fits in
      let s : (below (get_or f i 0) t || beyond (drop (i + 1) (take count f)) t) ≡ false = rw (next h) at w.short in
      let other : eqb t (get_or f i 0) ≡ false = (by-test (eqb t (get_or f i 0))
      (λ q. clash (below (get_or f i 0) t) (rw (← eqb-true t (get_or f i 0) q) (true_below t t (below_refl t))) (or_false_l (below (get_or f i 0) t) _ s)) (λ q. q)) in
      let k : put t (drop i (take count f)) ≡ get_or f i 0 ∷ put t (drop (i + 1) (take count f)) = rw (next h, e, other) in
      record {
        within = omega arith;
        fits = b;
        short = or_false_r (below (get_or f i 0) t) _ s;
        done = rw (add-one, take-suc f i 0 (omega arith), append_snoc, ← add-one i, ← k) w.done;
      }

  pub placing_end : count ≤ i → (i ≤ count) × (put t (take count f) ≡ take i f ++ t ∷ drop i (take count f))
  placing_end h =
      let b : count ≤ length f = w.fits in
      let none : drop i (take count f) ≡ [] = drop_of_length-le (take count f) {i = i} (rw (length-take-le count f b) h) in
      (w.within, rw (← w.done, none))

-- ---- a time inserted
-- the first `count` are lent as the part from 0 to `count`
part-beyond : (s : List ℕ) (count t : ℕ) {b : Bool} → beyond (take (count - 0) s) t ≡ b → beyond (take count s) t ≡ b
part-beyond s count t e = rw sub-zero at e

pub insert_full : (t : ℕ) (s : List ℕ) (count : ℕ) → length s ≤ count → Inserted t s count s count
insert_full t s count h = record { roomy = λ k. absurd (omega arith); full = λ _. (refl, refl) }

module _ (t : ℕ) (s : List ℕ) (count : ℕ) (h : count < length s) where
  inserts : {s' : List ℕ} {r : ℕ} → Laid (inserted t (take count s)) s s' r → Inserted t s count s' r
  inserts l = record { roomy = λ _. l; full = λ k. absurd (omega arith) }

  pub insert_beyond : beyond (take (count - 0) s) t ≡ true → Inserted t s count s count
  unfolding inserted
  insert_beyond e = inserts (rw (part-beyond s count t e) (laid_from (take count s) s s count (omega arith) refl refl refl))

  module _ {s₁ : List ℕ} {k : ℕ} (few : k ≤ count) (l : Laid (keep (λ u. not (below t u)) (take count s)) s s₁ k) where
    kept_fits : length (keep (λ u. not (below t u)) (take count s)) ≤ length s
    kept_fits = omega (arith, l.counted)

    kept : take k s₁ ≡ keep (λ u. not (below t u)) (take count s)
    kept = laid_front l kept_fits

    pub kept_short : beyond (take (count - 0) s) t ≡ false → beyond (take k s₁) t ≡ false
    unfolding beyond
    kept_short e = rw kept (any_none (λ u. below u t) _ (all_keep (λ u. not (below t u)) (none_all (λ u. below u t) (take count s) (part-beyond s count t e))))

    pub insert_put : {s₂ : List ℕ} {place r : ℕ} → beyond (take (count - 0) s) t ≡ false → place ≤ k
        → put t (take k s₁) ≡ take place s₁ ++ t ∷ drop place (take k s₁) → Laid (take place s₁ ++ t ∷ drop place (take k s₁)) s₁ s₂ r → Inserted t s count s₂ r
    unfolding inserted
    insert_put {s₂} {place} {r} e p q m =
        let len : length s₁ ≡ length s = ap length l.holds ∙ laid-length _ s in
        let n : length (take place s₁ ++ t ∷ drop place (take k s₁)) ≡ k + 1
        = simp (length-append, length-take, length-drop) (omega arith) in
        inserts (rw (part-beyond s count t e, ← kept, q) (laid-twice l m (omega (arith, l.counted)) (omega arith)))
