-- What the loops over one column keep.
--
-- Mapping f src dst₀ dst i: a loop has written what f makes of the first i entries of src to dst. mapping_end: at its end
-- Replacing f s₀ s i: the same in place
-- Climbs lt s i: up to i the entries ascend. climbs_more, climbs_stops, climbs_end: the loop keeps that
use Prim.Native.Nat.{ℕ, suc, ◌+◌, ◌-◌, ◌≤◌, ◌<◌}
use native.Mathlib.Omega.{arith}
use mathlib.Core.Bool.{Bool, true, false}
use mathlib.Core.List.{List, [], ◌∷◌, ◌++◌, map}
use mathlib.Core.Path.{◌≡◌, refl, sym, ◌∙◌, ap}
use lib.ListN.{length, take, drop, get_or, length-drop, drop_of_length-le}
use lib.Seq.{drop-cons}
use Rattle.grid.specs.Lists.{ascending}
use Rattle.grid.specs.Slices.{laid}
use Rattle.grid.proofs.Slices.{Laying, laying_end}

-- ---- from one column to another
pub record Mapping {A B : Type 0} (f : A → B) (src : List A) (dst₀ dst : List B) (i : ℕ) : Type 0 where
  pub fits : length src ≤ length dst
  pub laying : Laying dst₀ dst i (map f (drop i src)) (map f src)

module _ {A B : Type 0} {f : A → B} {src : List A} {dst₀ dst : List B} {i : ℕ} (w : Mapping f src dst₀ dst i) where
  pub mapping_end : length src ≤ i → dst ≡ laid (map f src) dst₀
  mapping_end h = (laying_end w.laying (ap (map f) (drop_of_length-le src h))).holds

-- ---- in place
pub record Replacing {A : Type 0} (f : A → A) (s₀ s : List A) (i : ℕ) : Type 0 where
  pub len : length s ≡ length s₀
  pub ahead : drop i s ≡ drop i s₀
  pub done : take i s ++ map f (drop i s₀) ≡ map f s₀

-- ---- strictly ascending
pub record Climbs {A : Type 0} (lt : A → A → Bool) (s : List A) (i : ℕ) : Type 0 where
  pub begun : 1 ≤ i
  pub same : ascending lt (drop (i - 1) s) ≡ ascending lt s

module _ {A : Type 0} {lt : A → A → Bool} {s : List A} {i : ℕ} (w : Climbs lt s i) where
  two : (d : A) → i < length s → drop (i - 1) s ≡ get_or s (i - 1) d ∷ get_or s i d ∷ drop (suc i) s
  two d h =
      let b : 1 ≤ i = w.begun in
      let n : suc (i - 1) ≡ i = omega arith in
      drop-cons s (i - 1) d (omega arith) ∙ ap (λ k. get_or s (i - 1) d ∷ drop k s) n ∙ ap (λ l. get_or s (i - 1) d ∷ l) (drop-cons s i d h)

  pub climbs_more : (d : A) → i < length s → lt (get_or s (i - 1) d) (get_or s i d) ≡ true → Climbs lt s (i + 1)
  climbs_more d h t =
      let n : i + 1 - 1 ≡ i = omega arith in
      record { begun = omega arith; same = rw (n, drop-cons s i d h) (sym (rw (two d h, t))) ∙ w.same }

  pub climbs_stops : (d : A) → i < length s → lt (get_or s (i - 1) d) (get_or s i d) ≡ false → false ≡ ascending lt s
  climbs_stops d h t = sym (rw (two d h, t)) ∙ w.same

  pub climbs_end : length s ≤ i → true ≡ ascending lt s
  climbs_end h = sym (one (drop (i - 1) s) (rw length-drop (let b : 1 ≤ i = w.begun in omega arith))) ∙ w.same
    where
      one : (l : List A) → length l ≤ 1 → ascending lt l ≡ true
      one [] k = refl
      one (x ∷ []) k = refl
      one (x ∷ y ∷ l) k = absurd (omega arith)
