-- Emissions in their columns.
--
-- Writing: a loop that writes one element after the other. writing_start, writing_more, writing_end: it keeps that. mapped_more: what is still to be written of a list that a function goes over
-- mass-at: a diff is no larger than all of them. small_back: a diff is read back from its bits. product_fits, product_is: the product of two diffs fits
-- small_at: one of a column's diffs is small. read_diffs: the diff of the stepped edit
use Prim.Native.Nat.{ℕ, zero, suc, ◌+◌, ◌≤◌, ◌<◌, ◌^◌}
use native.Mathlib.Omega.{arith}
use native.Mathlib.Nat.{mul-le-mul}
use mathlib.Core.List.{List, [], ◌∷◌, map}
use mathlib.Core.Path.{◌≡◌, refl, sym, ◌∙◌, ap, ap₂}
use lib.IntN.{ℤ, pos, nat_abs, ◌*ℤ◌}
use lib.ListN.{length, drop, get_or, set, length-set}
use lib.Signed.{mag}
use mir.Syntax.{w64}
use mir.Val.{to_z, of_z, SFits}
use Rattle.grid.proofs.Loops.{map_more}
use Rattle.grid.proofs.Signed.{back, mag_le}
use Rattle.grid.proofs.Sizes.{sizing_nat_abs}
use Rattle.consolidation.specs.Entries.{mass}
use Rattle.emissions.specs.Emissions.{over, most_diff}

-- writing the rest over s from the place at + i on gives the goal. It was s₀
pub record Writing {A : Type 0} (s₀ rest : List A) (at i : ℕ) (s goal : List A) : Type 0 where
  pub len : length s ≡ length s₀
  pub written : over rest (at + i) s ≡ goal

module _ {A : Type 0} where
  pub writing_start : (rest : List A) (at : ℕ) (s : List A) → Writing s rest at 0 s (over rest at s)
  writing_start rest at s = let n : at + 0 ≡ at = omega arith in record { len = refl; written = rw n }

  pub writing_more : {s₀ rest goal s s' : List A} {at i : ℕ} (x : A) {rest' : List A} → Writing s₀ rest at i s goal → rest ≡ x ∷ rest' → s' ≡ set s (at + i) x → Writing s₀ rest' at (i + 1) s' goal
  unfolding over
  writing_more {s₀} {rest} {goal} {s} {s'} {at} {i} x {rest'} m r w =
      let n : at + (i + 1) ≡ at + i + 1 = omega arith in
      record { len = rw w (simp length-set m.len); written = rw (n, w) (rw r at m.written) }

  pub writing_end : {s₀ rest goal s : List A} {at i : ℕ} → Writing s₀ rest at i s goal → rest ≡ [] → s ≡ goal
  unfolding over
  writing_end m r = rw r at m.written

pub mapped_more : {A B : Type 0} (f : A → B) (l : List A) (i : ℕ) (d : A) {x : B} → i < length l → x ≡ f (get_or l i d) → map f (drop i l) ≡ x ∷ map f (drop (i + 1) l)
mapped_more f l i d h e = map_more f l i d h ∙ ap (λ z. z ∷ map f (drop (i + 1) l)) (sym e)

pub mass-at : (ds : List ℤ) (i : ℕ) → i < length ds → nat_abs (get_or ds i (pos 0)) ≤ mass ds
unfolding mass
mass-at [] i h = absurd (omega arith)
mass-at (d ∷ ds) zero h = omega arith
mass-at (d ∷ ds) (suc i) h = omega (arith, mass-at ds i (omega arith))

pub small_back : (d : ℤ) → nat_abs d ≤ most_diff → to_z w64 (of_z w64 d) ≡ d
small_back d h = back {z = d} (omega (arith, mag_le d))

-- the product of two diffs that were read back from their bits
module _ (d e : ℤ) (h : nat_abs d ≤ most_diff) (k : nat_abs e ≤ most_diff) where
  fits : mag (d *ℤ e) < 2 ^ 63
  fits = omega (arith, mag_le (d *ℤ e), sizing_nat_abs.times d e, mul-le-mul h k)

  read : to_z w64 (of_z w64 d) *ℤ to_z w64 (of_z w64 e) ≡ d *ℤ e
  read = ap₂ ◌*ℤ◌ (small_back d h) (small_back e k)

  pub product_fits : SFits w64 (to_z w64 (of_z w64 d) *ℤ to_z w64 (of_z w64 e))
  product_fits = record { sfits = rw read fits }

  pub product_is : to_z w64 (of_z w64 (to_z w64 (of_z w64 d) *ℤ to_z w64 (of_z w64 e))) ≡ to_z w64 (of_z w64 d) *ℤ e
  product_is = rw read (back fits) ∙ ap (λ z. z *ℤ e) (sym (small_back d h))

-- a diff of a column is small
pub small_at : (from : List ℤ) (i : ℕ) → i < length from → mass from ≤ most_diff → nat_abs (get_or from i (pos 0)) ≤ most_diff
small_at from i k m = omega (arith, mass-at from i k)

-- ---- the four columns
pub small_still : (d : ℤ) → nat_abs d ≤ most_diff → nat_abs (to_z w64 (of_z w64 d)) ≤ most_diff
small_still d h = rw (small_back d h) h

pub read_diffs : (d : ℤ) (s ds : List ℤ) (at : ℕ) {s' : List ℤ} → nat_abs d ≤ most_diff → s' ≡ over (map (λ e. to_z w64 (of_z w64 d) *ℤ e) ds) at s → s' ≡ over (map (λ e. d *ℤ e) ds) at s
read_diffs d s ds at h e = rw (small_back d h) at e
