-- Diffs in the machine: a signed number that goes through a local is read back from its bits, and a sum's size is at most the sum of the sizes.
--
-- back: read back. drop_more_diff: what is left to be copied. nat_abs_add, mag_le: sizes. zero_test: the test for zero, of the bits
-- size_negative, size_other: the test of a size, by the sign. range_negative, range_other: the test of a diff from -2^31 to 2^31. range_read: its
-- answer for a diff that was read into a local
use Prim.Native.Nat.{ℕ, suc, ◌<◌, ◌≤◌, ◌^◌, ◌+◌, ◌-◌}
use native.Mathlib.Omega.{arith}
use mathlib.Core.Bool.{Bool, true, false, cond}
use mathlib.Core.List.{List, ◌∷◌}
use mathlib.Core.Path.{◌≡◌, refl, sym, ◌∙◌, ap}
use lib.Dec.{eqb, ltb, leb}
use lib.ListN.{length, drop, get_or}
use lib.IntN.{ℤ, pos, negsuc, nat_abs, sub_ℕ, ◌+ℤ◌}
use lib.Signed.{mag, lt_z, le_z}
use borrow.Author.Tests.{ne_eqb, ltb-true, leb-true, leb-false, le-leb, lt-leb}
use mir.Syntax.{w64}
use mir.Val.{to_z, of_z, SFits}
use mir.Facts.{to_z-of_z}
use Rattle.grid.specs.Consolidate.{is_zero}
use Rattle.grid.specs.Records.{in_range}
use Rattle.grid.proofs.Tests.{by-test, clash}
use Rattle.grid.proofs.Loops.{drop_more}

pub back : {z : ℤ} → mag z < 2 ^ 63 → to_z w64 (of_z w64 z) ≡ z
back h = to_z-of_z {w = w64} (record { sfits = h })

pub drop_more_diff : (src : List ℤ) (i : ℕ) → i < length src → mag (get_or src i (pos 0)) < 2 ^ 63 → drop i src ≡ to_z w64 (of_z w64 (get_or src i (pos 0))) ∷ drop (i + 1) src
drop_more_diff src i h m = drop_more src i (pos 0) h ∙ ap (λ z. z ∷ drop (i + 1) src) (sym (back m))

sub_small : (a b : ℕ) → nat_abs (sub_ℕ a b) ≤ a + b
sub_small a b = go (ltb a b) refl
  where
    go : (t : Bool) → ltb a b ≡ t → nat_abs (cond t (negsuc (b - suc a)) (pos (a - b))) ≤ a + b
    go true e = let h : a < b = ltb-true a b e in omega arith
    go false e = omega arith

pub nat_abs_add : (a b : ℤ) → nat_abs (a +ℤ b) ≤ nat_abs a + nat_abs b
nat_abs_add (pos a) (pos b) = omega arith
nat_abs_add (pos a) (negsuc b) = sub_small a (suc b)
nat_abs_add (negsuc a) (pos b) = let h : nat_abs (sub_ℕ b (suc a)) ≤ b + suc a = sub_small b (suc a) in omega arith
nat_abs_add (negsuc a) (negsuc b) = omega arith

pub mag_le : (z : ℤ) → mag z ≤ nat_abs z
mag_le (pos n) = omega arith
mag_le (negsuc n) = omega arith

pub zero_test : (d : ℤ) → SFits w64 d → eqb (of_z w64 d) 0 ≡ is_zero d
zero_test (pos n) h = refl
zero_test (negsuc n) h = ne_eqb (2 ^ 64 - suc n) 0 (λ e. let k : n < 2 ^ 63 = h.sfits in omega arith)

-- ---- the test of a size
leb_less : (n m : ℕ) → leb n m ≡ leb (suc n) (suc m)
leb_less n m =
    by-test (leb n m) (λ e. rw (e, le-leb (suc n) (suc m) (omega (arith, leb-true n m e))))
    (λ e. rw (e, lt-leb (suc n) (suc m) (omega (arith, leb-false n m e))))

pub size_negative : (m : ℕ) (z : ℤ) → lt_z z (pos 0) ≡ true → le_z (negsuc m) z ≡ leb (nat_abs z) (suc m)
size_negative m (pos n) e = absurd (omega (arith, ltb-true n 0 e))
size_negative m (negsuc n) e = leb_less n m

pub size_other : (m : ℕ) (z : ℤ) → lt_z z (pos 0) ≡ false → le_z z (pos m) ≡ leb (nat_abs z) m
size_other m (pos n) e = refl
size_other m (negsuc n) e = clash true refl e

module _ {d : ℤ} (fits : SFits w64 d) where
  pub range_negative : lt_z (to_z w64 (of_z w64 d)) (pos 0) ≡ true → le_z (negsuc 2147483647) (to_z w64 (of_z w64 d)) ≡ in_range d
  unfolding in_range
  range_negative = rw (to_z-of_z fits) (size_negative 2147483647 d)

  pub range_other : lt_z (to_z w64 (of_z w64 d)) (pos 0) ≡ false → le_z (to_z w64 (of_z w64 d)) (pos 2147483648) ≡ in_range d
  unfolding in_range
  range_other = rw (to_z-of_z fits) (size_other 2147483648 d)

  pub range_read : {b : Bool} → b ≡ in_range (to_z w64 (of_z w64 d)) → b ≡ in_range d
  range_read e = rw (to_z-of_z fits) at e
