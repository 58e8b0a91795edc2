-- The digits of a number, and the sign of a diff.
--
-- decimal_one, decimal_more: the text of a number by its last digit
-- text_below, text_from: the text of a diff by its sign
use Prim.Native.Nat.{ℕ, zero, suc, ◌+◌, ◌*◌, ◌/◌, ◌%◌, ◌≤◌, ◌<◌, ◌^◌}
use native.Mathlib.Nat.{pow-succ'}
use native.Mathlib.Omega.{arith}
use mathlib.Core.Bool.{Bool, true, false, cond}
use mathlib.Core.List.{[], ◌∷◌, ◌++◌}
use mathlib.Core.Path.{◌≡◌, refl, sym, ◌∙◌, ap}
use lib.Dec.{ltb}
use lib.IntN.{ℤ, pos, negsuc, nat_abs}
use lib.Signed.{mag, non_neg, lt_z}
use mir.Syntax.{w64}
use mir.Val.{to_z, of_z}
use borrow.Author.Tests.{ltb-true, ltb-false}
use Rattle.grid.proofs.Signed.{back}
use Rattle.form.proofs.Digits.{digits_small, digits_step}
use Rattle.form.specs.Show.{digits, decimal, signed_decimal}

-- ---- digits
some_fuel : (j n : ℕ) → 10 ≤ n → n < 10 ^ suc j → 0 < j
some_fuel zero n g q = absurd (omega arith)
some_fuel (suc j) n g q = omega arith

digits_more : (k m : ℕ) → m < 10 ^ k → 0 < k → digits (suc k) m ≡ digits k m
digits_more zero m h p = absurd (omega arith)
digits_more (suc k) m h p = by (ltb m 10) refl (digits_more k (m / 10))
  where
    by : (t : Bool) → ltb m 10 ≡ t → (m / 10 < 10 ^ k → 0 < k → digits (suc k) (m / 10) ≡ digits k (m / 10)) → digits (suc (suc k)) m ≡ digits (suc k) m
    by true e ih = digits_small (suc k) m (ltb-true m 10 e) ∙ sym (digits_small k m (ltb-true m 10 e))
    by false e ih =
        let g : 10 ≤ m = ltb-false m 10 e in
        let q : m < 10 * 10 ^ k = rw (pow-succ' 10 k) at h in
        digits_step (suc k) m g ∙ ap (λ l. l ++ ((48 + m % 10) ∷ [])) (ih (omega arith) (some_fuel k m g h)) ∙ sym (digits_step k m g)

pub decimal_more : (n : ℕ) → 10 ≤ n → n < 2 ^ 64 → decimal (n / 10) ++ ((48 + n % 10) ∷ []) ≡ decimal n
unfolding decimal
decimal_more n h k = ap (λ l. l ++ ((48 + n % 10) ∷ [])) (digits_more 19 (n / 10) (omega arith) (omega arith)) ∙ sym (digits_step 19 n h)

pub decimal_one : (n : ℕ) → n < 10 → (48 + n) ∷ [] ≡ decimal n
unfolding decimal
decimal_one n h = sym (digits_small 19 n h)

-- ---- the sign of a diff
zero_one : {A : Type 0} → true ≡ false → A
zero_one e = let q : ◌≡◌ {A = ℕ} 1 0 = ap (λ b. cond b 1 0) e in absurd (omega arith)

below : (z : ℤ) → lt_z z (pos 0) ≡ true → non_neg z ≡ false
below (pos n) e = let h : n < 0 = ltb-true n 0 e in absurd (omega arith)
below (negsuc n) e = refl

from_zero : (z : ℤ) → lt_z z (pos 0) ≡ false → non_neg z ≡ true
from_zero (pos n) e = refl
from_zero (negsuc n) e = zero_one e

minus_text : (z : ℤ) → non_neg z ≡ false → (45 ∷ []) ++ decimal (nat_abs z) ≡ signed_decimal z
unfolding signed_decimal
minus_text (pos n) e = zero_one e
minus_text (negsuc n) e = refl

plus_text : (z : ℤ) → non_neg z ≡ true → decimal (nat_abs z) ≡ signed_decimal z
unfolding signed_decimal
plus_text (pos n) e = refl
plus_text (negsuc n) e = zero_one (sym e)

-- what a diff that went through a local is written as
module _ (d : ℤ) (h : mag d < 2 ^ 63) where
  pub text_below : {n : ℕ} → lt_z (to_z w64 (of_z w64 d)) (pos 0) ≡ true → n ≡ nat_abs (to_z w64 (of_z w64 d)) → (45 ∷ []) ++ decimal n ≡ signed_decimal d
  text_below e q = ap (λ n. (45 ∷ []) ++ decimal n) q ∙ minus_text (to_z w64 (of_z w64 d)) (below (to_z w64 (of_z w64 d)) e) ∙ ap signed_decimal (back {z = d} h)

  pub text_from : {n : ℕ} → lt_z (to_z w64 (of_z w64 d)) (pos 0) ≡ false → n ≡ nat_abs (to_z w64 (of_z w64 d)) → decimal n ≡ signed_decimal d
  text_from e q = ap decimal q ∙ plus_text (to_z w64 (of_z w64 d)) (from_zero (to_z w64 (of_z w64 d)) e) ∙ ap signed_decimal (back {z = d} h)
