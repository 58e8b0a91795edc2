-- Signed numbers: what a number is once it has gone through a local, which holds its bits.
--
-- in_local: a number read back from a local. added_fits, added: `a + x`, with x in a local. less_fits, less_is: `k - z`, with z in a local and k at most 1
-- told-zero, told_id: what calls gave of a number that is in a local
use Prim.Native.Nat.{ℕ, zero, suc, ◌+◌, ◌<◌, ◌≤◌, ◌^◌}
use native.Mathlib.Omega.{arith}
use mathlib.Core.Bool.{Bool}
use mathlib.Core.Path.{◌≡◌, refl, sym, ◌∙◌, ap, subst}
use lib.IntN.{ℤ, pos, negsuc, ◌+ℤ◌, ◌-ℤ◌, neg_ℤ, nat_abs}
use lib.Signed.{mag}
use mir.Syntax.{w64}
use mir.Val.{to_z, of_z, SFits}
use Rattle.grid.proofs.Sizes.{sizing_nat_abs}
use Rattle.grid.specs.Consolidate.{is_zero}
use Rattle.grid.proofs.Signed.{back, mag_le}

-- `t = t + x;` at locals: what it asks, and what t holds then
pub added_fits : (a x : ℤ) → mag x < 2 ^ 63 → mag (a +ℤ x) < 2 ^ 63 → SFits w64 (a +ℤ to_z w64 (of_z w64 x))
added_fits a x h k = subst (λ (y : ℤ). SFits w64 (a +ℤ y)) (sym (back h)) (record { sfits = k })

pub added : (a x : ℤ) → mag x < 2 ^ 63 → mag (a +ℤ x) < 2 ^ 63 → to_z w64 (of_z w64 (a +ℤ to_z w64 (of_z w64 x))) ≡ a +ℤ x
added a x h k = ap (λ y. to_z w64 (of_z w64 (a +ℤ y))) (back h) ∙ back k

pub in_local : (z : ℤ) → nat_abs z ≤ 2 ^ 62 → to_z w64 (of_z w64 z) ≡ z
in_local z m = back (let a : mag z ≤ nat_abs z = mag_le z in omega arith)

-- what calls gave of a number that is in a local
pub told-zero : {R S : ℤ} {a b : Bool} → mag R < 2 ^ 63 → R ≡ S → a ≡ is_zero (to_z w64 (of_z w64 R)) → a ≡ b → is_zero S ≡ b
told-zero h e t q = ap is_zero (sym (back h ∙ e)) ∙ sym t ∙ q

pub told_id : {R S : ℤ} {v : ℕ} → mag R < 2 ^ 63 → R ≡ S → v ≡ nat_abs (pos 9223372036854775808 +ℤ to_z w64 (of_z w64 R)) → v ≡ nat_abs (pos 9223372036854775808 +ℤ S)
told_id h e t = t ∙ ap (λ z. nat_abs (pos 9223372036854775808 +ℤ z)) (back h ∙ e)

abs_neg : (z : ℤ) → nat_abs (neg_ℤ z) ≡ nat_abs z
abs_neg (pos zero) = refl
abs_neg (pos (suc n)) = refl
abs_neg (negsuc n) = refl

less_small : (k : ℕ) (z : ℤ) → k ≤ 1 → nat_abs z ≤ 2 ^ 62 → mag (pos k +ℤ neg_ℤ z) < 2 ^ 63
less_small k z h m =
    let a : mag (pos k +ℤ neg_ℤ z) ≤ nat_abs (pos k +ℤ neg_ℤ z) = mag_le (pos k +ℤ neg_ℤ z) in
    let b : nat_abs (pos k +ℤ neg_ℤ z) ≤ k + nat_abs (neg_ℤ z) = sizing_nat_abs.plus (pos k) (neg_ℤ z) in
    let c : nat_abs (neg_ℤ z) ≡ nat_abs z = abs_neg z in
    omega arith

-- `k - z` at a local z
pub less_fits : (k : ℕ) (z : ℤ) → k ≤ 1 → nat_abs z ≤ 2 ^ 62 → SFits w64 (pos k -ℤ to_z w64 (of_z w64 z))
less_fits k z h m = subst (λ (y : ℤ). SFits w64 (pos k +ℤ neg_ℤ y)) (sym (in_local z m)) (record { sfits = less_small k z h m })

pub less_is : (k : ℕ) (z : ℤ) → k ≤ 1 → nat_abs z ≤ 2 ^ 62 → to_z w64 (of_z w64 (pos k -ℤ to_z w64 (of_z w64 z))) ≡ pos k +ℤ neg_ℤ z
less_is k z h m = ap (λ y. to_z w64 (of_z w64 (pos k +ℤ neg_ℤ y))) (in_local z m) ∙ back (less_small k z h m)
