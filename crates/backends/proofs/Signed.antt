-- Whether distinct lists a value, of a sum that has gone through a local, which holds its bits.
--
-- listed_test: what the bits tell. told-listed: what a call gave of a number that is in a local
-- told_none, told_some: the test of a call's result for zero
use Prim.Native.Nat.{◌<◌, ◌^◌}
use mathlib.Core.Bool.{Bool, true, false, not}
use mathlib.Core.Path.{◌≡◌, sym, ◌∙◌, ap}
use lib.Dec.{eqb}
use lib.IntN.{ℤ}
use lib.Signed.{mag}
use mir.Syntax.{w64}
use mir.Val.{of_z, SFits}
use borrow.Author.Tests.{eq-eqb, ne_eqb}
use Rattle.grid.specs.Consolidate.{is_zero}
use Rattle.grid.proofs.Signed.{zero_test}
use Rattle.rules.specs.Backends.{listed}

pub listed_test : (a : ℤ) → SFits w64 a → not (eqb (of_z w64 a) 0) ≡ listed a
unfolding listed
listed_test a h = ap not (zero_test a h)

pub told-listed : {d d' : ℤ} {b : Bool} → d' ≡ d → b ≡ listed d' → listed d ≡ b
told-listed e t = ap listed (sym e) ∙ sym t

module _ {R S : ℤ} (h : mag R < 2 ^ 63) (e : R ≡ S) where
  pub told_none : of_z w64 R ≡ 0 → is_zero S ≡ true
  told_none q = ap is_zero (sym e) ∙ sym (zero_test R (record { sfits = h })) ∙ eq-eqb (of_z w64 R) 0 q

  pub told_some : (of_z w64 R ≡ 0 → ⊥) → is_zero S ≡ false
  told_some q = ap is_zero (sym e) ∙ sym (zero_test R (record { sfits = h })) ∙ ne_eqb (of_z w64 R) 0 q
