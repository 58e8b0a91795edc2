-- A loop that adds up a list of signed numbers.
--
-- Adding d t i: t is the sum of what stands before i, and no larger than as many modest numbers
-- next_fits, adding_more: the loop keeps that
use Prim.Native.Nat.{ℕ, ◌≤◌, ◌<◌, ◌+◌, ◌*◌, ◌^◌}
use native.Mathlib.Omega.{arith}
use lib.IntN.{ℤ, pos, nat_abs, ◌+ℤ◌, +ℤ_assoc}
use lib.Signed.{mag}
use mathlib.Core.Path.{◌≡◌, sym, ◌∙◌, ap, subst}
use mathlib.Core.List.{List}
use lib.ListN.{length, drop, get_or}
use Rattle.grid.proofs.Lists.{All}
use Rattle.grid.proofs.Loops.{drop_more, all_get_d}
use Rattle.grid.proofs.Sums.{sum}
use Rattle.grid.proofs.Sizes.{sizing_nat_abs}
use Rattle.diffs.specs.Diffs.{modest}
use Rattle.grid.proofs.Signed.{mag_le}

pub record Adding (d : List ℤ) (t : ℤ) (i : ℕ) : Type 0 where
  pub done : t +ℤ sum (λ x. x) (drop i d) ≡ sum (λ x. x) d
  pub small : nat_abs t ≤ i * 2 ^ 48

module _ {d : List ℤ} {t : ℤ} {i : ℕ} (m : Adding d t i) (a : All modest d) (h : i < length d) where
  next_small : nat_abs (t +ℤ get_or d i (pos 0)) ≤ (i + 1) * 2 ^ 48
  next_small =
      let p : nat_abs t ≤ i * 2 ^ 48 = m.small in
      let q : nat_abs (get_or d i (pos 0)) ≤ 2 ^ 48 = all_get_d d i (pos 0) a h in
      omega (arith, sizing_nat_abs.plus t (get_or d i (pos 0)))

  pub next_fits : length d ≤ 8192 → mag (t +ℤ get_or d i (pos 0)) < 2 ^ 63
  next_fits s = omega (arith, mag_le (t +ℤ get_or d i (pos 0)), next_small)

  pub adding_more : (z : ℤ) → z ≡ t +ℤ get_or d i (pos 0) → Adding d z (i + 1)
  adding_more z e = record {
    done = ap (λ y. y +ℤ sum (λ x. x) (drop (i + 1) d)) e ∙ +ℤ_assoc t (get_or d i (pos 0)) (sum (λ x. x) (drop (i + 1) d)) ∙ ap (λ l. t +ℤ sum (λ x. x) l) (sym (drop_more d i (pos 0) h)) ∙ m.done;
    small = subst (λ (y : ℤ). nat_abs y ≤ (i + 1) * 2 ^ 48) (sym e) next_small;
  }
