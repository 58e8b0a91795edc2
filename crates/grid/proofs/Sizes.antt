-- How large diffs are, and that consolidation makes them no larger in all.
--
-- Sizing size: the size of a sum, of a product, is at most the sum, the product, of the sizes; sizing_one: each diff counts 1; sizing_nat_abs
-- mass size es: the sizes of the diffs of es, added up. mass_one: with each counting 1 it is the length
-- mass-append, mass-map: of a list in two parts, of a list with its diffs kept
-- mass_consolidate: consolidation does not raise it
-- mass_each: no diff is larger. mass_most: at most the length times the largest size
use Prim.Native.Nat.{ℕ, zero, suc, ◌+◌, ◌*◌, ◌≤◌}
use mathlib.Core.Bool.{Bool}
use mathlib.Core.List.{List, [], ◌∷◌, ◌++◌, map}
use mathlib.Core.Path.{◌≡◌, refl}
use native.Mathlib.Omega.{arith}
use lib.ListN.{length}
use lib.IntN.{ℤ, pos, negsuc, nat_abs, neg_ℤ, ◌+ℤ◌, ◌*ℤ◌}
use Rattle.grid.specs.Consolidate.{is_zero, unless_zero, add, consolidate}
use Rattle.grid.proofs.Signed.{nat_abs_add}
use Rattle.grid.proofs.Tests.{by-test}
use Rattle.grid.proofs.Lists.{All, nil, cons, all_imp}

pub record Sizing (size : ℤ → ℕ) : Type 0 where
  pub plus : (a b : ℤ) → size (a +ℤ b) ≤ size a + size b
  pub times : (a b : ℤ) → size (a *ℤ b) ≤ size a * size b

pub sizing_one : Sizing (λ d. 1)
sizing_one = record { plus = λ a b. omega arith; times = λ a b. omega arith }

nat_abs_neg : (n : ℕ) → nat_abs (neg_ℤ (pos n)) ≡ n
nat_abs_neg zero = refl
nat_abs_neg (suc n) = refl

nat_abs_times : (a b : ℤ) → nat_abs (a *ℤ b) ≤ nat_abs a * nat_abs b
nat_abs_times (pos a) (pos b) = omega arith
nat_abs_times (pos a) (negsuc b) = rw nat_abs_neg (omega arith)
nat_abs_times (negsuc a) (pos b) = rw nat_abs_neg (omega arith)
nat_abs_times (negsuc a) (negsuc b) = omega arith

pub sizing_nat_abs : Sizing nat_abs
sizing_nat_abs = record { plus = nat_abs_add; times = nat_abs_times }

module _ {A : Type 0} (size : ℤ → ℕ) where
  abbrev pub mass : List (A × ℤ) → ℕ
  mass [] = 0
  mass (y ∷ r) = size y.1 + mass r

  pub mass-append : (es fs : List (A × ℤ)) → mass (es ++ fs) ≡ mass es + mass fs
  mass-append [] fs = omega arith
  mass-append (y ∷ r) fs = let h = mass-append r fs in omega arith

  pub mass_each : (es : List (A × ℤ)) → All (λ y. size y.1 ≤ mass es) es
  mass_each [] = nil
  mass_each (y ∷ r) = cons {x = y} (omega arith) (all_imp (λ z h. omega arith) (mass_each r))

  pub mass_most : (most : ℕ) {es : List (A × ℤ)} → All (λ y. size y.1 ≤ most) es → mass es ≤ length es * most
  mass_most most nil = omega arith
  mass_most most (cons {xs = r} p h) = let k : mass r ≤ length r * most = mass_most most h in omega arith

  module _ (S : Sizing size) (lt : A → A → Bool) where
    mass-unless_zero : (a : A) (d : ℤ) (r : List (A × ℤ)) → mass (unless_zero a d r) ≤ size d + mass r
    mass-unless_zero a d r = by-test (is_zero d) (λ e. rw e (omega arith)) (λ e. rw e (omega arith))

    mass-add : (a : A) (d : ℤ) (r : List (A × ℤ)) → mass (add lt a d r) ≤ size d + mass r
    mass-add a d [] = mass-unless_zero a d []
    mass-add a d (y ∷ r) =
        by-test (lt a y.0) (λ e. rw e (mass-unless_zero a d (y ∷ r)))
        (λ e. by-test (lt y.0 a)
        (λ e'. let h = mass-add a d r in rw (e, e') (omega arith))
        (λ e'. rw (e, e') (omega (arith, mass-unless_zero a (d +ℤ y.1) r, S.plus d y.1))))

    pub mass_consolidate : (es : List (A × ℤ)) → mass (consolidate lt es) ≤ mass es
    mass_consolidate [] = omega arith
    mass_consolidate (y ∷ r) = omega (arith, mass-add y.0 y.1 (consolidate lt r), mass_consolidate r)

pub mass-map : {A B : Type 0} (size : ℤ → ℕ) (f : A × ℤ → B × ℤ) → ((y : A × ℤ) → (f y).1 ≡ y.1) → (es : List (A × ℤ)) → mass size (map f es) ≡ mass size es
mass-map size f same [] = refl
mass-map size f same (y ∷ r) = rw (same y, mass-map size f same r)

pub mass_one : {A : Type 0} (es : List (A × ℤ)) → mass (λ d. 1) es ≡ length es
mass_one [] = refl
mass_one (y ∷ r) = let h = mass_one r in omega arith
