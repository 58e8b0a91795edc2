-- Strictly ascending lists, for every strict order.
--
-- ascending_above: each later element is above the first. ascending_rest: the rest ascends. ascending_cons: and the other way round
-- ascending_put, ascending_puts: times put into a strictly ascending list leave it so. ascending_snoc: and a later one at its end
use Prim.Native.Nat.{ℕ, ◌<◌}
use mathlib.Core.Bool.{Bool, true, false}
use mathlib.Core.List.{List, [], ◌∷◌, ◌++◌}
use mathlib.Core.Path.{◌≡◌, refl}
use native.Mathlib.Omega.{arith}
use lib.Dec.{eqb, ltb}
use borrow.Author.Tests.{eqb-false, ltb-false, lt-ltb}
use Rattle.grid.specs.Lists.{ascending}
use Rattle.grid.specs.Times.{put, puts}
use Rattle.grid.proofs.Tests.{by-test, and_l, and_r, and_i}
use Rattle.grid.proofs.Lists.{All, nil, cons, head, tail, all_imp}
use Rattle.grid.proofs.Consolidate.{Strict}

module _ {A : Type 0} (lt : A → A → Bool) where
  pub ascending_rest : (x : A) (xs : List A) → ascending lt (x ∷ xs) ≡ true → ascending lt xs ≡ true
  ascending_rest x [] e = refl
  ascending_rest x (y ∷ ys) e = and_r (lt x y) (ascending lt (y ∷ ys)) e

  pub ascending_cons : (x : A) (xs : List A) → All (λ y. lt x y ≡ true) xs → ascending lt xs ≡ true → ascending lt (x ∷ xs) ≡ true
  ascending_cons x [] h e = refl
  ascending_cons x (y ∷ ys) h e = and_i (lt x y) (ascending lt (y ∷ ys)) (head h) e

  pub ascending_above : Strict lt → (x : A) (xs : List A) → ascending lt (x ∷ xs) ≡ true → All (λ y. lt x y ≡ true) xs
  ascending_above S x [] e = nil
  ascending_above S x (y ∷ ys) e =
      let l = and_l (lt x y) (ascending lt (y ∷ ys)) e in
      cons l (all_imp (λ z h. S.transitive x y z l h) (ascending_above S y ys (and_r (lt x y) (ascending lt (y ∷ ys)) e)))

-- ---- times
put_on : (u t : ℕ) (us : List ℕ) → u < t → ascending ltb (u ∷ us) ≡ true → ascending ltb (u ∷ put t us) ≡ true
put_on u t [] h a = and_i (ltb u t) true (lt-ltb u t h) refl
put_on u t (v ∷ vs) h a =
    by-test (ltb t v)
    (λ e. rw e (and_i (ltb u t) _ (lt-ltb u t h) (and_i (ltb t v) _ e (and_r (ltb u v) _ a))))
    (λ e. by-test (eqb t v) (λ e'. rw (e, e') a)
    (λ e'. rw (e, e') (and_i (ltb u v) _ (and_l (ltb u v) _ a) (put_on v t vs (later e e') (and_r (ltb u v) _ a)))))
  where
    later : ltb t v ≡ false → eqb t v ≡ false → v < t
    later e e' = omega (arith, ltb-false t v e, eqb-false t v e')

pub ascending_put : (t : ℕ) (us : List ℕ) → ascending ltb us ≡ true → ascending ltb (put t us) ≡ true
ascending_put t [] a = refl
ascending_put t (u ∷ us) a =
    by-test (ltb t u) (λ e. rw e (and_i (ltb t u) _ e a))
    (λ e. by-test (eqb t u) (λ e'. rw (e, e') a) (λ e'. rw (e, e') (put_on u t us (later e e') a)))
  where
    later : ltb t u ≡ false → eqb t u ≡ false → u < t
    later e e' = omega (arith, ltb-false t u e, eqb-false t u e')

pub ascending_puts : (ts us : List ℕ) → ascending ltb us ≡ true → ascending ltb (puts ts us) ≡ true
ascending_puts [] us a = a
ascending_puts (t ∷ ts) us a = ascending_put t (puts ts us) (ascending_puts ts us a)

pub ascending_snoc : (n : ℕ) (xs : List ℕ) → ascending ltb xs ≡ true → All (λ x. x < n) xs → ascending ltb (xs ++ (n ∷ [])) ≡ true
ascending_snoc n [] a h = refl
ascending_snoc n (x ∷ []) a h = and_i (ltb x n) true (lt-ltb x n (head h)) refl
ascending_snoc n (x ∷ y ∷ ys) a h = and_i (ltb x y) _ (and_l (ltb x y) _ a) (ascending_snoc n (y ∷ ys) (and_r (ltb x y) _ a) (tail h))
