-- The operations on lists: two lists one after the other, a list's front and its rest, and what they give.
--
-- keep_append, any_append, flat_append, puts-append: of two lists one after the other
-- map-take, map-drop: of a list's first elements, and of what follows them. drop_zeros: of equal elements
-- front_fits, put-length, length-puts: lengths. put_first: a time before all others. no_length: a list that is not empty has a length
-- pairs_keys, pairs-times, pairs-length: two columns of one length, of their pairs. pairs-columns: pairs, of their columns
use Prim.Native.Nat.{ℕ, zero, suc, ◌-◌, ◌≤◌, ◌<◌}
use native.Mathlib.Omega.{arith}
use mathlib.Core.Bool.{Bool, ◌||◌}
use mathlib.Core.List.{List, [], ◌∷◌, ◌++◌, map, append_assoc}
use mathlib.Core.Path.{◌≡◌, refl, sym, ◌∙◌, ap}
use borrow.Author.Tests.{lt-ltb}
use lib.Dec.{eqb, ltb}
use lib.ListN.{length, take, drop, replicate, length-map}
use Rattle.grid.specs.Lists.{any, keep, front, flat}
use Rattle.grid.specs.Times.{put, puts}
use Rattle.grid.specs.Records.{pairs}
use Rattle.grid.proofs.Tests.{by-test, or_assoc}
use Rattle.grid.proofs.Lists.{All, nil, cons}

pub no_length : {X : Type 0} (n : ℕ) → suc n ≡ 0 → X
no_length n e = absurd (omega arith)

-- ---- tests
module _ {A : Type 0} (p : A → Bool) where
  pub keep_append : (xs ys : List A) → keep p (xs ++ ys) ≡ keep p xs ++ keep p ys
  keep_append [] ys = refl
  keep_append (x ∷ xs) ys = by-test (p x) (λ e. rw (e, keep_append xs ys)) (λ e. rw (e, keep_append xs ys))

  pub any_append : (xs ys : List A) → any p (xs ++ ys) ≡ (any p xs || any p ys)
  any_append [] ys = refl
  any_append (x ∷ xs) ys = ap (λ b. p x || b) (any_append xs ys) ∙ or_assoc (p x) (any p xs) (any p ys)

  pub front_fits : (xs : List A) → length (front p xs) ≤ length xs
  front_fits [] = omega arith
  front_fits (x ∷ xs) = by-test (p x) (λ e. rw e (omega (arith, front_fits xs))) (λ e. rw e (omega arith))

-- ---- functions
pub flat_append : {A B : Type 0} (f : A → List B) (xs ys : List A) → flat f (xs ++ ys) ≡ flat f xs ++ flat f ys
flat_append f [] ys = refl
flat_append f (x ∷ xs) ys = ap (λ l. f x ++ l) (flat_append f xs ys) ∙ sym (append_assoc (f x) (flat f xs) (flat f ys))

module _ {A B : Type 0} (f : A → B) where
  pub map-take : (n : ℕ) (l : List A) → map f (take n l) ≡ take n (map f l)
  map-take zero l = refl
  map-take (suc n) [] = refl
  map-take (suc n) (x ∷ l) = ap (λ r. f x ∷ r) (map-take n l)

  pub map-drop : (n : ℕ) (l : List A) → map f (drop n l) ≡ drop n (map f l)
  map-drop zero l = refl
  map-drop (suc n) [] = refl
  map-drop (suc n) (x ∷ l) = map-drop n l

pub drop_zeros : {A : Type 0} (z : A) (i n : ℕ) → drop i (replicate n z) ≡ replicate (n - i) z
drop_zeros z zero n = let e : n - 0 ≡ n = omega arith in rw e
drop_zeros z (suc i) zero = let e : 0 - suc i ≡ 0 = omega arith in rw e
drop_zeros z (suc i) (suc n) = let e : suc n - suc i ≡ n - i = omega arith in drop_zeros z i n ∙ (rw e)

-- ---- times put into a set
pub put_first : (t : ℕ) {us : List ℕ} → All (λ u. t < u) us → put t us ≡ t ∷ us
put_first t nil = refl
put_first t (cons {x = u} h a) = rw (lt-ltb t u h)

pub put-length : (t : ℕ) (us : List ℕ) → length (put t us) ≤ suc (length us)
put-length t [] = omega arith
put-length t (u ∷ us) =
    by-test (ltb t u) (λ e. rw e (omega arith)) (λ e. by-test (eqb t u) (λ e'. rw (e, e') (omega arith)) (λ e'. rw (e, e') (omega (arith, put-length t us))))

pub length-put : (t : ℕ) (us : List ℕ) → length us ≤ length (put t us)
length-put t [] = omega arith
length-put t (u ∷ us) =
    by-test (ltb t u) (λ e. rw e (omega arith)) (λ e. by-test (eqb t u) (λ e'. rw (e, e') (omega arith)) (λ e'. rw (e, e') (omega (arith, length-put t us))))

pub length-puts : (ts us : List ℕ) → length us ≤ length (puts ts us)
length-puts [] us = omega arith
length-puts (t ∷ ts) us = omega (arith, length-puts ts us, length-put t (puts ts us))

pub puts-append : (xs ys us : List ℕ) → puts (xs ++ ys) us ≡ puts xs (puts ys us)
puts-append [] ys us = refl
puts-append (x ∷ xs) ys us = ap (put x) (puts-append xs ys us)

-- ---- pairs
pub pairs_keys : (ks ts : List ℕ) → length ts ≡ length ks → map (λ (p : ℕ × ℕ). p.0) (pairs ks ts) ≡ ks
pairs_keys [] ts e = refl
pairs_keys (k ∷ ks) [] e = no_length (length ks) (sym e)
pairs_keys (k ∷ ks) (t ∷ ts) e = ap (λ l. k ∷ l) (pairs_keys ks ts (omega (arith, e)))

pub pairs-times : (ks ts : List ℕ) → length ts ≡ length ks → map (λ (p : ℕ × ℕ). p.1) (pairs ks ts) ≡ ts
pairs-times [] [] e = refl
pairs-times [] (t ∷ ts) e = no_length (length ts) e
pairs-times (k ∷ ks) [] e = no_length (length ks) (sym e)
pairs-times (k ∷ ks) (t ∷ ts) e = ap (λ l. t ∷ l) (pairs-times ks ts (omega (arith, e)))

pub pairs-length : (ks ts : List ℕ) → length ts ≡ length ks → length (pairs ks ts) ≡ length ks
pairs-length ks ts e = sym (length-map (pairs ks ts) (λ p. p.0)) ∙ ap length (pairs_keys ks ts e)

pub pairs-columns : (ps : List (ℕ × ℕ)) → pairs (map (λ p. p.0) ps) (map (λ p. p.1) ps) ≡ ps
pairs-columns [] = refl
pairs-columns (p ∷ ps) = ap (λ rs. p ∷ rs) (pairs-columns ps)
