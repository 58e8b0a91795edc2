-- A fact of every element, under the operations on lists. `All` is a data type, so that antt finds the list and the fact in an argument's type.
--
-- all_append, all_l, all_r; all_keep, keep_all, kept_all; all_insert, insert_all, all_sort, sort_all; all_map, map_all; all_put, put_all,
-- all_puts, puts_all: the fact goes through an operation (all-X), or comes back from its result (X-all)
-- none_all, any_none, every_all, all_every: a test of no element, of every element. all_at: the fact, at one element.
-- all_in: each element is one of the list. all_flat: of lists one after the other
-- keep_none, keep_each: what is kept where none passes, where each does. keep_length: what is kept is no longer
use Prim.Native.Nat.{ℕ, ◌≤◌}
use mathlib.Core.Bool.{Bool, true, false}
use mathlib.Core.List.{List, [], ◌∷◌, ◌++◌, map}
use mathlib.Core.Path.{◌≡◌, refl}
use native.Mathlib.Omega.{arith}
use lib.Dec.{eqb, ltb}
use lib.ListN.{length}
use borrow.Author.Tests.{eqb-true, eq-eqb}
use Rattle.grid.specs.Lists.{any, every, keep, insert, sort, flat}
use Rattle.grid.specs.Times.{put, puts}
use Rattle.grid.proofs.Tests.{by-test, clash, and_l, and_r, and_i, or_l, or_r, or_false_l, or_false_r}

pub data All {A : Type 0} (P : A → Type 0) : List A → Type 0 where
  nil : All P []
  cons : {x : A} {xs : List A} → P x → All P xs → All P (x ∷ xs)

module _ {A : Type 0} {P : A → Type 0} where
  pub head : {x : A} {xs : List A} → All P (x ∷ xs) → P x
  head (cons p h) = p

  pub tail : {x : A} {xs : List A} → All P (x ∷ xs) → All P xs
  tail (cons p h) = h

  pub all_of : ((x : A) → P x) → (xs : List A) → All P xs
  all_of f [] = nil
  all_of f (x ∷ xs) = cons (f x) (all_of f xs)

  pub all_append : {xs ys : List A} → All P xs → All P ys → All P (xs ++ ys)
  all_append nil b = b
  all_append (cons p a) b = cons p (all_append a b)

  pub all_l : (xs ys : List A) → All P (xs ++ ys) → All P xs
  all_l [] ys a = nil
  all_l (x ∷ xs) ys a = cons (head a) (all_l xs ys (tail a))

  pub all_r : (xs ys : List A) → All P (xs ++ ys) → All P ys
  all_r [] ys a = a
  all_r (x ∷ xs) ys a = all_r xs ys (tail a)

  pub all_imp : {Q : A → Type 0} → ((x : A) → P x → Q x) → {xs : List A} → All P xs → All Q xs
  all_imp f nil = nil
  all_imp f (cons {x = x} p h) = cons (f x p) (all_imp f h)

  pub all_keep : (f : A → Bool) {xs : List A} → All P xs → All P (keep f xs)
  all_keep f nil = nil
  all_keep f (cons {x = x} p h) = by-test (f x) (λ e. rw e (cons p (all_keep f h))) (λ e. rw e (all_keep f h))

  -- what is kept, and what passes
  pub keep_all : (f : A → Bool) {xs : List A} → All (λ x. f x ≡ true → P x) xs → All P (keep f xs)
  keep_all f nil = nil
  keep_all f (cons {x = x} p h) = by-test (f x) (λ e. rw e (cons (p e) (keep_all f h))) (λ e. rw e (keep_all f h))

  pub kept_all : (f : A → Bool) (xs : List A) → All P (keep f xs) → All (λ x. f x ≡ true → P x) xs
  kept_all f [] h = nil
  kept_all f (x ∷ xs) h =
      by-test (f x)
      (λ e. let k : All P (x ∷ keep f xs) = rw e at h in cons (λ _. head k) (kept_all f xs (tail k)))
      (λ e. let k : All P (keep f xs) = rw e at h in cons (λ e'. clash (f x) e' e) (kept_all f xs k))

  pub insert_all : (le : A → A → Bool) (x : A) (xs : List A) → All P (insert le x xs) → P x × All P xs
  insert_all le x [] h = (head h, tail h)
  insert_all le x (y ∷ ys) h =
      by-test (le x y)
      (λ e. let k : All P (x ∷ y ∷ ys) = rw e at h in (head k, tail k))
      (λ e. let k : All P (y ∷ insert le x ys) = rw e at h in let r = insert_all le x ys (tail k) in (r.0, cons (head k) r.1))

  pub all_insert : (le : A → A → Bool) (x : A) {xs : List A} → P x → All P xs → All P (insert le x xs)
  all_insert le x a nil = cons a nil
  all_insert le x a (cons {x = y} p h) = by-test (le x y) (λ e. rw e (cons a (cons p h))) (λ e. rw e (cons p (all_insert le x a h)))

  pub sort_all : (le : A → A → Bool) (xs : List A) → All P (sort le xs) → All P xs
  sort_all le [] h = nil
  sort_all le (x ∷ xs) h = let r = insert_all le x (sort le xs) h in cons r.0 (sort_all le xs r.1)

  pub all_sort : (le : A → A → Bool) {xs : List A} → All P xs → All P (sort le xs)
  all_sort le nil = nil
  all_sort le (cons {x = x} p h) = all_insert le x p (all_sort le h)

pub all_both : {A : Type 0} {P Q : A → Type 0} {xs : List A} → All P xs → All Q xs → All (λ x. P x × Q x) xs
all_both nil k = nil
all_both (cons p h) k = cons (p, head k) (all_both h (tail k))

pub none_all : {A : Type 0} (f : A → Bool) (xs : List A) → any f xs ≡ false → All (λ x. f x ≡ false) xs
none_all f [] e = nil
none_all f (x ∷ xs) e = cons (or_false_l (f x) (any f xs) e) (none_all f xs (or_false_r (f x) (any f xs) e))

pub any_none : {A : Type 0} (f : A → Bool) (xs : List A) → All (λ x. f x ≡ false) xs → any f xs ≡ false
any_none f [] h = refl
any_none f (x ∷ xs) h = rw (head h, any_none f xs (tail h))

pub every_all : {A : Type 0} (f : A → Bool) (xs : List A) → every f xs ≡ true → All (λ x. f x ≡ true) xs
every_all f [] e = nil
every_all f (x ∷ xs) e = cons (and_l (f x) (every f xs) e) (every_all f xs (and_r (f x) (every f xs) e))

pub all_every : {A : Type 0} (f : A → Bool) {xs : List A} → All (λ x. f x ≡ true) xs → every f xs ≡ true
all_every f nil = refl
all_every f (cons {x = x} {xs = xs} p h) = and_i (f x) (every f xs) p (all_every f h)

-- what holds of every element holds of an element
pub all_at : {P : ℕ → Type 0} (t : ℕ) (xs : List ℕ) → All P xs → any (eqb t) xs ≡ true → P t
all_at t [] h e = clash false e refl
all_at {P} t (x ∷ xs) h e =
    by-test (eqb t x) (λ b. rw (eqb-true t x b) (head h)) (λ b. let k : any (eqb t) xs ≡ true = rw b at e in all_at t xs (tail h) k)

pub all_in : (xs : List ℕ) → All (λ x. any (eqb x) xs ≡ true) xs
all_in [] = nil
all_in (x ∷ xs) = cons (or_l (eqb x x) (any (eqb x) xs) (eq-eqb x x refl)) (all_imp (λ y e. or_r (eqb y x) (any (eqb y) xs) e) (all_in xs))

pub all_flat : {A B : Type 0} {P : B → Type 0} (f : A → List B) {xs : List A} → All (λ x. All P (f x)) xs → All P (flat f xs)
all_flat f nil = nil
all_flat f (cons p h) = all_append p (all_flat f h)

pub keep_none : {A : Type 0} (p : A → Bool) {xs : List A} → All (λ x. p x ≡ false) xs → keep p xs ≡ []
keep_none p nil = refl
keep_none p (cons e h) = rw (e, keep_none p h)

pub keep_each : {A : Type 0} (p : A → Bool) {l : List A} → All (λ x. p x ≡ true) l → keep p l ≡ l
keep_each p nil = refl
keep_each p (cons {x = x} e h) = rw (e, keep_each p h)

pub keep_length : {A : Type 0} (p : A → Bool) (xs : List A) → length (keep p xs) ≤ length xs
keep_length p [] = omega arith
keep_length p (x ∷ xs) = by-test (p x) (λ e. rw e (omega (arith, keep_length p xs))) (λ e. rw e (omega (arith, keep_length p xs)))

pub map_all : {A B : Type 0} {P : B → Type 0} (f : A → B) (xs : List A) → All P (map f xs) → All (λ x. P (f x)) xs
map_all f [] h = nil
map_all f (x ∷ xs) h = cons (head h) (map_all f xs (tail h))

pub all_map : {A B : Type 0} {P : B → Type 0} (f : A → B) {xs : List A} → All (λ x. P (f x)) xs → All P (map f xs)
all_map f nil = nil
all_map f (cons p h) = cons p (all_map f h)

module _ {P : ℕ → Type 0} where
  pub all_put : (t : ℕ) {us : List ℕ} → P t → All P us → All P (put t us)
  all_put t a nil = cons a nil
  all_put t a (cons {x = u} p h) =
      by-test (ltb t u) (λ e. rw e (cons a (cons p h)))
      (λ e. by-test (eqb t u) (λ e'. rw (e, e') (cons p h)) (λ e'. rw (e, e') (cons p (all_put t a h))))

  pub put_all : (t : ℕ) (us : List ℕ) → All P (put t us) → P t × All P us
  put_all t [] h = (head h, tail h)
  put_all t (u ∷ us) h =
      by-test (ltb t u)
      (λ e. let k : All P (t ∷ u ∷ us) = rw e at h in (head k, tail k))
      (λ e. by-test (eqb t u)
      (λ e'. let k : All P (u ∷ us) = rw (e, e') at h in (rw (eqb-true t u e') (head k), k))
      (λ e'. let k : All P (u ∷ put t us) = rw (e, e') at h in let r = put_all t us (tail k) in (r.0, cons (head k) r.1)))

  pub all_puts : {ts us : List ℕ} → All P ts → All P us → All P (puts ts us)
  all_puts nil h = h
  all_puts (cons {x = t} p a) h = all_put t p (all_puts a h)

  pub puts_all : (ts us : List ℕ) → All P (puts ts us) → All P ts × All P us
  puts_all [] us h = (nil, h)
  puts_all (t ∷ ts) us h =
      let r = put_all t (puts ts us) h in
      let q = puts_all ts us r.1 in
      (cons r.0 q.0, q.1)
