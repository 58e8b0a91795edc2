-- Sums over a list of an integer-valued function.
use mathlib.Core.Bool.{Bool, cond}
use mathlib.Core.List.{List, [], ◌∷◌, ◌++◌, map}
use mathlib.Core.Path.{◌≡◌, refl, sym, ◌∙◌, ap}
use lib.IntN.{ℤ, pos, ◌+ℤ◌, neg_ℤ, +ℤ_assoc, +ℤ_comm, +ℤ_idl, neg_ℤ-+ℤ}
use Rattle.grid.specs.Lists.{keep, insert, sort}
use Rattle.grid.proofs.Tests.{by-test}

pub left_comm : (a b c : ℤ) → a +ℤ (b +ℤ c) ≡ b +ℤ (a +ℤ c)
left_comm a b c = cc (+ℤ_assoc a b c, +ℤ_assoc b a c, +ℤ_comm a b)

pub ruleset acℤ = (+ℤ_assoc, +ℤ_comm, left_comm)

module _ {A : Type 0} where
  abbrev pub sum : (A → ℤ) → List A → ℤ
  sum f [] = pos 0
  sum f (x ∷ xs) = f x +ℤ sum f xs

  pub sum-append : (f : A → ℤ) (xs ys : List A) → sum f (xs ++ ys) ≡ sum f xs +ℤ sum f ys
  sum-append f [] ys = sym (+ℤ_idl (sum f ys))
  sum-append f (x ∷ xs) ys = rw (sum-append f xs ys, +ℤ_assoc)

  pub sum_insert : (f : A → ℤ) (le : A → A → Bool) (x : A) (xs : List A) → sum f (insert le x xs) ≡ f x +ℤ sum f xs
  sum_insert f le x [] = refl
  sum_insert f le x (y ∷ ys) = by-test (le x y) (λ e. rw e) (λ e. rw (e, sum_insert f le x ys) (left_comm (f y) (f x) (sum f ys)))

  pub sum_sort : (f : A → ℤ) (le : A → A → Bool) (xs : List A) → sum f (sort le xs) ≡ sum f xs
  sum_sort f le [] = refl
  sum_sort f le (x ∷ xs) = sum_insert f le x (sort le xs) ∙ ap (λ z. f x +ℤ z) (sum_sort f le xs)

  pub sum_ext : (f g : A → ℤ) → ((x : A) → f x ≡ g x) → (xs : List A) → sum f xs ≡ sum g xs
  sum_ext f g h [] = refl
  sum_ext f g h (x ∷ xs) = rw (h x, sum_ext f g h xs)

  pub sum_plus : (f g : A → ℤ) (xs : List A) → sum (λ x. f x +ℤ g x) xs ≡ sum f xs +ℤ sum g xs
  sum_plus f g [] = refl
  sum_plus f g (x ∷ xs) = rw (sum_plus f g xs) (simp acℤ)

  pub sum-zero : (xs : List A) → sum (λ x. pos 0) xs ≡ pos 0
  sum-zero [] = refl
  sum-zero (x ∷ xs) = rw (sum-zero xs)

  pub sum-neg : (f : A → ℤ) (xs : List A) → sum (λ x. neg_ℤ (f x)) xs ≡ neg_ℤ (sum f xs)
  sum-neg f [] = refl
  sum-neg f (x ∷ xs) = rw (neg_ℤ-+ℤ, sum-neg f xs)

  pub sum_keep : (f : A → ℤ) (p : A → Bool) (xs : List A) → sum f (keep p xs) ≡ sum (λ x. cond (p x) (f x) (pos 0)) xs
  sum_keep f p [] = refl
  sum_keep f p (x ∷ xs) = by-test (p x) (λ e. rw (e, sum_keep f p xs)) (λ e. rw (e, sum_keep f p xs) (simp +ℤ_idl))

pub sum-map : {A B : Type 0} (f : B → ℤ) (g : A → B) (xs : List A) → sum f (map g xs) ≡ sum (λ x. f (g x)) xs
sum-map f g [] = refl
sum-map f g (x ∷ xs) = rw (sum-map f g xs)
