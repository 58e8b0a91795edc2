-- Lists one after the other, and tests of lists in a row.
--
-- flat_map, flat-flat, map-flat, length-flat: of `flat`, under the operations on lists
-- any_map, any_sort: some element passes, of what a function makes of the elements, and of a sorted list
use Prim.Native.Nat.{◌+◌}
use mathlib.Core.Bool.{Bool, true, false, ◌||◌}
use mathlib.Core.List.{List, [], ◌∷◌, ◌++◌, map, map-append}
use mathlib.Core.Path.{◌≡◌, refl, sym, ◌∙◌, ap}
use lib.ListN.{length, length-append}
use Rattle.grid.specs.Lists.{any, insert, sort, flat}
use Rattle.grid.proofs.Tests.{by-test}
use Rattle.grid.proofs.Operations.{flat_append}
use Rattle.rules.proofs.Width.{sum_of}

pub length-flat : {A B : Type 0} (f : A → List B) (xs : List A) → length (flat f xs) ≡ sum_of (λ x. length (f x)) xs
length-flat f [] = refl
length-flat f (x ∷ xs) = length-append (f x) (flat f xs) ∙ ap (λ n. length (f x) + n) (length-flat f xs)

module _ {A B C : Type 0} where
  pub flat_map : (f : B → List C) (g : A → B) (xs : List A) → flat f (map g xs) ≡ flat (λ x. f (g x)) xs
  flat_map f g [] = refl
  flat_map f g (x ∷ xs) = ap (λ l. f (g x) ++ l) (flat_map f g xs)

  pub map-flat : (f : B → C) (g : A → List B) (xs : List A) → map f (flat g xs) ≡ flat (λ x. map f (g x)) xs
  map-flat f g [] = refl
  map-flat f g (x ∷ xs) = map-append f (g x) (flat g xs) ∙ ap (λ l. map f (g x) ++ l) (map-flat f g xs)

pub flat-flat : {A B : Type 0} (f : A → List B) (xss : List (List A)) → flat (flat f) xss ≡ flat f (flat (λ xs. xs) xss)
flat-flat f [] = refl
flat-flat f (xs ∷ xss) = ap (λ l. flat f xs ++ l) (flat-flat f xss) ∙ sym (flat_append f xs (flat (λ xs. xs) xss))

pub any_map : {A B : Type 0} (p : B → Bool) (f : A → B) (xs : List A) → any p (map f xs) ≡ any (λ x. p (f x)) xs
any_map p f [] = refl
any_map p f (x ∷ xs) = ap (λ b. p (f x) || b) (any_map p f xs)

or_swap : (a b c : Bool) → (a || (b || c)) ≡ (b || (a || c))
or_swap true true c = refl
or_swap true false c = refl
or_swap false b c = refl

module _ {A : Type 0} (p : A → Bool) (le : A → A → Bool) where
  any_insert : (x : A) (ys : List A) → any p (insert le x ys) ≡ (p x || any p ys)
  any_insert x [] = refl
  any_insert x (y ∷ ys) = by-test (le x y) (λ e. rw e) (λ e. rw (e, any_insert x ys) (or_swap (p y) (p x) (any p ys)))

  pub any_sort : (xs : List A) → any p (sort le xs) ≡ any p xs
  any_sort [] = refl
  any_sort (x ∷ xs) = any_insert x (sort le xs) ∙ ap (λ b. p x || b) (any_sort xs)
