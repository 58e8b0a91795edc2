-- Lists, with tests that are functions into Bool, generic in the element type.
--
-- any, every: some element passes, each element passes
-- keep: the elements that pass, in their order
-- front, past: the longest front part whose elements all pass, and what follows it
-- is_empty, last: of a list
-- insert, sort: ascending by `le`, equal elements in the order given
-- ascending: strictly, by `lt`
-- flat: the lists that f gives, one after the other
-- same: two lists of numbers are equal
-- padded: a list, then zeros up to the length n
--
-- A recursive call is bound by `let`: arguments are computed before a call, and a `let` waits.
use Rattle.std.specs.Prelude.{ℕ, ◌-◌, Bool, true, false, cond, ◌&&◌, ◌||◌, List, [], ◌∷◌, ◌++◌, eqb, length, replicate}
use Rattle.std.specs.List.{list_any, list_all}
use Rattle.std.proofs.Math.Option.{Option, none, some}

module _ {A : Type 0} where
  abbrev pub any : (A → Bool) → List A → Bool
  any p xs = list_any p xs

  abbrev pub every : (A → Bool) → List A → Bool
  every p xs = list_all p xs

  abbrev pub keep : (A → Bool) → List A → List A
  keep p [] = []
  keep p (x ∷ xs) = let r = keep p xs in cond (p x) (x ∷ r) r

  abbrev pub front : (A → Bool) → List A → List A
  front p [] = []
  front p (x ∷ xs) = let r = front p xs in cond (p x) (x ∷ r) []

  abbrev pub past : (A → Bool) → List A → List A
  past p [] = []
  past p (x ∷ xs) = let r = past p xs in cond (p x) r (x ∷ xs)

  abbrev pub is_empty : List A → Bool
  is_empty [] = true
  is_empty (x ∷ xs) = false

  abbrev pub last : List A → Option A
  last [] = none
  last (x ∷ xs) = elim (last xs) [ none ↦ some x | some y ↦ some y ]

  -- x goes before the first y that it may stand before
  abbrev pub insert : (A → A → Bool) → A → List A → List A
  insert le x [] = x ∷ []
  insert le x (y ∷ ys) = let r = insert le x ys in cond (le x y) (x ∷ y ∷ ys) (y ∷ r)

  abbrev pub sort : (A → A → Bool) → List A → List A
  sort le [] = []
  sort le (x ∷ xs) = insert le x (sort le xs)

  abbrev pub ascending : (A → A → Bool) → List A → Bool
  ascending lt [] = true
  ascending lt (x ∷ []) = true
  ascending lt (x ∷ y ∷ ys) = lt x y && ascending lt (y ∷ ys)

  abbrev pub padded : A → ℕ → List A → List A
  padded z n xs = xs ++ replicate (n - length xs) z

abbrev pub flat : {A B : Type 0} → (A → List B) → List A → List B
flat f [] = []
flat f (x ∷ xs) = f x ++ flat f xs

abbrev pub same : List ℕ → List ℕ → Bool
same [] [] = true
same [] (y ∷ ys) = false
same (x ∷ xs) [] = false
same (x ∷ xs) (y ∷ ys) = eqb x y && same xs ys
