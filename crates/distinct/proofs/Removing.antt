-- Removing equals from a sorted list gives the set of its elements.
--
-- ends_more, ends_last: what ends a run. Squeezing: what the loop that removes equals keeps.
-- puts_sort: the set of a list is the set of its sort. removed_sorted: what is left of any list, sorted first
use Prim.Native.Nat.{ℕ, ◌≤◌, ◌<◌, ◌+◌}
use native.Mathlib.Omega.{arith}
use mathlib.Core.Bool.{Bool, true, false, not}
use mathlib.Core.List.{List, [], ◌∷◌, ◌++◌}
use mathlib.Core.Path.{◌≡◌, refl, sym, ◌∙◌, ap}
use lib.Dec.{eqb, ltb, leb}
use lib.ListN.{length, take, drop, get_or, set, length-set, drop_of_length-le}
use borrow.Author.Tests.{eqb-true, eqb-false, eq-eqb, ne_eqb, ltb-true, ltb-false, lt-ltb, le-ltb, leb-true, not-true, not-false}
use Rattle.grid.specs.Lists.{insert, sort, padded}
use Rattle.grid.specs.Times.{put, puts}
use Rattle.grid.proofs.Tests.{by-test}
use Rattle.grid.proofs.Lists.{nil, cons, all_imp, all_puts}
use Rattle.grid.proofs.Loops.{put_more, drop_more, ahead_more, ahead_set}
use Rattle.grid.proofs.Sort.{Sorted, more, ranking_leb, sorted_drop, sorted_is, sorted_sort, sort_sorted, length_sort}
use Rattle.grid.proofs.Operations.{put_first}
use Rattle.distinct.specs.Sets.{ends_run, Removed}

module _ {A : Type 0} (same : A → A → Bool) (s : List A) (i : ℕ) (d : A) where
  pub ends_more : i + 1 < length s → not (same (get_or s i d) (get_or s (i + 1) d)) ≡ ends_run same (drop i s)
  unfolding ends_run
  ends_more h = rw (drop_more s i d (omega arith), drop_more s (i + 1) d h)

  pub ends_last : i < length s → length s ≤ i + 1 → true ≡ ends_run same (drop i s)
  unfolding ends_run
  ends_last h k = rw (drop_more s i d h, drop_of_length-le s k)

-- ---- one element of a sorted list more
put_again : (t : ℕ) (us : List ℕ) → put t (put t us) ≡ put t us
put_again t [] = rw (le-ltb t t (omega arith), eq-eqb t t refl)
put_again t (u ∷ us) =
    by-test (ltb t u)
    (λ e. rw (e, le-ltb t t (omega arith), eq-eqb t t refl))
    (λ e. by-test (eqb t u) (λ f. rw (e, f, e, f)) (λ f. rw (e, f, e, f) (ap (λ r. u ∷ r) (put_again t us))))

puts_keep : (x : ℕ) (l : List ℕ) → Sorted leb (x ∷ l) → ends_run eqb (x ∷ l) ≡ true → puts (x ∷ l) [] ≡ x ∷ puts l []
unfolding ends_run
puts_keep x [] s e = refl
puts_keep x (y ∷ l) (more (cons p h) (more g s)) e =
    let n : x ≡ y → ⊥ = eqb-false x y (not-true _ e) in
    let q : x < y = less x y (leb-true x y p) n in
    put_first x (all_puts (cons q (all_imp (λ z t. over x y z q (leb-true y z t)) g)) nil)
  where
    less : (x y : ℕ) → x ≤ y → (x ≡ y → ⊥) → x < y
    less x y h n = omega arith

    over : (x y z : ℕ) → x < y → y ≤ z → x < z
    over x y z h k = omega arith

puts_skip : (x : ℕ) (l : List ℕ) → ends_run eqb (x ∷ l) ≡ false → puts (x ∷ l) [] ≡ puts l []
unfolding ends_run
puts_skip x [] e = cc
puts_skip x (y ∷ l) e = ap (λ z. put z (put y (puts l []))) (eqb-true x y (not-false _ e)) ∙ put_again y (puts l [])

-- ---- the loop: k elements are kept of the first i
pub record Squeezing (s₀ s : List ℕ) (i k : ℕ) : Type 0 where
  pub sorted : Sorted leb s₀
  pub ki : k ≤ i
  pub il : i ≤ length s₀
  pub len : length s ≡ length s₀
  pub ahead : drop i s ≡ drop i s₀
  pub done : take k s ++ puts (drop i s) [] ≡ puts s₀ []

pub squeezing_start : (s : List ℕ) → sort leb s ≡ s → Squeezing s s 0 0
squeezing_start s e = record { sorted = sorted_is ranking_leb s e; ki = omega arith; il = omega arith; len = refl; ahead = refl; done = refl }

module _ {s₀ s : List ℕ} {i k : ℕ} (m : Squeezing s₀ s i k) (h : i < length s) where
  here : drop i s ≡ get_or s i 0 ∷ drop (i + 1) s
  here = drop_more s i 0 h

  sorted_here : Sorted leb (get_or s i 0 ∷ drop (i + 1) s)
  sorted_here = rw (← m.ahead, here) at (sorted_drop i m.sorted)

  pub squeezing_keep : ends_run eqb (drop i s) ≡ true → Squeezing s₀ (set s k (get_or s i 0)) (i + 1) (k + 1)
  squeezing_keep t =
      let ki : k ≤ i = m.ki in
      let len : length s ≡ length s₀ = m.len in
      let step : puts (drop i s) [] ≡ get_or s i 0 ∷ puts (drop (i + 1) s) [] = ap (λ l. puts l []) here ∙ puts_keep (get_or s i 0) (drop (i + 1) s) sorted_here (rw here at t) in
      record {
        sorted = m.sorted;
        ki = omega arith;
        il = omega arith;
        len = simp length-set len;
        ahead = ahead_set s s₀ i k _ ki m.ahead;
        done = put_more s k _ (omega arith) m.done (step ∙ ap (λ l. get_or s i 0 ∷ puts l []) (sym (ahead_set s s i k (get_or s i 0) ki refl)));
      }

  pub squeezing_skip : ends_run eqb (drop i s) ≡ false → Squeezing s₀ s (i + 1) k
  squeezing_skip t =
      let ki : k ≤ i = m.ki in
      let len : length s ≡ length s₀ = m.len in
      let step : puts (drop i s) [] ≡ puts (drop (i + 1) s) [] = ap (λ l. puts l []) here ∙ puts_skip (get_or s i 0) (drop (i + 1) s) (rw here at t) in
      record {
        sorted = m.sorted;
        ki = omega arith;
        il = omega arith;
        len = len;
        ahead = ahead_more s s₀ i m.ahead;
        done = ap (λ l. take k s ++ l) (sym step) ∙ m.done;
      }

-- ---- the set of a list is the set of its sort
put_swap_less : (x y : ℕ) (us : List ℕ) → x < y → put x (put y us) ≡ put y (put x us)
put_swap_less x y [] h = rw (lt-ltb x y h, le-ltb y x (omega arith), ne_eqb y x (λ e. omega arith))
put_swap_less x y (u ∷ us) h =
    let yx : ltb y x ≡ false = le-ltb y x (omega arith) in
    let yx' : eqb y x ≡ false = ne_eqb y x (λ e. omega arith) in
    by-test (ltb x u)
    (λ xu. by-test (ltb y u)
    (λ yu. rw (yu, xu, lt-ltb x y h, yx, yx', yu))
    (λ yu. by-test (eqb y u) (λ e. rw (yu, e, xu, yx, yx', yu, e)) (λ e. rw (yu, e, xu, yx, yx', yu, e))))
    (λ xu. let k : u ≤ x = ltb-false x u xu in
    let yu : ltb y u ≡ false = le-ltb y u (omega arith) in
    let yu' : eqb y u ≡ false = ne_eqb y u (λ e. omega arith) in
    by-test (eqb x u) (λ e. rw (yu, yu', xu, e, yu, yu')) (λ e. rw (yu, yu', xu, e, yu, yu') (ap (λ r. u ∷ r) (put_swap_less x y us h))))

put_swap : (x y : ℕ) (us : List ℕ) → put x (put y us) ≡ put y (put x us)
put_swap x y us =
    by-test (ltb x y) (λ e. put_swap_less x y us (ltb-true x y e))
    (λ e. by-test (ltb y x) (λ f. sym (put_swap_less y x us (ltb-true y x f)))
    (λ f. let q : x ≡ y = (let h : y ≤ x = ltb-false x y e in let k : x ≤ y = ltb-false y x f in omega arith) in (λ i. put (q i) (put (sym q i) us))))

puts_insert : (x : ℕ) (l : List ℕ) → puts (insert leb x l) [] ≡ put x (puts l [])
puts_insert x [] = refl
puts_insert x (y ∷ l) = by-test (leb x y) (λ e. rw e) (λ e. rw e (ap (put y) (puts_insert x l) ∙ put_swap y x (puts l [])))

pub puts_sort : (l : List ℕ) → puts (sort leb l) [] ≡ puts l []
puts_sort [] = refl
puts_sort (x ∷ l) = puts_insert x (sort leb l) ∙ ap (put x) (puts_sort l)

-- x is the sort of s, and what is left of it was found
pub removed_sorted : {x z : List ℕ} {r : ℕ} (s : List ℕ) → x ≡ sort leb s → Removed (puts x []) (length x) z r → Removed (puts s []) (length s) z r
removed_sorted s e m =
    let p = ap (λ l. puts l []) e ∙ puts_sort s in
    let n = ap length e ∙ length_sort leb s in
    record { count_is = m.count_is ∙ ap length p; exit_is = m.exit_is ∙ (λ i. padded 0 (n i) (p i)) }

pub sort_fixed : {x : List ℕ} (s : List ℕ) → x ≡ sort leb s → sort leb x ≡ x
sort_fixed s e = ap (sort leb) e ∙ sort_sorted (sorted_sort ranking_leb s) ∙ sym e
