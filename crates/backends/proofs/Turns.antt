-- A turn of the walk over a summed input and a summed output.
--
-- Above: each value is above a number. canon_drop: what is left of a canonical list
-- least_first: the least entry of a list comes first when it is consolidated
-- left_step, right_step, both_step, pass_step: what distinct_minus is, by the turn
-- turn_end, turn_unlisted, turn_last, turn_less, turn_greater, turn_equal: what turn is, by what the code tests. turn_in, turn_out: where the heads then stand
use Prim.Native.Nat.{ℕ, zero, suc, ◌+◌, ◌<◌, ◌≤◌}
use native.Mathlib.Omega.{arith}
use mathlib.Core.Bool.{true, false, cond}
use mathlib.Core.Path.{◌≡◌, refl, sym, ◌∙◌, ap, subst}
use mathlib.Core.List.{List, [], ◌∷◌, ◌++◌}
use lib.Dec.{ltb}
use lib.IntN.{ℤ, pos, negsuc, ◌+ℤ◌, neg_ℤ, +ℤ_comm}
use lib.Seq.{drop-cons}
use lib.ListN.{length, drop, get_or, drop_of_length-le}
use borrow.Author.Tests.{ltb-true, ltb-false, ne_eqb, lt-ltb, le-ltb}
use Rattle.std.specs.declared.cmp.Ordering.TheVariants.{Less, Equal, Greater}
use Rattle.std.specs.Ordering.{nat_cmp}
use Rattle.std.specs.Cmp.{ranked}
use Rattle.grid.specs.Consolidate.{is_zero, unless_zero, add, consolidate}
use Rattle.grid.proofs.Tests.{by-test}
use Rattle.grid.proofs.Lists.{All, nil, cons, all_append, all_map, all_keep, all_imp}
use Rattle.grid.proofs.Sums.{sum, sum-append, left_comm}
use Rattle.grid.proofs.Consolidate.{strict_ltb, share, tally, share_plus, Canon, none, more, all_consolidate, consolidate_ext}
use Rattle.rules.specs.Backends.{Sums, listed, distinct, minus}
use Rattle.backends.specs.declared.correction.Turn.{Turn}
use Rattle.backends.specs.declared.correction.Turn.TheVariants.{Input, Output, Both, Unlisted}
use Rattle.backends.specs.Columns.{entries, values_of}
use Rattle.backends.specs.Correct.{distinct_minus, turn}
use Rattle.backends.proofs.Columns.{length-entries, get_or-entries}

-- each entry's value is above a
abbrev pub Above : ℕ → Sums → Type 0
Above a es = All (λ (z : ℕ × ℤ). ltb a z.0 ≡ true) es

-- ---- canonical lists
module _ {y : ℕ × ℤ} {r : Sums} where
  canon_nonzero : Canon ltb (y ∷ r) → is_zero y.1 ≡ false
  canon_nonzero (more n u c) = n

  canon_above : Canon ltb (y ∷ r) → Above y.0 r
  canon_above (more n u c) = u

pub canon_drop : (n : ℕ) {l : Sums} → Canon ltb l → Canon ltb (drop n l)
canon_drop zero c = c
canon_drop (suc n) none = none
canon_drop (suc n) (more z u c) = canon_drop n c

above_higher : (a b : ℕ) {es : Sums} → a < b → Above b es → Above a es
above_higher a b h u = all_imp (λ (z : ℕ × ℤ) t. lt-ltb a z.0 (omega (arith, ltb-true b z.0 t))) u

-- ---- consolidating
add_front : (a : ℕ) (d : ℤ) {r : Sums} → Above a r → add ltb a d r ≡ unless_zero a d r
add_front a d nil = refl
add_front a d (cons p h) = rw p

pub least_first : (a : ℕ) (d : ℤ) {es : Sums} → Above a es → consolidate ltb ((a, d) ∷ es) ≡ unless_zero a d (consolidate ltb es)
least_first a d u = add_front a d (all_consolidate strict_ltb (λ k. ltb a k ≡ true) u)

from_middle : (xs : Sums) (y : ℕ × ℤ) (ys : Sums) → consolidate ltb (xs ++ (y ∷ ys)) ≡ consolidate ltb (y ∷ (xs ++ ys))
from_middle xs y ys =
    consolidate_ext strict_ltb (xs ++ (y ∷ ys)) (y ∷ (xs ++ ys))
    (λ p. sum-append (share p) xs (y ∷ ys) ∙ left_comm (sum (share p) xs) (share p y) (sum (share p) ys) ∙ ap (λ z. share p y +ℤ z) (sym (sum-append (share p) xs ys)))

equals_added : (a : ℕ) (c d : ℤ) (es : Sums) → consolidate ltb ((a, c) ∷ (a, d) ∷ es) ≡ consolidate ltb ((a, c +ℤ d) ∷ es)
equals_added a c d es = consolidate_ext strict_ltb ((a, c) ∷ (a, d) ∷ es) ((a, c +ℤ d) ∷ es) (λ p. sym (share_plus (p a) c d (tally p es)))

zero-neg : (d : ℤ) → is_zero (neg_ℤ d) ≡ is_zero d
zero-neg (pos zero) = refl
zero-neg (pos (suc n)) = sym (ne_eqb (suc n) 0 (λ e. omega arith))
zero-neg (negsuc n) = ne_eqb (suc n) 0 (λ e. omega arith)

above-distinct : (a : ℕ) {es : Sums} → Above a es → Above a (distinct es)
unfolding distinct
above-distinct a u = all_map _ (all_keep _ u)

above-minus : (a : ℕ) {es : Sums} → Above a es → Above a (minus es)
unfolding minus
above-minus a u = all_map _ u

-- ---- what the test of two heads says
abbrev heads : ℕ → ℕ → Turn
heads x y = cond (ltb x y) Input (cond (ltb y x) Output Both)

other : {X : Type 0} (m n k : Turn) → k ≡ m → k ≡ n → (m ≡ n → ⊥) → X
other m n k p q f = absurd (f (sym p ∙ q))

heads_input : (x y : ℕ) → heads x y ≡ Input → x < y
heads_input x y e =
    by-test (ltb x y) (λ h. ltb-true x y h)
    (λ h. by-test (ltb y x) (λ k. other Output Input (heads x y) (rw (h, k)) e (λ z. cc)) (λ k. other Both Input (heads x y) (rw (h, k)) e (λ z. cc)))

heads_output : (x y : ℕ) → heads x y ≡ Output → y < x
heads_output x y e =
    by-test (ltb x y) (λ h. other Input Output (heads x y) (rw h) e (λ z. cc))
    (λ h. by-test (ltb y x) (λ k. ltb-true y x k) (λ k. other Both Output (heads x y) (rw (h, k)) e (λ z. cc)))

heads_equal : (x y : ℕ) → heads x y ≡ Both → x ≡ y
heads_equal x y e =
    by-test (ltb x y) (λ h. other Input Both (heads x y) (rw h) e (λ z. cc))
    (λ h. by-test (ltb y x) (λ k. other Output Both (heads x y) (rw (h, k)) e (λ z. cc)) (λ k. omega (arith, ltb-false x y h, ltb-false y x k)))

heads_left : (x y : ℕ) → x < y → Input ≡ heads x y
heads_left x y h = rw (lt-ltb x y h)

heads_right : (x y : ℕ) → y < x → Output ≡ heads x y
heads_right x y h = rw (le-ltb x y (omega arith), lt-ltb y x h)

heads_both : (x y : ℕ) → x ≡ y → Both ≡ heads x y
heads_both x y e = rw (le-ltb x y (omega arith), le-ltb y x (omega arith))

-- a turn other than Unlisted has the input's head listed
turn-listed : (n : Turn) (x : ℕ × ℤ) (xs : Sums) (vs : List ℕ) → turn (x ∷ xs) vs ≡ n → (Unlisted ≡ n → ⊥) → listed x.1 ≡ true
unfolding turn
turn-listed n x xs [] e f = by-test (listed x.1) (λ l. l) (λ l. other Unlisted n (turn (x ∷ xs) []) (rw l) e f)
turn-listed n x xs (v ∷ vs) e f = by-test (listed x.1) (λ l. l) (λ l. other Unlisted n (turn (x ∷ xs) (v ∷ vs)) (rw l) e f)

turn_is : (n : Turn) (x : ℕ × ℤ) (xs : Sums) (v : ℕ) (vs : List ℕ) → listed x.1 ≡ true → turn (x ∷ xs) (v ∷ vs) ≡ n → heads x.0 v ≡ n
unfolding turn
turn_is n x xs v vs l e = rw l at e

-- ---- the four turns
distinct_more : (x : ℕ × ℤ) (xs : Sums) → listed x.1 ≡ true → distinct (x ∷ xs) ≡ (x.0, pos 1) ∷ distinct xs
unfolding distinct
distinct_more x xs l = rw l

pub pass_step : (x : ℕ × ℤ) (xs ys : Sums) → turn (x ∷ xs) (values_of ys) ≡ Unlisted → distinct_minus (x ∷ xs) ys ≡ distinct_minus xs ys
unfolding turn distinct distinct_minus
pass_step x xs [] e = by-test (listed x.1) (λ l. other Input Unlisted (turn (x ∷ xs) []) (rw l) e (λ z. cc)) (λ l. rw l)
pass_step x xs (y ∷ ys) e =
    by-test (listed x.1)
    (λ l. let q : heads x.0 y.0 ≡ Unlisted = rw l at e in
    by-test (ltb x.0 y.0) (λ h. other Input Unlisted (heads x.0 y.0) (rw h) q (λ z. cc))
    (λ h. by-test (ltb y.0 x.0) (λ k. other Output Unlisted (heads x.0 y.0) (rw (h, k)) q (λ z. cc)) (λ k. other Both Unlisted (heads x.0 y.0) (rw (h, k)) q (λ z. cc))))
    (λ l. rw l)

above_left : (x : ℕ × ℤ) (xs ys : Sums) → Canon ltb ys → listed x.1 ≡ true → turn (x ∷ xs) (values_of ys) ≡ Input → Above x.0 ys
above_left x xs [] c l e = nil
above_left x xs (y ∷ ys) c l e =
    let h : x.0 < y.0 = heads_input x.0 y.0 (turn_is Input x xs y.0 (values_of ys) l e) in
    cons (lt-ltb x.0 y.0 h) (above_higher x.0 y.0 h (canon_above c))

above_right : (v : ℕ) (xs : Sums) (vs : List ℕ) → Canon ltb xs → turn xs (v ∷ vs) ≡ Output → Above v xs
above_right v [] vs c e = nil
above_right v (x ∷ xs) vs c e =
    let h : v < x.0 = heads_output x.0 v (turn_is Output x xs v vs (turn-listed Output x xs (v ∷ vs) e (λ z. cc)) e) in
    cons (lt-ltb v x.0 h) (above_higher v x.0 h (canon_above c))

pub left_step : (x : ℕ × ℤ) (xs ys : Sums) → Canon ltb (x ∷ xs) → Canon ltb ys → turn (x ∷ xs) (values_of ys) ≡ Input → distinct_minus (x ∷ xs) ys ≡ (x.0, pos 1) ∷ distinct_minus xs ys
unfolding distinct_minus
left_step x xs ys c d e =
    let l = turn-listed Input x xs (values_of ys) e (λ z. cc) in
    ap (λ z. consolidate ltb (z ++ minus ys)) (distinct_more x xs l)
    ∙ least_first x.0 (pos 1) (all_append (above-distinct x.0 (canon_above c)) (above-minus x.0 (above_left x xs ys d l e)))

pub right_step : (xs : Sums) (y : ℕ × ℤ) (ys : Sums) → Canon ltb xs → Canon ltb (y ∷ ys) → turn xs (y.0 ∷ values_of ys) ≡ Output → distinct_minus xs (y ∷ ys) ≡ (y.0, neg_ℤ y.1) ∷ distinct_minus xs ys
unfolding distinct_minus minus
right_step xs y ys c d e =
    from_middle (distinct xs) (y.0, neg_ℤ y.1) (minus ys)
    ∙ least_first y.0 (neg_ℤ y.1) (all_append (above-distinct y.0 (above_right y.0 xs (values_of ys) c e)) (above-minus y.0 (canon_above d)))
    ∙ rw (zero-neg y.1, canon_nonzero d)

pub both_step : (x : ℕ × ℤ) (xs : Sums) (y : ℕ × ℤ) (ys : Sums) → Canon ltb (x ∷ xs) → Canon ltb (y ∷ ys) → turn (x ∷ xs) (y.0 ∷ values_of ys) ≡ Both
    → distinct_minus (x ∷ xs) (y ∷ ys) ≡ unless_zero x.0 (pos 1 +ℤ neg_ℤ y.1) (distinct_minus xs ys)
unfolding distinct_minus minus
both_step x xs y ys c d e =
    let l = turn-listed Both x xs (y.0 ∷ values_of ys) e (λ z. cc) in
    let q : x.0 ≡ y.0 = heads_equal x.0 y.0 (turn_is Both x xs y.0 (values_of ys) l e) in
    ap (λ z. consolidate ltb (z ++ minus (y ∷ ys))) (distinct_more x xs l)
    ∙ from_middle ((x.0, pos 1) ∷ distinct xs) (y.0, neg_ℤ y.1) (minus ys)
    ∙ ap (λ z. consolidate ltb ((z, neg_ℤ y.1) ∷ (x.0, pos 1) ∷ (distinct xs ++ minus ys))) (sym q)
    ∙ equals_added x.0 (neg_ℤ y.1) (pos 1) (distinct xs ++ minus ys)
    ∙ least_first x.0 (neg_ℤ y.1 +ℤ pos 1)
    (all_append (above-distinct x.0 (canon_above c)) (above-minus x.0 (subst (λ (z : ℕ). Above z ys) (sym q) (canon_above d))))
    ∙ ap (λ z. unless_zero x.0 z (consolidate ltb (distinct xs ++ minus ys))) (+ℤ_comm (neg_ℤ y.1) (pos 1))

-- ---- the code's tests, over columns
module _ (iv : List ℕ) (id : List ℤ) (i : ℕ) (ov : List ℕ) (j : ℕ) (same : length id ≡ length iv) where
  pub input_more : i < length iv → drop i (entries iv id) ≡ (get_or iv i 0, get_or id i (pos 0)) ∷ drop (suc i) (entries iv id)
  input_more h =
      drop-cons (entries iv id) i (0, pos 0) (let l : length (entries iv id) ≡ length iv = length-entries iv id same in omega arith)
      ∙ ap (λ e. e ∷ drop (suc i) (entries iv id)) (get_or-entries iv id i same)

  pub turn_end : length iv ≤ i → Output ≡ turn (drop i (entries iv id)) (drop j ov)
  unfolding turn
  turn_end h = let l : length (entries iv id) ≡ length iv = length-entries iv id same in
      let k : length (entries iv id) ≤ i = omega arith in
      rw (drop_of_length-le (entries iv id) k)

  pub turn_unlisted : i < length iv → listed (get_or id i (pos 0)) ≡ false → Unlisted ≡ turn (drop i (entries iv id)) (drop j ov)
  unfolding turn
  turn_unlisted h l = go (drop j ov)
    where
      go : (vs : List ℕ) → Unlisted ≡ turn (drop i (entries iv id)) vs
      go [] = rw (input_more h, l)
      go (v ∷ vs) = rw (input_more h, l)

  pub turn_last : i < length iv → listed (get_or id i (pos 0)) ≡ true → length ov ≤ j → Input ≡ turn (drop i (entries iv id)) (drop j ov)
  unfolding turn
  turn_last h l k = rw (input_more h, drop_of_length-le ov k, l)

  turn-heads : i < length iv → listed (get_or id i (pos 0)) ≡ true → j < length ov → heads (get_or iv i 0) (get_or ov j 0) ≡ turn (drop i (entries iv id)) (drop j ov)
  unfolding turn
  turn-heads h l k = rw (input_more h, drop-cons ov j 0 k, l)

  pub turn_less : i < length iv → listed (get_or id i (pos 0)) ≡ true → j < length ov → Less ≡ nat_cmp (get_or iv i 0) (get_or ov j 0) → Input ≡ turn (drop i (entries iv id)) (drop j ov)
  turn_less h l k e = heads_left (get_or iv i 0) (get_or ov j 0) (ranked (get_or iv i 0) (get_or ov j 0) Less e) ∙ turn-heads h l k

  pub turn_greater : i < length iv → listed (get_or id i (pos 0)) ≡ true → j < length ov → Greater ≡ nat_cmp (get_or iv i 0) (get_or ov j 0) → Output ≡ turn (drop i (entries iv id)) (drop j ov)
  turn_greater h l k e = heads_right (get_or iv i 0) (get_or ov j 0) (ranked (get_or iv i 0) (get_or ov j 0) Greater e) ∙ turn-heads h l k

  pub turn_equal : i < length iv → listed (get_or id i (pos 0)) ≡ true → j < length ov → Equal ≡ nat_cmp (get_or iv i 0) (get_or ov j 0) → Both ≡ turn (drop i (entries iv id)) (drop j ov)
  turn_equal h l k e = heads_both (get_or iv i 0) (get_or ov j 0) (ranked (get_or iv i 0) (get_or ov j 0) Equal e) ∙ turn-heads h l k

  -- where the heads stand
  pub turn_in : (n : Turn) → turn (drop i (entries iv id)) (drop j ov) ≡ n → (Output ≡ n → ⊥) → i < length iv
  turn_in n e f = by-test (ltb i (length iv)) (λ h. ltb-true _ _ h) (λ h. other Output n (turn (drop i (entries iv id)) (drop j ov)) (sym (turn_end (ltb-false _ _ h))) e f)

  pub turn_out : (n : Turn) → turn (drop i (entries iv id)) (drop j ov) ≡ n → (Input ≡ n → ⊥) → (Unlisted ≡ n → ⊥) → i + j < length iv + length ov → i ≤ length iv → j < length ov
  turn_out n e f g s ia =
      by-test (ltb j (length ov)) (λ h. ltb-true _ _ h)
      (λ h. let k : length ov ≤ j = ltb-false _ _ h in
      by-test (ltb i (length iv))
      (λ q. let p : i < length iv = ltb-true _ _ q in
      by-test (listed (get_or id i (pos 0))) (λ l. other Input n (turn (drop i (entries iv id)) (drop j ov)) (sym (turn_last p l k)) e f) (λ l. other Unlisted n (turn (drop i (entries iv id)) (drop j ov)) (sym (turn_unlisted p l)) e g))
      (λ q. absurd (omega (arith, ltb-false i (length iv) q))))
