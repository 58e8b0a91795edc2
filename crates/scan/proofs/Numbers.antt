-- What the steps of the scanner come to in the readers of `form`: digits, numbers, words, diffs.
--
-- Counting: the digits so far make n, and n with the digits still to come is what `up_to` reads from the start
-- plain_zero, plain_other: whether digits are a number without leading zeros. number_read, -bad, -not: a number at a place
-- word_is, word_not: a word at a place. minus_none, -zero, -all, plus_none, -all: the cases of a diff
use Rattle.std.proofs.Common.{◌≡◌, ◌≢◌, refl, sym, ◌∙◌, ap, arith, ℕ, zero, suc, ◌+◌, ◌-◌, ◌*◌, ◌/◌, ◌^◌, ◌≤◌, ◌<◌, add-one, Bool, true, false, not, cond, List, [], ◌∷◌, leb, eqb, length, drop, take, get_or, nat_eq, ℤ, pos, negsuc, drop-cons}
use Rattle.std.proofs.Math.Option.{none, some}
use Rattle.std.proofs.lemmas.Bool.{eqb-true, eqb-false, eq-eqb}
use Rattle.std.specs.List.{starts_with}
use lib.ListN.{drop_of_length-le}
use Rattle.std.proofs.lemmas.List.{drop-drop}
use lib.Signed.{mag}
use mir.Syntax.{w64}
use mir.Val.{to_z, of_z}
use Rattle.grid.proofs.Signed.{back}
use borrow.Author.Tests.{leb-true, le-leb, lt-leb, ne_eqb}
use Rattle.grid.proofs.Tests.{by-test}
use Rattle.grid.specs.Lists.{front}
use Rattle.form.proofs.Digits.{value_grows}
use Rattle.form.specs.Read.{then, word, digit, value, plain, up_to, number, max63, negated, signed}

-- ---- a number, digit by digit
up_to_more : (most n b : ℕ) (s : List ℕ) → digit b ≡ true → up_to most n (b ∷ s) ≡ up_to most (n * 10 + (b - 48)) s
unfolding up_to value
up_to_more most n b s e = rw e

up_to_stop : (most n b : ℕ) (s : List ℕ) → n ≤ most → digit b ≡ false → up_to most n (b ∷ s) ≡ some (n, b ∷ s)
unfolding up_to value
up_to_stop most n b s h e = rw (e, le-leb n most h)

up_to_none : (most n : ℕ) → n ≤ most → up_to most n [] ≡ some (n, [])
unfolding up_to value
up_to_none most n h = rw (le-leb n most h)

up_to_over : (most n : ℕ) (s : List ℕ) → most < n → up_to most n s ≡ none
unfolding up_to
up_to_over most n s h = let k : n ≤ value n (front digit s) = value_grows n (front digit s) in rw (lt-leb (value n (front digit s)) most (omega arith))

digit_below : (b : ℕ) → digit b ≡ true → b ≤ 57
digit_below b e = by-test (leb b 57) (λ t. leb-true b 57 t) (λ t. by-test (leb 48 b) (λ u. let d : false ≡ true = rw (t, u) at e in absurd (cc)) (λ u. let d : false ≡ true = rw u at e in absurd (cc)))

-- ---- the loop over the digits
pub record Counting (s : List ℕ) (most n at : ℕ) : Type 0 where
  pub small : n ≤ most
  pub same : up_to most n (drop at s) ≡ up_to most 0 s

module _ {s : List ℕ} {most n at : ℕ} (c : Counting s most n at) where
  pub counting_end : length s ≤ at → at ≤ length s → some (n, drop (length s) s) ≡ up_to most 0 s
  counting_end h k = let q : length s ≤ length s = omega arith in rw (← c.same, drop_of_length-le s h, drop_of_length-le s q) (sym (up_to_none most n c.small))

  module _ (h : at < length s) where
    pub counting_stop : digit (get_or s at 0) ≡ false → some (n, drop at s) ≡ up_to most 0 s
    counting_stop e = rw (← c.same, drop-cons s at 0 h) (sym (up_to_stop most n (get_or s at 0) (drop (suc at) s) c.small e))

    module _ (d : ℕ) (e : digit (get_or s at 0) ≡ true) (is : d ≡ get_or s at 0 - 48) (big : 9 ≤ most) where
      more : up_to most (n * 10 + d) (drop (suc at) s) ≡ up_to most 0 s
      more = rw is (sym (up_to_more most n (get_or s at 0) (drop (suc at) s) e) ∙ (rw (drop-cons s at 0 h) at c.same))

      pub counting_over : (most - d) / 10 < n → none ≡ up_to most 0 s
      counting_over k = sym (up_to_over most (n * 10 + d) (drop (suc at) s) (omega (arith, digit_below (get_or s at 0) e))) ∙ more

      pub counting_more : n ≤ (most - d) / 10 → Counting s most (n * 10 + d) (at + 1)
      counting_more k = record { small = omega (arith, digit_below (get_or s at 0) e); same = rw (add-one at) more }

-- ---- the first bytes
pub plain_zero : (s : List ℕ) (k : ℕ) → 1 ≤ length s → length s ≤ k + 1 → get_or s 0 0 ≡ 48 → {d : Bool} → d ≡ digit (get_or (take k (drop 1 s)) 0 0) → not d ≡ plain (front digit s)
unfolding plain
plain_zero [] k h l e f = absurd (omega arith)
plain_zero (b ∷ []) zero h l e f = rw (f, e)
plain_zero (b ∷ []) (suc k) h l e f = rw (f, e)
plain_zero (b ∷ c ∷ s) zero h l e f = absurd (omega arith)
plain_zero (b ∷ c ∷ s) (suc k) h l e f = rw f (by-test (digit c) (λ t. rw (t, e)) (λ t. rw (t, e)))

pub plain_other : (s : List ℕ) → 1 ≤ length s → get_or s 0 0 ≢ 48 → digit (get_or s 0 0) ≡ plain (front digit s)
unfolding plain
plain_other [] h n = refl
plain_other (b ∷ []) h n = by-test (digit b) (λ t. rw t) (λ t. rw t)
plain_other (b ∷ c ∷ s) h n = let e : eqb b 48 ≡ false = ne_eqb b 48 n in by-test (digit b) (λ t. by-test (digit c) (λ u. rw (t, u, e)) (λ u. rw (t, u))) (λ t. rw t)

pub plain_none : (s : List ℕ) → length s < 1 → false ≡ plain (front digit s)
unfolding plain
plain_none [] h = refl
plain_none (b ∷ s) h = absurd (omega arith)

-- ---- words
word_cases : (w s : List ℕ) → cond (starts_with nat_eq s w) (some (drop (length w) s)) none ≡ word w s
unfolding word
word_cases [] s = refl
word_cases (c ∷ w) [] = refl
word_cases (c ∷ w) (b ∷ s) = by-test (eqb b c) (λ e. rw (e, eq-eqb c b (sym (eqb-true b c e))) (word_cases w s)) (λ e. rw (e, ne_eqb c b (λ q. eqb-false b c e (sym q))))

module _ (w s : List ℕ) (at : ℕ) {t : Bool} (value : t ≡ starts_with nat_eq (drop at s) w) where
  pub word_is : t ≡ true → some (drop (at + length w) s) ≡ word w (drop at s)
  word_is e = let q : starts_with nat_eq (drop at s) w ≡ true = sym value ∙ e in ap some (sym (drop-drop (length w) at s)) ∙ (rw q at (word_cases w (drop at s)))

  pub word_not : t ≡ false → none ≡ word w (drop at s)
  word_not e = let q : starts_with nat_eq (drop at s) w ≡ false = sym value ∙ e in (rw q at (word_cases w (drop at s)))

-- ---- a number at a place
module _ (most : ℕ) (s : List ℕ) (at : ℕ) {t : Bool} (value : t ≡ plain (front digit (drop at s))) where
  pub number_not : t ≡ false → none ≡ number most (drop at s)
  unfolding number
  number_not e = rw (← value, e)

  number_is : t ≡ true → up_to most 0 (drop at s) ≡ number most (drop at s)
  unfolding number
  number_is e = rw (← value, e)

  pub number_bad : t ≡ true → none ≡ up_to most 0 (drop at s) → none ≡ number most (drop at s)
  number_bad e f = f ∙ number_is e

  pub number_read : (n count : ℕ) → t ≡ true → some (n, drop count (drop at s)) ≡ up_to most 0 (drop at s) → some (n, drop (at + count) s) ≡ number most (drop at s)
  number_read n count e f = ap (λ r. some (n, r)) (sym (drop-drop count at s)) ∙ f ∙ number_is e

-- ---- a diff
signed_minus : (s : List ℕ) {r : List ℕ} → some r ≡ word (45 ∷ []) s → then (number (suc max63) r) negated ≡ signed s
unfolding signed word
signed_minus [] e = absurd (cc)
signed_minus (b ∷ s) {r} e = by-test (eqb b 45) (λ q. let d : some r ≡ some s = rw q at e in let p : r ≡ s = cc in rw (q, p)) (λ q. let d : some r ≡ none = rw q at e in absurd (cc))

signed_plain : (s : List ℕ) → none ≡ word (45 ∷ []) s → then (number max63 s) (λ n. some (pos n.0, n.1)) ≡ signed s
unfolding signed word number plain
signed_plain [] e = refl
signed_plain (b ∷ s) e = by-test (eqb b 45) (λ q. let d : none ≡ some s = rw q at e in absurd (cc)) (λ q. rw q)

module _ (s : List ℕ) where
  module _ {r : List ℕ} (minus : some r ≡ word (45 ∷ []) s) where
    pub minus_none : none ≡ number (suc max63) r → none ≡ signed s
    minus_none e = rw (← signed_minus s minus, ← e)

    pub minus_zero : {n : ℕ} {r' : List ℕ} → some (n, r') ≡ number (suc max63) r → n ≡ 0 → none ≡ signed s
    unfolding negated
    minus_zero e z = rw (← signed_minus s minus, ← e, z)

    pub minus_all : {n : ℕ} {r' : List ℕ} {z : ℤ} → some (n, r') ≡ number (suc max63) r → 0 < n → z ≡ negsuc (n - 1) → some (z, r') ≡ signed s
    unfolding negated
    minus_all {n} {r'} e h q = rw (← signed_minus s minus, ← e, q) (go n h)
      where
        go : (m : ℕ) → 0 < m → some (negsuc (m - 1), r') ≡ negated (m, r')
        go zero k = absurd (omega arith)
        go (suc m) k = let i : suc m - 1 ≡ m = omega arith in rw i

  module _ (plus : none ≡ word (45 ∷ []) s) where
    pub plus_none : none ≡ number max63 s → none ≡ signed s
    plus_none e = rw (← signed_plain s plus, ← e)

    pub plus_all : {n : ℕ} {r : List ℕ} {z : ℤ} → some (n, r) ≡ number max63 s → z ≡ pos n → some (z, r) ≡ signed s
    plus_all e q = rw (← signed_plain s plus, ← e, q)

-- a diff that goes through a local is read back from its bits
pub kept : (z : ℤ) {x : ℤ} → z ≡ x → mag x < 2 ^ 63 → to_z w64 (of_z w64 z) ≡ x
kept z e h = ap (λ y. to_z w64 (of_z w64 y)) e ∙ back h
