-- The decimal text of a number is the only list of digits without a leading zero that has its value.
--
-- Digit: a byte is a digit
-- Text n l: l is a text of n. decimal_text: decimal is one. decimal_only: there is no other
-- number-decimal, number_is: a number is read from its decimal text, and from no other
use Prim.Native.Nat.{ℕ, zero, suc, ◌+◌, ◌-◌, ◌*◌, ◌/◌, ◌%◌, ◌≤◌, ◌<◌, ◌^◌}
use native.Mathlib.Nat.{pow-succ'}
use native.Mathlib.Omega.{arith}
use mathlib.Core.Bool.{Bool, true, false, false≢true}
use mathlib.Core.List.{List, [], ◌∷◌, ◌++◌}
use mathlib.Core.Option.{Option, none, some, some-injective, none-ne-some}
use mathlib.Core.Path.{◌≡◌, refl, sym, ◌∙◌, ap}
use lib.Dec.{leb, ltb, eqb}
use lib.ListN.{length, get_or}
use borrow.Author.Tests.{ltb-true, ltb-false, leb-true, eqb-false, lt-ltb, le-ltb, le-leb, ne_eqb}
use Rattle.grid.specs.Lists.{front, past}
use Rattle.grid.proofs.Tests.{by-test, and_l, and_r}
use Rattle.grid.proofs.Lists.{All, nil, cons, head, tail, all_append, all_l, all_r}
use Rattle.form.specs.Read.{digit, value, plain, up_to, number}
use Rattle.form.specs.Show.{digits, decimal}

pub same_some : {A : Type 0} {x y : A} → ◌≡◌ {A = Option A} (some x) (some y) → x ≡ y
same_some {x = x} {y} e = some-injective x y e

pub not_some : {A C : Type 0} {x : A} → ◌≡◌ {A = Option A} none (some x) → C
not_some {x = x} e = absurd (none-ne-some x e)

abbrev pub Digit : ℕ → Type 0
Digit b = digit b ≡ true

digit_of : (n : ℕ) → n < 10 → Digit (48 + n)
digit_of n h = rw (le-leb 48 (48 + n) (omega arith), le-leb (48 + n) 57 (omega arith))

digit_low : (b : ℕ) → Digit b → 48 ≤ b
digit_low b e = leb-true 48 b (and_l (leb 48 b) (leb b 57) e)

digit_high : (b : ℕ) → Digit b → b ≤ 57
digit_high b e = leb-true b 57 (and_r (leb 48 b) (leb b 57) e)

-- ---- the digits at the front
front_all : {l : List ℕ} (r : List ℕ) → digit (get_or r 0 0) ≡ false → All Digit l → front digit (l ++ r) ≡ l
front_all [] e nil = refl
front_all (b ∷ r) e nil = rw e
front_all r e (cons h d) = rw (h, front_all r e d)

past_all : {l : List ℕ} (r : List ℕ) → digit (get_or r 0 0) ≡ false → All Digit l → past digit (l ++ r) ≡ r
past_all [] e nil = refl
past_all (b ∷ r) e nil = rw e
past_all r e (cons h d) = rw (h, past_all r e d)

front_past : (l : List ℕ) → front digit l ++ past digit l ≡ l
front_past [] = refl
front_past (b ∷ l) = by-test (digit b) (λ e. rw (e, front_past l)) (λ e. rw e)

front_digits : (l : List ℕ) → All Digit (front digit l)
front_digits [] = nil
front_digits (b ∷ l) = by-test (digit b) (λ e. rw e (cons e (front_digits l))) (λ e. rw e nil)

-- ---- values
pub value_grows : (n : ℕ) (s : List ℕ) → n ≤ value n s
unfolding value
value_grows n [] = omega arith
value_grows n (b ∷ s) = let h : n * 10 + (b - 48) ≤ value (n * 10 + (b - 48)) s = value_grows (n * 10 + (b - 48)) s in omega arith

value_snoc : (n b : ℕ) (l : List ℕ) → value n (l ++ (b ∷ [])) ≡ value n l * 10 + (b - 48)
unfolding value
value_snoc n b [] = refl
value_snoc n b (x ∷ l) = value_snoc (n * 10 + (x - 48)) b l

pub digits_small : (k n : ℕ) → n < 10 → digits (suc k) n ≡ (48 + n) ∷ []
unfolding digits
digits_small k n h = rw (lt-ltb n 10 h, digits)

pub digits_step : (k n : ℕ) → 10 ≤ n → digits (suc k) n ≡ digits k (n / 10) ++ ((48 + n % 10) ∷ [])
unfolding digits
digits_step k n h = rw (le-ltb n 10 h, digits)

-- ---- decimal is a text
pub record Text (n : ℕ) (l : List ℕ) : Type 0 where
  pub all : All Digit l
  pub says : value 0 l ≡ n
  pub right : plain l ≡ true
  pub starts : 0 < n → eqb (get_or l 0 0) 48 ≡ false

plain_some : (l : List ℕ) → plain l ≡ true → 0 < length l
unfolding plain
plain_some [] e = absurd (false≢true e)
plain_some (b ∷ l) e = omega arith

plain_snoc : (b : ℕ) (l : List ℕ) → 0 < length l → eqb (get_or l 0 0) 48 ≡ false → plain (l ++ (b ∷ [])) ≡ true
unfolding plain
plain_snoc b [] h e = absurd (omega arith)
plain_snoc b (x ∷ []) h e = rw e
plain_snoc b (x ∷ y ∷ l) h e = rw e

head_snoc : (b : ℕ) (l : List ℕ) → 0 < length l → get_or (l ++ (b ∷ [])) 0 0 ≡ get_or l 0 0
head_snoc b [] h = absurd (omega arith)
head_snoc b (x ∷ l) h = refl

text_one : (n : ℕ) → n < 10 → Text n ((48 + n) ∷ [])
unfolding value plain
text_one n h = record {
  all = cons (digit_of n h) nil;
  says = omega arith;
  right = refl;
  starts = λ p. ne_eqb (48 + n) 48 (λ e. omega arith);
}

text_more : (n : ℕ) {l : List ℕ} → 10 ≤ n → Text (n / 10) l → Text n (l ++ ((48 + n % 10) ∷ []))
text_more n {l} h t =
    let some_digit : 0 < length l = plain_some l t.right in
    record {
      all = all_append t.all (cons (digit_of (n % 10) (omega arith)) nil);
      says = let e : value 0 l ≡ n / 10 = t.says in value_snoc 0 (48 + n % 10) l ∙ omega arith;
      right = plain_snoc (48 + n % 10) l some_digit (t.starts (omega arith));
      starts = λ p. ap (λ x. eqb x 48) (head_snoc (48 + n % 10) l some_digit) ∙ t.starts (omega arith);
    }

digits_text : (k n : ℕ) → n < 10 ^ suc k → Text n (digits (suc k) n)
digits_text zero n h = rw (digits_small zero n h) (text_one n h)
digits_text (suc k) n h = by (ltb n 10) refl (digits_text k (n / 10))
  where
    by : (t : Bool) → ltb n 10 ≡ t → (n / 10 < 10 ^ suc k → Text (n / 10) (digits (suc k) (n / 10))) → Text n (digits (suc (suc k)) n)
    by true e ih = let g : n < 10 = ltb-true n 10 e in rw (digits_small (suc k) n g) (text_one n g)
    by false e ih =
        let q : n < 10 * 10 ^ suc k = rw (pow-succ' 10 (suc k)) at h in
        let g : 10 ≤ n = ltb-false n 10 e in
        rw (digits_step (suc k) n g) (text_more n g (ih (omega arith)))

pub decimal_text : (n : ℕ) → n < 2 ^ 64 → Text n (decimal n)
unfolding decimal
decimal_text n h = digits_text 19 n (omega arith)

-- ---- and the only one
record Last (l : List ℕ) : Type 0 where
  pub front_part : List ℕ
  pub end_byte : ℕ
  pub is : l ≡ front_part ++ (end_byte ∷ [])

last_of : (x : ℕ) (l : List ℕ) → Last (x ∷ l)
last_of x [] = record { front_part = []; end_byte = x; is = refl }
last_of x (y ∷ l) = let r = last_of y l in record { front_part = x ∷ r.front_part; end_byte = r.end_byte; is = ap (λ m. x ∷ m) r.is }

nonzero_value : (x : ℕ) (l : List ℕ) → Digit x → eqb x 48 ≡ false → 0 < value 0 (x ∷ l)
unfolding value
nonzero_value x l d e =
    let a : 48 ≤ x = digit_low x d in
    let n : x ≡ 48 → ⊥ = eqb-false x 48 e in
    let b : 0 * 10 + (x - 48) ≤ value (0 * 10 + (x - 48)) l = value_grows (0 * 10 + (x - 48)) l in
    omega arith

plain_front : (x : ℕ) (l : List ℕ) → eqb x 48 ≡ false → plain (x ∷ l) ≡ true
unfolding plain
plain_front x [] e = refl
plain_front x (y ∷ l) e = rw e

plain_nonzero : (x y : ℕ) (l : List ℕ) → plain (x ∷ y ∷ l) ≡ true → eqb x 48 ≡ false
unfolding plain
plain_nonzero x y l e = by-test (eqb x 48) (λ t. absurd (false≢true (rw t at e))) (λ t. t)

one_digit : (k b : ℕ) → Digit b → digits (suc k) (value 0 (b ∷ [])) ≡ b ∷ []
unfolding value
one_digit k b d =
    let a : 48 ≤ b = digit_low b d in
    let c : b ≤ 57 = digit_high b d in
    digits_small k (0 * 10 + (b - 48)) (omega arith) ∙ ap (λ x. x ∷ []) (let e : 48 + (0 * 10 + (b - 48)) ≡ b = omega arith in e)

-- two or more digits are some with a last one
record Split (l : List ℕ) : Type 0 where
  pub init : List ℕ
  pub end_digit : ℕ
  pub is : l ≡ init ++ (end_digit ∷ [])
  pub all : All Digit init
  pub all_end : Digit end_digit
  pub right : plain init ≡ true
  pub some_value : 0 < value 0 init

split : (x y : ℕ) (l : List ℕ) → All Digit (x ∷ y ∷ l) → plain (x ∷ y ∷ l) ≡ true → Split (x ∷ y ∷ l)
split x y l d p =
    let e : Last (y ∷ l) = last_of y l in
    let t : All Digit (e.front_part ++ (e.end_byte ∷ [])) = rw e.is at (tail d) in
    let n : eqb x 48 ≡ false = plain_nonzero x y l p in
    record {
      init = x ∷ e.front_part;
      end_digit = e.end_byte;
      is = ap (λ m. x ∷ m) e.is;
      all = cons (head d) (all_l e.front_part (e.end_byte ∷ []) t);
      all_end = head (all_r e.front_part (e.end_byte ∷ []) t);
      right = plain_front x e.front_part n;
      some_value = nonzero_value x e.front_part (head d) n;
    }

digits_last : (k : ℕ) {l : List ℕ} (s : Split l) → digits k (value 0 s.init) ≡ s.init → digits (suc k) (value 0 l) ≡ l
digits_last k {l} s ih =
    let v = value 0 s.init in
    let b = s.end_digit in
    let low : 48 ≤ b = digit_low b s.all_end in
    let high : b ≤ 57 = digit_high b s.all_end in
    let n : value 0 l ≡ v * 10 + (b - 48) = ap (value 0) s.is ∙ value_snoc 0 b s.init in
    let pos : 0 < v = s.some_value in
    let q : value 0 l / 10 ≡ v = omega arith in
    let r : 48 + value 0 l % 10 ≡ b = omega arith in
    digits_step k (value 0 l) (omega arith) ∙ (rw (q, r, ih) (sym s.is))

split_large : {l : List ℕ} (s : Split l) → 10 * value 0 s.init ≤ value 0 l
split_large {l} s =
    let n : value 0 l ≡ value 0 s.init * 10 + (s.end_digit - 48) = ap (value 0) s.is ∙ value_snoc 0 s.end_digit s.init in
    omega arith

abbrev Only : ℕ → Type 0
Only k = (l : List ℕ) → All Digit l → plain l ≡ true → value 0 l < 10 ^ k → digits k (value 0 l) ≡ l

only_first : Only 1
only_first [] d p h = let z : 0 < 0 = plain_some [] p in absurd (omega arith)
only_first (b ∷ []) d p h = one_digit 0 b (head d)
only_first (x ∷ y ∷ l) d p h =
    let s : Split (x ∷ y ∷ l) = split x y l d p in
    let m : 10 * value 0 s.init ≤ value 0 (x ∷ y ∷ l) = split_large s in
    let z : 0 < value 0 s.init = s.some_value in
    absurd (omega arith)

only_next : (k : ℕ) → Only (suc k) → Only (suc (suc k))
only_next k ih [] d p h = let z : 0 < 0 = plain_some [] p in absurd (omega arith)
only_next k ih (b ∷ []) d p h = one_digit (suc k) b (head d)
only_next k ih (x ∷ y ∷ l) d p h =
    let s : Split (x ∷ y ∷ l) = split x y l d p in
    let m : 10 * value 0 s.init ≤ value 0 (x ∷ y ∷ l) = split_large s in
    let q : value 0 (x ∷ y ∷ l) < 10 * 10 ^ suc k = rw (pow-succ' 10 (suc k)) at h in
    digits_last (suc k) s (ih s.init s.all s.right (omega arith))

digits_only : (k : ℕ) → Only (suc k)
digits_only zero = only_first
digits_only (suc k) = only_next k (digits_only k)

pub decimal_only : (l : List ℕ) → All Digit l → plain l ≡ true → value 0 l < 2 ^ 64 → decimal (value 0 l) ≡ l
unfolding decimal
decimal_only l d p h = digits_only 19 l d p (omega arith)

-- ---- reading it
pub number-decimal : (most n : ℕ) (r : List ℕ) → n ≤ most → n < 2 ^ 64 → digit (get_or r 0 0) ≡ false → number most (decimal n ++ r) ≡ some (n, r)
unfolding number up_to
number-decimal most n r h k e =
    let t : Text n (decimal n) = decimal_text n k in
    rw (front_all r e t.all, past_all r e t.all, t.right, t.says, le-leb n most h)

pub record Number (most : ℕ) (s : List ℕ) (n : ℕ) (r : List ℕ) : Type 0 where
  pub is : s ≡ decimal n ++ r
  pub small : n ≤ most

pub number_is : (most : ℕ) (s : List ℕ) {n : ℕ} {r : List ℕ} → most < 2 ^ 64 → number most s ≡ some (n, r) → Number most s n r
unfolding number up_to
number_is most s {n} {r} m e = by-test (plain (front digit s)) right (λ p. not_some (rw p at e))
  where
    right : plain (front digit s) ≡ true → Number most s n r
    right p = by-test (leb (value 0 (front digit s)) most)
        (λ t.
        let h : value 0 (front digit s) ≤ most = leb-true _ _ t in
        let q : ◌≡◌ {A = ℕ × List ℕ} (value 0 (front digit s), past digit s) (n, r) = same_some (rw (p, t) at e) in
        record {
          is = sym (front_past s) ∙ ap (λ l. l ++ past digit s) (sym (decimal_only (front digit s) (front_digits s) p (omega arith))) ∙ (λ i. decimal (q i).0 ++ (q i).1);
          small = rw (ap (λ x. x.0) q) at h;
        })
        (λ t. not_some (rw (p, t) at e))
