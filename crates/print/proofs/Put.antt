-- Texts that are put one after the other.
--
-- Writing goal out₀ from out at rest: a text is put piece by piece: what was put so far, and then the rest, is the goal
use Prim.Native.Nat.{ℕ, suc, ◌+◌, ◌≤◌, ◌<◌}
use native.Mathlib.Nat.{add-zero, add-suc, suc-add}
use native.Mathlib.Numerals.{add-one}
use native.Mathlib.Omega.{arith}
use mathlib.Core.Bool.{true, false}
use mathlib.Core.List.{List, [], ◌∷◌, ◌++◌, append-nil, append_assoc}
use mathlib.Core.Path.{◌≡◌, refl, sym, ◌∙◌, ap}
use lib.Dec.{ltb}
use lib.IntN.{ℤ}
use lib.ListN.{length, drop, take, get_or, set, length-append, drop_of_length-le}
use lib.Seq.{take-length, sets, length-sets, drop-cons, set_out}
use borrow.Author.Tests.{ltb-true, ltb-false}
use Rattle.grid.proofs.Tests.{by-test}
use Rattle.grid.specs.Times.{hi, lo}
use Rattle.form.specs.Read.{the_row}
use Rattle.form.specs.Show.{decimal, signed_decimal, show_time, show_more, show_list, show_row, show_pair}
use Rattle.print.specs.Put.{Put, show_key_value}

sets_past : (xs l : List ℕ) (i : ℕ) → length l ≤ i → sets l i xs ≡ l
sets_past [] l i h = refl
sets_past (x ∷ xs) l i h = ap (λ r. sets r (suc i) xs) (set_out l i x h) ∙ sets_past xs l (suc i) (omega arith)

sets_append : (xs ys out : List ℕ) (at : ℕ) → sets out at (xs ++ ys) ≡ sets (sets out at xs) (at + length xs) ys
sets_append [] ys out at = rw (add-zero at)
sets_append (x ∷ xs) ys out at = sets_append xs ys (set out at x) (suc at) ∙ ap (λ n. sets (sets (set out at x) (suc at) xs) n ys) (suc-add at (length xs) ∙ sym (add-suc at (length xs)))

pub put_long : {xs out out' : List ℕ} {at r : ℕ} → Put xs out out' at r → length out' ≡ length out
put_long {xs} {out} {at = at} p = ap length p.holds ∙ length-sets out at xs

pub put_is : {xs ys out out' : List ℕ} {at r : ℕ} → xs ≡ ys → Put xs out out' at r → Put ys out out' at r
put_is {out = out} {out'} {at} {r} e p = rw e at p

pub put_none : (out : List ℕ) (at : ℕ) → Put [] out out at at
put_none out at = record { holds = refl; fits = λ h. omega arith; over = λ h. omega arith }

module _ {xs ys out out₁ out₂ : List ℕ} {at k r : ℕ} (p : Put xs out out₁ at k) (q : Put ys out₁ out₂ k r) where
  both_long : length (xs ++ ys) ≡ length xs + length ys
  both_long = length-append xs ys

  one_slice : length out₁ ≡ length out
  one_slice = put_long p

  append_fits : at + length (xs ++ ys) ≤ length out → r ≡ at + length (xs ++ ys)
  append_fits h =
      let a : k ≡ at + length xs = p.fits (omega (arith, both_long)) in
      let b : r ≡ k + length ys = q.fits (omega (arith, both_long, one_slice)) in
      omega (arith, both_long)

  append-over : length out < at + length (xs ++ ys) → length out < r
  append-over h = by-test (ltb (length out) (at + length xs)) past inside
    where
      past : ltb (length out) (at + length xs) ≡ true → length out < r
      past e =
          let a : length out < k = p.over (ltb-true _ _ e) in
          let b : length out₁ < r = q.over (omega (arith, one_slice)) in
          omega (arith, one_slice)

      inside : ltb (length out) (at + length xs) ≡ false → length out < r
      inside e =
          let a : k ≡ at + length xs = p.fits (ltb-false _ _ e) in
          let b : length out₁ < r = q.over (omega (arith, both_long, one_slice)) in
          omega (arith, one_slice)

  append_holds : out₂ ≡ sets out at (xs ++ ys)
  append_holds = q.holds ∙ by-test (ltb (length out) (at + length xs)) past inside ∙ sym (sets_append xs ys out at)
    where
      first : out₁ ≡ sets out at xs
      first = p.holds

      past : ltb (length out) (at + length xs) ≡ true → sets out₁ k ys ≡ sets (sets out at xs) (at + length xs) ys
      past e =
          let a : length out < at + length xs = ltb-true _ _ e in
          let b : length out < k = p.over a in
          sets_past ys out₁ k (omega (arith, one_slice)) ∙ first ∙ sym (sets_past ys (sets out at xs) (at + length xs) (let l : length (sets out at xs) ≡ length out = length-sets out at xs in omega arith))

      inside : ltb (length out) (at + length xs) ≡ false → sets out₁ k ys ≡ sets (sets out at xs) (at + length xs) ys
      inside e = λ i. sets (first i) (p.fits (ltb-false _ _ e) i) ys

  pub put-append : Put (xs ++ ys) out out₂ at r
  put-append = record { holds = append_holds; fits = append_fits; over = append-over }

-- ---- piece by piece
pub record Writing (goal out₀ : List ℕ) (from : ℕ) (out : List ℕ) (at : ℕ) (rest : List ℕ) : Type 0 where
  pub text : List ℕ
  pub whole : text ++ rest ≡ goal
  pub put : Put text out₀ out from at

pub writing_start : (goal out : List ℕ) (from : ℕ) → Writing goal out from out from goal
writing_start goal out from = record { text = []; whole = refl; put = put_none out from }

module _ {goal out₀ : List ℕ} {from : ℕ} {out : List ℕ} {at : ℕ} {rest : List ℕ} (w : Writing goal out₀ from out at rest) where
  pub writing_more : {xs rest' out' : List ℕ} {r : ℕ} → xs ++ rest' ≡ rest → Put xs out out' at r → Writing goal out₀ from out' r rest'
  writing_more {xs} {rest'} e p = record {
    text = w.text ++ xs;
    whole = append_assoc w.text xs rest' ∙ ap (λ l. w.text ++ l) e ∙ w.whole;
    put = put-append w.put p;
  }

  pub writing_end : [] ≡ rest → Put goal out₀ out from at
  writing_end e = put_is (sym (append-nil w.text) ∙ ap (λ l. w.text ++ l) e ∙ w.whole) w.put

-- ---- what texts are made of
pub time_parts : (t : ℕ) {a b : ℕ} → a ≡ hi t → b ≡ lo t → decimal a ++ (58 ∷ []) ++ decimal b ≡ show_time t
unfolding show_time
time_parts t e f = rw (e, f)

pub pair_parts : (k t : ℕ) → decimal k ++ (44 ∷ []) ++ show_time t ≡ show_pair (k, t)
unfolding show_pair
pair_parts k t = refl

pub key_value_parts : (k v : ℕ) → decimal k ++ (44 ∷ []) ++ decimal v ++ (44 ∷ []) ≡ show_key_value k v
unfolding show_key_value
key_value_parts k v = refl

-- the diff went through a local
pub row_parts : (k v t : ℕ) {d z : ℤ} → z ≡ d → show_key_value k v ++ show_time t ++ (44 ∷ []) ++ signed_decimal z ≡ show_row (the_row k v t d)
unfolding show_row show_key_value
row_parts k v t e = rw e

pub more_none : (ts : List ℕ) (i : ℕ) → length ts ≤ i → [] ≡ show_more (drop i ts)
unfolding show_more
more_none ts i h = rw (drop_of_length-le ts h)

pub more_some : (ts : List ℕ) (i : ℕ) → i < length ts → ((59 ∷ []) ++ show_time (get_or ts i 0)) ++ show_more (drop (i + 1) ts) ≡ show_more (drop i ts)
unfolding show_more
more_some ts i h = rw (add-one i, drop-cons ts i 0 h)

pub list_none : (ts : List ℕ) → length ts < 1 → (45 ∷ []) ≡ show_list ts
unfolding show_list
list_none [] h = refl
list_none (t ∷ ts) h = absurd (omega arith)

pub list_some : (ts : List ℕ) (k : ℕ) → 1 ≤ length ts → length ts ≡ k + 1 → show_time (get_or ts 0 0) ++ show_more (take k (drop 1 ts)) ≡ show_list ts
unfolding show_list
list_some [] k h l = absurd (omega arith)
list_some (t ∷ ts) k h l = let e : k ≡ length ts = omega arith in rw (e, take-length ts)

-- a word, byte by byte
pub word_none : (w : List ℕ) (i : ℕ) → length w ≤ i → [] ≡ drop i w
word_none w i h = sym (drop_of_length-le w h)

pub word_some : (w : List ℕ) (i : ℕ) → i < length w → (get_or w i 0 ∷ []) ++ drop (i + 1) w ≡ drop i w
word_some w i h = rw (add-one i, drop-cons w i 0 h)
