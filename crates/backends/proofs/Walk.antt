-- The walk that appends what distinct wants of a summed input, minus a summed output.
--
-- Differing: the entries before i of the input and before j of the output are dealt with, and what they give stands before k
-- take_left, take_right, take_both, take_neither, pass_over, differing_end: the walk keeps that
-- here_v, here_d, in-*: the places that a turn reads and writes. diff_small, stored_neg, stored_less: the numbers that it makes
use Prim.Native.Nat.{ℕ, ◌+◌, ◌-◌, ◌<◌, ◌≤◌, ◌^◌}
use native.Mathlib.Omega.{arith}
use native.Mathlib.Numerals.{add-one}
use mathlib.Core.Bool.{true, false}
use mathlib.Core.Path.{◌≡◌, sym, ◌∙◌, ap, subst}
use mathlib.Core.List.{List, [], ◌∷◌}
use lib.Dec.{ltb}
use lib.IntN.{ℤ, pos, ◌+ℤ◌, neg_ℤ, nat_abs}
use lib.Signed.{mag}
use lib.ListN.{length, drop, get_or, set, drop_of_length-le}
use mir.Syntax.{w64}
use mir.Val.{to_z, of_z}
use Rattle.grid.proofs.Signed.{back}
use Rattle.grid.specs.Consolidate.{is_zero, unless_zero}
use Rattle.grid.proofs.Loops.{all_get_d}
use Rattle.grid.proofs.Consolidate.{Canon}
use Rattle.rules.specs.Backends.{Sums, distinct, minus}
use Rattle.diffs.specs.Diffs.{modest}
use Rattle.backends.specs.declared.correction.Turn.{Turn}
use Rattle.backends.specs.declared.correction.Turn.TheVariants.{Input, Output, Both, Unlisted}
use Rattle.backends.specs.Columns.{entries, values_of, Appended}
use Rattle.backends.specs.Correct.{distinct_minus, turn, Ready}
use Rattle.grid.proofs.Operations.{map-drop}
use Rattle.diffs.proofs.Signed.{in_local}
use Rattle.backends.proofs.Columns.{length-entries, values_entries, Filling, filling_is, filling_more, filling_end}
use Rattle.backends.proofs.Turns.{canon_drop, left_step, right_step, both_step, pass_step, input_more, turn_in, turn_out}

module _ (iv : List ℕ) (id : List ℤ) (ov : List ℕ) (od : List ℤ) where
  -- what is still to be written
  abbrev pub left : ℕ → ℕ → Sums
  left i j = distinct_minus (drop i (entries iv id)) (drop j (entries ov od))

pub record Differing (iv : List ℕ) (id : List ℤ) (ov : List ℕ) (od : List ℤ) (at : ℕ) (cv₀ : List ℕ) (cd₀ : List ℤ) (cv : List ℕ) (cd : List ℤ) (i j k : ℕ) : Type 0 where
  pub asks : Ready iv id ov od cv₀ cd₀ at
  pub ia : i ≤ length iv
  pub jb : j ≤ length ov
  pub room : k + (length iv - i) + (length ov - j) ≤ length cv₀
  pub done : Filling cv₀ cd₀ at (left iv id ov od 0 0) cv cd k (left iv id ov od i j)

module _ {iv : List ℕ} {id : List ℤ} {ov : List ℕ} {od : List ℤ} {at : ℕ} {cv₀ : List ℕ} {cd₀ : List ℤ} {cv : List ℕ} {cd : List ℤ} {i j k : ℕ} (m : Differing iv id ov od at cv₀ cd₀ cv cd i j k) where
  same_i : length id ≡ length iv
  same_i = m.asks.same_i

  same_o : length od ≡ length ov
  same_o = m.asks.same_o

  values_here : values_of (drop j (entries ov od)) ≡ drop j ov
  values_here = map-drop _ j (entries ov od) ∙ ap (drop j) (values_entries ov od same_o)

  in_more : i < length iv → drop i (entries iv id) ≡ (get_or iv i 0, get_or id i (pos 0)) ∷ drop (i + 1) (entries iv id)
  in_more h = rw add-one (input_more iv id i ov j same_i h)

  out_more : j < length ov → drop j (entries ov od) ≡ (get_or ov j 0, get_or od j (pos 0)) ∷ drop (j + 1) (entries ov od)
  out_more h = rw add-one (input_more ov od j ov j same_o h)

  canon_in : Canon ltb (drop i (entries iv id))
  canon_in = canon_drop i m.asks.canon_i

  canon_out : Canon ltb (drop j (entries ov od))
  canon_out = canon_drop j m.asks.canon_o

  abbrev Taken : Turn → Type 0
  Taken n = turn (drop i (entries iv id)) (drop j ov) ≡ n

  told : {n : Turn} → Taken n → turn (drop i (entries iv id)) (values_of (drop j (entries ov od))) ≡ n
  told e = ap (turn (drop i (entries iv id))) values_here ∙ e

  pub here_v : i + j < length iv + length ov → k < length cv
  here_v h =
      let a : i ≤ length iv = m.ia in
      let b : j ≤ length ov = m.jb in
      let r : k + (length iv - i) + (length ov - j) ≤ length cv₀ = m.room in
      let s : length cv ≡ length cv₀ = m.done.values.same in
      omega arith

  pub here_d : i + j < length iv + length ov → k < length cd
  here_d h =
      let a : k < length cv = here_v h in
      let s : length cv ≡ length cv₀ = m.done.values.same in
      let t : length cd ≡ length cd₀ = m.done.diffs.same in
      let u : length cd₀ ≡ length cv₀ = m.asks.same_c in
      omega arith

  pub in_left : Taken Input → i < length iv
  in_left e = turn_in iv id i ov j same_i Input e (λ z. cc)

  pub in_right : i + j < length iv + length ov → Taken Output → (j < length ov) × (j < length od)
  in_right h e =
      let s : length od ≡ length ov = same_o in
      let q : j < length ov = turn_out iv id i ov j same_i Output e (λ z. cc) (λ z. cc) h m.ia in
      (q, omega arith)

  pub in_both : i + j < length iv + length ov → Taken Both → (i < length iv) × ((j < length ov) × (j < length od))
  in_both h e =
      let s : length od ≡ length ov = same_o in
      let q : j < length ov = turn_out iv id i ov j same_i Both e (λ z. cc) (λ z. cc) h m.ia in
      (turn_in iv id i ov j same_i Both e (λ z. cc), (q, omega arith))

  pub in_pass : Taken Unlisted → i < length iv
  in_pass e = turn_in iv id i ov j same_i Unlisted e (λ z. cc)

  module _ (h : j < length od) where
    diff-modest : nat_abs (get_or od j (pos 0)) ≤ 2 ^ 48
    diff-modest = all_get_d {P = modest} od j (pos 0) m.asks.small_o h

    diff_local : to_z w64 (of_z w64 (get_or od j (pos 0))) ≡ get_or od j (pos 0)
    diff_local = in_local (get_or od j (pos 0)) (let b : nat_abs (get_or od j (pos 0)) ≤ 2 ^ 48 = diff-modest in omega arith)

    pub diff_small : modest (to_z w64 (of_z w64 (get_or od j (pos 0))))
    diff_small = rw diff_local diff-modest

    pub stored_neg : {R : ℤ} → mag R < 2 ^ 63 → R ≡ neg_ℤ (to_z w64 (of_z w64 (get_or od j (pos 0)))) → to_z w64 (of_z w64 R) ≡ neg_ℤ (get_or od j (pos 0))
    stored_neg b e = back b ∙ e ∙ ap neg_ℤ diff_local

    pub stored_less : {R : ℤ} → mag R < 2 ^ 63 → R ≡ pos 1 +ℤ neg_ℤ (to_z w64 (of_z w64 (get_or od j (pos 0)))) → to_z w64 (of_z w64 R) ≡ pos 1 +ℤ neg_ℤ (get_or od j (pos 0))
    stored_less b e = back b ∙ e ∙ ap (λ z. pos 1 +ℤ neg_ℤ z) diff_local

  -- a turn that writes (v, d), and one that writes nothing
  write : (i' j' : ℕ) (v : ℕ) (d : ℤ) → i + j < length iv + length ov → i' ≤ length iv → j' ≤ length ov → i + j < i' + j' → i ≤ i' → j ≤ j'
      → left iv id ov od i j ≡ (v, d) ∷ left iv id ov od i' j' → Differing iv id ov od at cv₀ cd₀ (set cv k v) (set cd k d) i' j' (k + 1)
  write i' j' v d h a b g p q e =
      let r : k + (length iv - i) + (length ov - j) ≤ length cv₀ = m.room in
      record { asks = m.asks; ia = a; jb = b; room = omega arith; done = filling_more m.done v d (here_v h) (here_d h) e }

  skip : (i' j' : ℕ) → i' ≤ length iv → j' ≤ length ov → i ≤ i' → j ≤ j' → left iv id ov od i j ≡ left iv id ov od i' j' → Differing iv id ov od at cv₀ cd₀ cv cd i' j' k
  skip i' j' a b p q e =
      let r : k + (length iv - i) + (length ov - j) ≤ length cv₀ = m.room in
      record { asks = m.asks; ia = a; jb = b; room = omega arith; done = filling_is m.done e }

  pub take_left : i + j < length iv + length ov → Taken Input → Differing iv id ov od at cv₀ cd₀ (set cv k (get_or iv i 0)) (set cd k (pos 1)) (i + 1) j (k + 1)
  take_left h e =
      let g = in_left e in
      let q = in_more g in
      write (i + 1) j (get_or iv i 0) (pos 1) h (omega arith) m.jb (omega arith) (omega arith) (omega arith)
      (ap (λ l. distinct_minus l (drop j (entries ov od))) q
      ∙ left_step (get_or iv i 0, get_or id i (pos 0)) (drop (i + 1) (entries iv id)) (drop j (entries ov od)) (subst (Canon ltb) q canon_in) canon_out
      (ap (λ l. turn l (values_of (drop j (entries ov od)))) (sym q) ∙ told e))

  pub take_right : (d : ℤ) → d ≡ neg_ℤ (get_or od j (pos 0)) → i + j < length iv + length ov → Taken Output → Differing iv id ov od at cv₀ cd₀ (set cv k (get_or ov j 0)) (set cd k d) i (j + 1) (k + 1)
  take_right d z h e =
      let g = (in_right h e).0 in
      let q = out_more g in
      write i (j + 1) (get_or ov j 0) d h m.ia (omega arith) (omega arith) (omega arith) (omega arith)
      (ap (distinct_minus (drop i (entries iv id))) q
      ∙ right_step (drop i (entries iv id)) (get_or ov j 0, get_or od j (pos 0)) (drop (j + 1) (entries ov od)) canon_in (subst (Canon ltb) q canon_out)
      (ap (λ l. turn (drop i (entries iv id)) (values_of l)) (sym q) ∙ told e)
      ∙ ap (λ y. (get_or ov j 0, y) ∷ left iv id ov od i (j + 1)) (sym z))

  both_is : (d : ℤ) → d ≡ pos 1 +ℤ neg_ℤ (get_or od j (pos 0)) → i + j < length iv + length ov → Taken Both → left iv id ov od i j ≡ unless_zero (get_or iv i 0) d (left iv id ov od (i + 1) (j + 1))
  both_is d z h e =
      let p = in_more (in_both h e).0 in
      let q = out_more (in_both h e).1.0 in
      let p' = sym p in
      let q' = sym q in
      (λ t. distinct_minus (p t) (q t))
      ∙ both_step (get_or iv i 0, get_or id i (pos 0)) (drop (i + 1) (entries iv id)) (get_or ov j 0, get_or od j (pos 0)) (drop (j + 1) (entries ov od)) (subst (Canon ltb) p canon_in) (subst (Canon ltb) q canon_out)
      ((λ t. turn (p' t) (values_of (q' t))) ∙ told e)
      ∙ ap (λ y. unless_zero (get_or iv i 0) y (left iv id ov od (i + 1) (j + 1))) (sym z)

  pub take_both : (d : ℤ) → d ≡ pos 1 +ℤ neg_ℤ (get_or od j (pos 0)) → is_zero d ≡ false → i + j < length iv + length ov → Taken Both
      → Differing iv id ov od at cv₀ cd₀ (set cv k (get_or iv i 0)) (set cd k d) (i + 1) (j + 1) (k + 1)
  take_both d z n h e =
      let g : i < length iv = (in_both h e).0 in
      let g' : j < length ov = (in_both h e).1.0 in
      write (i + 1) (j + 1) (get_or iv i 0) d h (omega arith) (omega arith) (omega arith) (omega arith) (omega arith) (both_is d z h e ∙ rw n)

  pub take_neither : (d : ℤ) → d ≡ pos 1 +ℤ neg_ℤ (get_or od j (pos 0)) → is_zero d ≡ true → i + j < length iv + length ov → Taken Both → Differing iv id ov od at cv₀ cd₀ cv cd (i + 1) (j + 1) k
  take_neither d z n h e =
      let g : i < length iv = (in_both h e).0 in
      let g' : j < length ov = (in_both h e).1.0 in
      skip (i + 1) (j + 1) (omega arith) (omega arith) (omega arith) (omega arith) (both_is d z h e ∙ rw n)

  pub pass_over : Taken Unlisted → Differing iv id ov od at cv₀ cd₀ cv cd (i + 1) j k
  pass_over e =
      let g = in_pass e in
      let q = in_more g in
      skip (i + 1) j (omega arith) m.jb (omega arith) (omega arith)
      (ap (λ l. distinct_minus l (drop j (entries ov od))) q
      ∙ pass_step (get_or iv i 0, get_or id i (pos 0)) (drop (i + 1) (entries iv id)) (drop j (entries ov od)) (ap (λ l. turn l (values_of (drop j (entries ov od)))) (sym q) ∙ told e))

  pub differing_end : length iv + length ov ≤ i + j → Appended cv₀ cd₀ at (distinct_minus (entries iv id) (entries ov od)) cv cd k
  unfolding distinct_minus distinct minus
  differing_end h =
      let a : i ≤ length iv = m.ia in
      let b : j ≤ length ov = m.jb in
      let l : length (entries iv id) ≡ length iv = length-entries iv id same_i in
      let l' : length (entries ov od) ≡ length ov = length-entries ov od same_o in
      let p : drop i (entries iv id) ≡ [] = drop_of_length-le (entries iv id) {i = i} (omega arith) in
      let q : drop j (entries ov od) ≡ [] = drop_of_length-le (entries ov od) {i = j} (omega arith) in
      filling_end m.done (λ t. distinct_minus (p t) (q t))
