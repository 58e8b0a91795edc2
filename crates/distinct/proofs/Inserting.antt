-- Putting a time into a set where halving finds its place.
--
-- rising: a set ascends. Halving: what the loop keeps that halves it. halving_down, belongs_next: a later half is greater, and the place after one that is less
-- inserted_same: the time stands there already. inserted_new: it does not, and the later elements are turned by one, with the time at their end
use Prim.Native.Nat.{ℕ, zero, suc, ◌≤◌, ◌<◌, ◌+◌, ◌-◌, ◌/◌}
use native.Mathlib.Omega.{arith}
use native.Mathlib.Numerals.{add-one}
use mathlib.Core.Bool.{true}
use mathlib.Core.List.{List, [], ◌∷◌, ◌++◌, append_assoc}
use mathlib.Core.Path.{◌≡◌, sym, ◌∙◌, ap}
use lib.Dec.{ltb}
use lib.ListN.{length, take, drop, get_or, set, length-append, length-drop, take-append-drop}
use lib.Seq.{set_split, take_at, drop_at, length-take-le, take-append-le}
use borrow.Author.Tests.{eq-eqb, ne_eqb, ltb-true, lt-ltb, le-ltb}
use borrow.Rule.Slice.PartMut.{put_mid}
use Rattle.std.proofs.lemmas.List.{drop-append-le}
use Rattle.grid.specs.Lists.{ascending}
use Rattle.grid.specs.Times.{put}
use Rattle.grid.proofs.Consolidate.{strict_ltb}
use Rattle.grid.proofs.Loops.{all_get_d}
use Rattle.grid.proofs.Ascending.{ascending_rest, ascending_above}
use Rattle.grid.proofs.Sort.{Sorted, none, more}
use Rattle.distinct.specs.Sets.{BelongsAt, Inserted}

sorted_ascending : (l : List ℕ) → ascending ltb l ≡ true → Sorted ltb l
sorted_ascending [] e = none
sorted_ascending (x ∷ l) e = more (ascending_above ltb strict_ltb x l e) (sorted_ascending l (ascending_rest ltb x l e))

first_less : {x : ℕ} {l : List ℕ} (i : ℕ) → Sorted ltb (x ∷ l) → i < length l → x < get_or l i 0
first_less {x} {l} i (more a s) h = ltb-true x (get_or l i 0) (all_get_d l i 0 a h)

sorted_rest : {x : ℕ} {l : List ℕ} → Sorted ltb (x ∷ l) → Sorted ltb l
sorted_rest (more a s) = s

rises : (l : List ℕ) → Sorted ltb l → (i j : ℕ) → i ≤ j → j < length l → get_or l i 0 ≤ get_or l j 0
rises [] s i j h k = absurd (omega arith)
rises (x ∷ l) s zero zero h k = omega arith
rises (x ∷ l) s zero (suc j) h k =
    let p : x < get_or l j 0 = first_less j s (let z : suc j < suc (length l) = k in omega arith) in
    omega arith
rises (x ∷ l) s (suc i) zero h k = absurd (omega arith)
rises (x ∷ l) s (suc i) (suc j) h k = rises l (sorted_rest s) i j (omega arith) (let z : suc j < suc (length l) = k in omega arith)

pub rising : (l : List ℕ) → ascending ltb l ≡ true → (i j : ℕ) → i ≤ j → j < length l → get_or l i 0 ≤ get_or l j 0
rising l e = rises l (sorted_ascending l e)

-- ---- the loop: past the size elements from place on all are greater than t, and the one at place, once it is not the first, is not
pub record Halving (t : ℕ) (l : List ℕ) (place here size : ℕ) : Type 0 where
  pub some : 1 ≤ size
  pub within : place + size ≤ length l
  pub here_is : here ≡ get_or l place 0
  pub reached : 0 < place → here ≤ t
  pub above : (k : ℕ) → place + size ≤ k → k < length l → t < get_or l k 0

module _ {t : ℕ} {l : List ℕ} {place here size : ℕ} (a : ascending ltb l ≡ true) (m : Halving t l place here size) where
  pub halving_down : 1 < size → t < get_or l (place + size / 2) 0 → Halving t l place here (size - size / 2)
  halving_down h g =
      let w : place + size ≤ length l = m.within in
      record {
        some = omega arith;
        within = omega arith;
        here_is = m.here_is;
        reached = m.reached;
        above = λ k p q. let r : get_or l (place + size / 2) 0 ≤ get_or l k 0 = rising l a (place + size / 2) k (omega arith) q in omega arith;
      }

  pub belongs_next : size ≤ 1 → here < t → BelongsAt t l (place + 1)
  belongs_next h g =
      let s : 1 ≤ size = m.some in
      let w : place + size ≤ length l = m.within in
      let e : here ≡ get_or l place 0 = m.here_is in
      record {
        within = omega arith;
        below = λ k p. let r : get_or l k 0 ≤ get_or l place 0 = rising l a k place (omega arith) (omega arith) in omega arith;
        above = λ k p q. m.above k (omega arith) q;
      }

-- ---- putting
put_here : (t : ℕ) (l : List ℕ) (i : ℕ) → Sorted ltb l → i < length l → get_or l i 0 ≡ t → put t l ≡ l
put_here t [] i s h e = absurd (omega arith)
put_here t (x ∷ l) zero s h e = let q : x ≡ t = e in rw (le-ltb t x (omega arith), eq-eqb t x (sym q))
put_here t (x ∷ l) (suc i) s h e =
    let h' : i < length l = (let z : suc i < suc (length l) = h in omega arith) in
    let p : x < get_or l i 0 = first_less i s h' in
    let q : get_or l i 0 ≡ t = e in
    let k : x < t = omega arith in
    rw (le-ltb t x (omega arith), ne_eqb t x (λ z. omega arith)) (ap (λ r. x ∷ r) (put_here t l i (sorted_rest s) h' q))

put_between : (t : ℕ) (l : List ℕ) (i : ℕ) → i ≤ length l → ((k : ℕ) → k < i → get_or l k 0 < t) → ((k : ℕ) → i ≤ k → k < length l → t < get_or l k 0)
    → put t l ≡ take i l ++ t ∷ drop i l
put_between t [] i h b a = let e : i ≡ 0 = omega arith in rw e
put_between t (u ∷ l) zero h b a = let k : t < u = a 0 (omega arith) (omega arith) in rw (lt-ltb t u k)
put_between t (u ∷ l) (suc i) h b a =
    let k : u < t = b 0 (omega arith) in
    let n : i ≤ length l = (let z : suc i ≤ suc (length l) = h in omega arith) in
    rw (le-ltb t u (omega arith), ne_eqb t u (λ z. omega arith))
    (ap (λ r. u ∷ r) (put_between t l i n (λ k p. b (suc k) (omega arith)) (λ k p q. a (suc k) (omega arith) (omega arith))))

-- ---- the elements from place to count, with t at their end, turned by one
module _ (s : List ℕ) (t count place : ℕ) (h : place ≤ count) (k : count < length s) where
  length_front : length (take count s) ≡ count
  length_front = length-take-le count s (omega arith)

  length_later : length (drop place (take count s)) ≡ count - place
  length_later = length-drop place (take count s) ∙ ap (λ n. n - place) length_front

  set_is : set s count t ≡ take count s ++ t ∷ drop (count + 1) s
  set_is = set_split s count t k ∙ ap (λ n. take count s ++ t ∷ drop n s) (sym (add-one count))

  later_is : drop place (set s count t) ≡ (drop place (take count s) ++ t ∷ []) ++ drop (count + 1) s
  later_is = ap (drop place) set_is ∙ drop-append-le place (take count s) _ (let l = length_front in omega arith) ∙ sym (append_assoc _ (t ∷ []) _)

  length_part : length (drop place (take count s) ++ t ∷ []) ≡ count + 1 - place
  length_part = length-append (drop place (take count s)) (t ∷ []) ∙ (let l = length_later in omega arith)

  part_is : take (count + 1 - place) (drop place (set s count t)) ≡ drop place (take count s) ++ t ∷ []
  part_is = ap (take (count + 1 - place)) later_is ∙ take_at _ _ _ length_part

  rest_is : drop (count + 1 - place) (drop place (set s count t)) ≡ drop (count + 1) s
  rest_is = ap (drop (count + 1 - place)) later_is ∙ drop_at _ _ _ length_part

  front_is : take place (set s count t) ≡ take place (take count s)
  front_is = ap (take place) set_is ∙ take-append-le place (take count s) _ (let l = length_front in omega arith)

  pub turned : (r p : List ℕ) → p ≡ take (count + 1 - place) (drop place (set s count t)) → r ≡ drop (length p - 1) p ++ take (length p - 1) p
      → put_mid place (count + 1 - place) (set s count t) r ≡ (take place (take count s) ++ t ∷ drop place (take count s)) ++ drop (count + 1) s
  turned r p e f =
      let q : p ≡ drop place (take count s) ++ t ∷ [] = e ∙ part_is in
      let n : length (drop place (take count s)) ≡ length p - 1 = (let l = length_part in let m = ap length q in let l' = length_later in omega arith) in
      let turn : r ≡ t ∷ drop place (take count s) =
      f ∙ (λ i. drop (length p - 1) (q i) ++ take (length p - 1) (q i)) ∙ (λ i. drop_at (drop place (take count s)) (t ∷ []) _ n i ++ take_at (drop place (take count s)) (t ∷ []) _ n i) in
      (λ i. front_is i ++ (turn i ++ rest_is i)) ∙ sym (append_assoc (take place (take count s)) (t ∷ drop place (take count s)) (drop (count + 1) s))

-- ---- the whole
module _ (t count : ℕ) (s : List ℕ) (big : count < length s) where
  pub inserted_same : (i : ℕ) → ascending ltb (take count s) ≡ true → i < length (take count s) → get_or (take count s) i 0 ≡ t → Inserted t count s s count
  inserted_same i a h e =
      let same : put t (take count s) ≡ take count s = put_here t (take count s) i (sorted_ascending _ a) h e in
      record {
        count_is = sym (ap length same ∙ length-take-le count s (omega arith));
        exit_is = sym (ap (λ r. r ++ drop count s) same ∙ take-append-drop count s);
      }

  pub inserted_new : {z : List ℕ} (i : ℕ) → i ≤ length (take count s) → ((k : ℕ) → k < i → get_or (take count s) k 0 < t)
      → ((k : ℕ) → i ≤ k → k < length (take count s) → t < get_or (take count s) k 0)
      → z ≡ (take i (take count s) ++ t ∷ drop i (take count s)) ++ drop (count + 1) s → Inserted t count s z (count + 1)
  inserted_new i h b a f =
      let l : length (take count s) ≡ count = length-take-le count s (omega arith) in
      let put_is : put t (take count s) ≡ take i (take count s) ++ t ∷ drop i (take count s) = put_between t (take count s) i h b a in
      record {
        count_is = sym (ap length put_is ∙ length-append (take i (take count s)) (t ∷ drop i (take count s))
            ∙ (let p : length (take i (take count s)) ≡ i = length-take-le i (take count s) h in
            let q : length (drop i (take count s)) ≡ length (take count s) - i = length-drop i (take count s) in
            omega arith));
        exit_is = f ∙ ap (λ r. r ++ drop (count + 1) s) (sym put_is);
      }
