-- The pass that merges two ascending columns of keys and removes equals.
--
-- head_none, head_first, head_both: the lesser head, by which heads there are
-- Merging: what the pass keeps. merging_start, merging_more, merging_end: it does. merging_room, merging_less: there is room, and it moves on
use Prim.Native.Nat.{ℕ, ◌+◌, ◌-◌, ◌≤◌, ◌<◌, min}
use native.Mathlib.Omega.{arith}
use mathlib.Core.Bool.{true}
use mathlib.Core.List.{List, [], ◌∷◌, ◌++◌}
use mathlib.Core.Path.{◌≡◌, refl, sym, ◌∙◌, ap}
use lib.Dec.{eqb, leb, ltb}
use lib.ListN.{length, drop, get_or, set, length-drop, drop_of_length-le}
use lib.Seq.{drop-drop}
use borrow.Author.Tests.{eqb-true, eq-eqb, ne_eqb, ltb-true, ltb-false, le-ltb, leb-true}
use Rattle.grid.specs.Lists.{front, past}
use Rattle.grid.specs.Times.{put, puts}
use Rattle.grid.specs.Slices.{Laid}
use Rattle.grid.proofs.Tests.{by-test}
use Rattle.grid.proofs.Lists.{All, nil, cons, all_imp, all_puts}
use Rattle.grid.proofs.Loops.{drop_more}
use Rattle.grid.proofs.Slices.{Laying, laying_start, laying_more, laying_end}
use Rattle.grid.proofs.Sort.{Sorted, none, more, sorted_drop}
use Rattle.grid.proofs.Operations.{puts-append, put_first, front_fits}
use Rattle.rules.proofs.Order.{past_above, front_past, front_passes}
use Rattle.histories.proofs.Steps.{past_drop}
use Rattle.keys.proofs.Spans.{sorted_rising}
use Rattle.keys.specs.Changed.{lesser_head, LentKeys}

-- ---- the lesser head
module _ (as' : List ℕ) (i : ℕ) (bs : List ℕ) (j : ℕ) where
  pub head_none : length as' ≤ i → j < length bs → get_or bs j 0 ≡ lesser_head (drop i as') (drop j bs)
  unfolding lesser_head
  head_none h k = rw (drop_of_length-le as' h, drop_more bs j 0 k)

  pub head_first : i < length as' → length bs ≤ j → get_or as' i 0 ≡ lesser_head (drop i as') (drop j bs)
  unfolding lesser_head
  head_first h k = rw (drop_more as' i 0 h, drop_of_length-le bs k)

  pub head_both : i < length as' → j < length bs → min (get_or as' i 0) (get_or bs j 0) ≡ lesser_head (drop i as') (drop j bs)
  unfolding lesser_head
  head_both h k = rw (drop_more as' i 0 h, drop_more bs j 0 k)

head_least : {as' bs : List ℕ} → Sorted leb as' → Sorted leb bs → All (λ y. lesser_head as' bs ≤ y) as' × All (λ y. lesser_head as' bs ≤ y) bs
unfolding lesser_head
head_least none none = (nil, nil)
head_least none (more {x = y} h s) = (nil, cons {x = y} (omega arith) (all_imp (λ z t. leb-true y z t) h))
head_least (more {x = x} h s) none = (cons {x = x} (omega arith) (all_imp (λ z t. leb-true x z t) h), nil)
head_least (more {x = x} h s) (more {x = y} g r) =
    (cons {x = x} (omega arith) (all_imp (λ z t. omega (arith, leb-true x z t)) h), cons {x = y} (omega arith) (all_imp (λ z t. omega (arith, leb-true y z t)) g))

-- the key stands at the front of one of the two
head_stands : (as' bs : List ℕ) → 0 < length as' + length bs → 0 < length (front (eqb (lesser_head as' bs)) as') + length (front (eqb (lesser_head as' bs)) bs)
unfolding lesser_head
head_stands [] [] h = absurd (omega arith)
head_stands [] (y ∷ ys) h = rw (eq-eqb y y refl) (omega arith)
head_stands (x ∷ xs) [] h = rw (eq-eqb x x refl) (omega arith)
head_stands (x ∷ xs) (y ∷ ys) h =
    by-test (ltb y x)
    (λ e. let q : min x y ≡ y = omega (arith, ltb-true y x e) in rw (eq-eqb (min x y) y q) (omega arith))
    (λ e. let q : min x y ≡ x = omega (arith, ltb-false y x e) in rw (eq-eqb (min x y) x q) (omega arith))

-- ---- sets of keys
put_there : (x y : ℕ) (us : List ℕ) → eqb x y ≡ true → put y (x ∷ us) ≡ x ∷ us
put_there x y us e = let q : x ≡ y = eqb-true x y e in rw (le-ltb y x (omega arith), eq-eqb y x (sym q))

module _ (x : ℕ) where
  puts_there : {fs : List ℕ} (us : List ℕ) → All (λ y. eqb x y ≡ true) fs → puts fs (x ∷ us) ≡ x ∷ us
  puts_there us nil = refl
  puts_there us (cons {x = y} e h) = ap (put y) (puts_there us h) ∙ put_there x y us e

  puts_some : {fs us : List ℕ} → All (λ y. eqb x y ≡ true) fs → All (λ u. x < u) us → 0 < length fs → puts fs us ≡ x ∷ us
  puts_some nil a h = absurd (omega arith)
  puts_some {us = us} (cons {x = y} e nil) a h = rw (← eqb-true x y e) (put_first x a)
  puts_some {us = us} (cons {x = y} e (cons f g)) a h = ap (put y) (puts_some (cons f g) a (omega arith)) ∙ put_there x y us e

  puts-above : {ys : List ℕ} (us : List ℕ) → All (λ y. x < y) ys → puts ys (x ∷ us) ≡ x ∷ puts ys us
  puts-above us nil = refl
  puts-above us (cons {x = y} {xs = ys} h a) =
      ap (put y) (puts-above us a) ∙ rw (le-ltb y x (omega arith), ne_eqb y x (λ e. omega arith))

  -- the keys that equal x, and those past them
  module _ (as' bs : List ℕ) (over-a : All (λ y. x < y) (past (eqb x) as')) (over-b : All (λ y. x < y) (past (eqb x) bs)) where
    abbrev U : List ℕ
    U = puts (past (eqb x) bs) []

    parted : (l us : List ℕ) → puts l us ≡ puts (front (eqb x) l) (puts (past (eqb x) l) us)
    parted l us = ap (λ z. puts z us) (sym (front_past (eqb x) l)) ∙ puts-append (front (eqb x) l) (past (eqb x) l) us

    over_U : All (λ y. x < y) U
    over_U = all_puts over-b nil

    turned : 0 < length (front (eqb x) as') + length (front (eqb x) bs) → puts (as' ++ bs) [] ≡ x ∷ puts (past (eqb x) as' ++ past (eqb x) bs) []
    turned h =
        puts-append as' bs []
        ∙ by-test (ltb 0 (length (front (eqb x) bs)))
        (λ e. let b : puts bs [] ≡ x ∷ U = parted bs [] ∙ puts_some (front_passes (eqb x) bs) over_U (ltb-true _ _ e) in
        ap (puts as') b ∙ parted as' (x ∷ U) ∙ ap (puts (front (eqb x) as')) (puts-above U over-a) ∙ puts_there (puts (past (eqb x) as') U) (front_passes (eqb x) as'))
        (λ e. let z : length (front (eqb x) bs) ≤ 0 = ltb-false _ _ e in
        let b : puts bs [] ≡ U = parted bs [] ∙ ap (λ l. puts l U) (drop_of_length-le (front (eqb x) bs) {i = 0} z) in
        ap (puts as') b ∙ parted as' U ∙ puts_some (front_passes (eqb x) as') (all_puts over-a over_U) (omega arith))
        ∙ ap (λ l. x ∷ l) (sym (puts-append (past (eqb x) as') (past (eqb x) bs) []))

-- ---- the pass
pub record Merging (new pending out₀ out : List ℕ) (i j k : ℕ) : Type 0 where
  pub lent : LentKeys new pending out₀
  pub in_new : i ≤ length new
  pub in_pending : j ≤ length pending
  pub behind : k ≤ i + j
  pub laying : Laying out₀ out k (puts (drop i new ++ drop j pending) []) (puts (new ++ pending) [])

pub merging_start : {new pending out : List ℕ} → LentKeys new pending out → Merging new pending out out 0 0 0
merging_start {new} {pending} {out} l = record { lent = l; in_new = omega arith; in_pending = omega arith; behind = omega arith; laying = laying_start out (puts (new ++ pending) []) }

module _ {new pending out₀ out : List ℕ} {i j k : ℕ} (m : Merging new pending out₀ out i j k) where
  pub merging_end : length new + length pending ≤ i + j → Laid (puts (new ++ pending) []) out₀ out k
  merging_end h =
      let a : i ≤ length new = m.in_new in
      let b : j ≤ length pending = m.in_pending in
      laying_end m.laying (rw (drop_of_length-le new {i = i} (omega arith), drop_of_length-le pending {i = j} (omega arith)))

  module _ (h : i + j < length new + length pending) where
    pub merging_room : k < length out
    merging_room =
        let r : length new + length pending ≤ length out₀ = m.lent.room in
        let l : length out ≡ length out₀ = m.laying.same in
        let b : k ≤ i + j = m.behind in
        omega arith

    module _ {x i' j' : ℕ} (e : x ≡ lesser_head (drop i new) (drop j pending)) (p : i' ≡ i + length (front (eqb x) (drop i new))) (q : j' ≡ j + length (front (eqb x) (drop j pending))) where
      stands : 0 < length (front (eqb x) (drop i new)) + length (front (eqb x) (drop j pending))
      stands =
          let a : i ≤ length new = m.in_new in
          let b : j ≤ length pending = m.in_pending in
          rw e (head_stands (drop i new) (drop j pending) (rw (length-drop i new, length-drop j pending) (omega arith)))

      past_new : past (eqb x) (drop i new) ≡ drop i' new
      past_new = past_drop (eqb x) (drop i new) ∙ drop-drop _ i new ∙ ap (λ n. drop n new) (sym p)

      past_pending : past (eqb x) (drop j pending) ≡ drop j' pending
      past_pending = past_drop (eqb x) (drop j pending) ∙ drop-drop _ j pending ∙ ap (λ n. drop n pending) (sym q)

      left_is : puts (drop i new ++ drop j pending) [] ≡ x ∷ puts (drop i' new ++ drop j' pending) []
      left_is =
          let s = sorted_drop i m.lent.new_ascends in
          let t = sorted_drop j m.lent.pending_ascends in
          let w = head_least s t in
          turned x (drop i new) (drop j pending) (past_above x (sorted_rising s) (rw e w.0)) (past_above x (sorted_rising t) (rw e w.1)) stands
          ∙ rw (past_new, past_pending)

      within : (i' ≤ length new) × (j' ≤ length pending)
      within =
          let a : i ≤ length new = m.in_new in
          let b : j ≤ length pending = m.in_pending in
          let f : length (front (eqb x) (drop i new)) ≤ length new - i = rw length-drop at (front_fits (eqb x) (drop i new)) in
          let g : length (front (eqb x) (drop j pending)) ≤ length pending - j = rw length-drop at (front_fits (eqb x) (drop j pending)) in
          (omega arith, omega arith)

      pub merging_less : (length new + length pending) - (i' + j') < (length new + length pending) - (i + j)
      merging_less =
          let s : 0 < length (front (eqb x) (drop i new)) + length (front (eqb x) (drop j pending)) = stands in
          omega arith

      pub merging_more : Merging new pending out₀ (set out k x) i' j' (k + 1)
      merging_more =
          let s : 0 < length (front (eqb x) (drop i new)) + length (front (eqb x) (drop j pending)) = stands in
          let b : k ≤ i + j = m.behind in
          record { lent = m.lent; in_new = within.0; in_pending = within.1; behind = omega arith; laying = laying_more m.laying x merging_room left_is }
