-- A step of a history, for any test: what passes at the front of what is ahead, and what its move to the buffer leaves.
--
-- ends_more, ends_here, ends_over: a loop looks for where the front ends; the entry at i passes, does not pass, all is read
-- slid: a column whose entries from `at` up to `to` were moved down to `count`. slid_copied: so `copy_within` leaves it
-- front_take, past_drop: the front of a list and what follows it, by the front's length
-- steps_within, steps: what passes, moved to the buffer, is a step. steps_one: so is the next entry alone
use Prim.Native.Nat.{ℕ, suc, ◌+◌, ◌-◌, ◌≤◌, ◌<◌}
use native.Mathlib.Omega.{arith}
use mathlib.Core.Bool.{Bool, true, false, not}
use mathlib.Core.List.{List, [], ◌∷◌, ◌++◌}
use mathlib.Core.Path.{◌≡◌, refl, sym, ◌∙◌, ap, ap₂}
use lib.Dec.{ltb}
use lib.ListN.{length, take, drop, get_or, length-append, length-drop, drop_of_length-le}
use lib.Seq.{slice, drop-drop, drop_at, length-take-le, take-add, length-slice}
use borrow.Author.Tests.{ltb-true, ltb-false, lt-ltb, le-ltb}
use Rattle.std.specs.List.{copy_within}
use Rattle.grid.specs.Lists.{front, past, is_empty}
use Rattle.grid.proofs.Tests.{by-test}
use Rattle.grid.proofs.Loops.{drop_more}
use Rattle.grid.specs.Slices.{laid, Laid}
use Rattle.grid.proofs.Slices.{laid_fits, laid_front, laid_back, drop-later}
use Rattle.grid.proofs.Operations.{front_fits}
use Rattle.rules.specs.Histories.{Edit, stepped, moved}
use Rattle.rules.specs.Wave.{step_one}
use Rattle.histories.specs.Places.{history_of, Placed, Steps, StepsOne}
use Rattle.histories.specs.declared.Place.{Place}
use Rattle.histories.specs.declared.Stepped.{Stepped}

-- ---- where the front ends
module _ {A : Type 0} (p : A → Bool) (l : List A) (i : ℕ) {a : ℕ} where
  pub ends_more : (d : A) → i < length l → p (get_or l i d) ≡ true → i + length (front p (drop i l)) ≡ a → (i + 1) + length (front p (drop (i + 1) l)) ≡ a
  ends_more d h t e =
      let s : length (front p (drop i l)) ≡ suc (length (front p (drop (i + 1) l))) = rw (drop_more l i d h, t) in
      omega arith

  pub ends_here : (d : A) → i < length l → p (get_or l i d) ≡ false → i + length (front p (drop i l)) ≡ a → i ≡ a
  ends_here d h t e =
      let s : length (front p (drop i l)) ≡ 0 = rw (drop_more l i d h, t) in
      omega arith

  pub ends_over : length l ≤ i → i + length (front p (drop i l)) ≡ a → i ≡ a
  ends_over h e =
      let s : length (front p (drop i l)) ≡ 0 = rw (drop_of_length-le l h) in
      omega arith

-- ---- entries moved down
module _ {A : Type 0} where
  abbrev pub slid : List A → ℕ → ℕ → ℕ → List A
  slid s count at to = laid (take count s ++ slice at to s) s

  slice-take : (l : List A) (at n : ℕ) → at ≤ length l → slice at (at + n) l ≡ take n (drop at l)
  slice-take l at n h = ap (drop at) (take-add at n l) ∙ drop_at (take at l) (take n (drop at l)) at (length-take-le at l h)

  -- what `copy_within` leaves
  pub slid_copied : (s : List A) (count at to : ℕ) → count ≤ at → at ≤ to → to ≤ length s → copy_within s at to count ≡ slid s count at to
  slid_copied s count at to h k l =
      let n : at + (to - at) ≡ to = omega arith in
      let t : slice at to s ≡ take (to - at) (drop at s) = ap (λ m. slice at m s) (sym n) ∙ slice-take s at (to - at) (omega arith) in
      let w : length (take count s ++ slice at to s) ≡ count + (to - at) = length-append (take count s) (slice at to s) ∙ ap₂ ◌+◌ (length-take-le count s (omega arith)) (length-slice at to s l) in
      rw (laid_fits (take count s ++ slice at to s) s (omega arith), w, t)

-- ---- the front, by its length
module _ {A : Type 0} (p : A → Bool) where
  pub front_take : (xs : List A) → front p xs ≡ take (length (front p xs)) xs
  front_take [] = refl
  front_take (x ∷ xs) = by-test (p x) (λ e. rw e (ap (λ r. x ∷ r) (front_take xs))) (λ e. rw e)

  pub past_drop : (xs : List A) → past p xs ≡ drop (length (front p xs)) xs
  past_drop [] = refl
  past_drop (x ∷ xs) = by-test (p x) (λ e. rw e (past_drop xs)) (λ e. rw e)

  some_moved : (xs : List A) → ltb 0 (length (front p xs)) ≡ moved p xs
  unfolding moved
  some_moved xs = go (front p xs)
    where
      go : (ys : List A) → ltb 0 (length ys) ≡ not (is_empty ys)
      go [] = refl
      go (y ∷ ys) = lt-ltb 0 (suc (length ys)) (omega arith)

-- ---- a step
module _ {A : Type 0} (col : List A) (p : Place) {to : ℕ} (w : Placed (length col) p) (f : p.at ≤ to) (g : to ≤ length col) {col' : List A} (s : col' ≡ slid col p.count p.at to) where
  laid_here : Laid (take p.count col ++ slice p.at to col) col col' (p.count + (to - p.at))
  laid_here =
      let b : p.count ≤ p.at = w.behind in
      record {
        counted = sym (length-append (take p.count col) (slice p.at to col) ∙ ap₂ ◌+◌ (length-take-le p.count col (omega arith)) (length-slice p.at to col g));
        holds = s;
      }

  laid_within : length (take p.count col ++ slice p.at to col) ≤ length col
  laid_within =
      let b : p.count ≤ p.at = w.behind in
      omega (arith, laid_here.counted)

  moves_placed : Placed (length col) (record { count = p.count + (to - p.at); at = to })
  moves_placed =
      let b : p.count ≤ p.at = w.behind in
      record { behind = omega arith; within = g }

  moves_ahead : drop to col' ≡ drop to col
  moves_ahead =
      let b : p.count ≤ p.at = w.behind in
      drop-later col' col (p.count + (to - p.at)) to (omega arith) (laid_back laid_here laid_within)

  moves_buffer : take (p.count + (to - p.at)) col' ≡ take p.count col ++ slice p.at to col
  moves_buffer = laid_front laid_here laid_within

module _ {A : Type 0} (pass : A → Bool) (col : List A) (p : Place) {to : ℕ} (w : Placed (length col) p) (e : to ≡ p.at + length (front pass (drop p.at col))) where
  -- what is asked of the columns that are moved
  pub steps_within : (p.count ≤ p.at) × ((p.at ≤ to) × (to ≤ length col))
  steps_within =
      let b : p.at ≤ length col = w.within in
      let f : length (front pass (drop p.at col)) ≤ length col - p.at = rw length-drop at (front_fits pass (drop p.at col)) in
      (w.behind, (omega arith, omega arith))

  front_slice : slice p.at to col ≡ front pass (drop p.at col)
  front_slice = rw (e, slice-take col p.at _ w.within) (sym (front_take pass (drop p.at col)))

  past_here : drop to col ≡ past pass (drop p.at col)
  past_here = rw e (sym (past_drop pass (drop p.at col) ∙ drop-drop _ p.at col))

  some_here : ltb p.at to ≡ moved pass (drop p.at col)
  some_here =
      by-test (ltb 0 (length (front pass (drop p.at col))))
      (λ t. let h : 0 < length (front pass (drop p.at col)) = ltb-true _ _ t in lt-ltb p.at to (omega arith) ∙ sym t ∙ some_moved pass (drop p.at col))
      (λ t. let h : length (front pass (drop p.at col)) ≤ 0 = ltb-false _ _ t in le-ltb p.at to (omega arith) ∙ sym t ∙ some_moved pass (drop p.at col))

  pub steps : {col' : List A} {r : Stepped} → col' ≡ slid col p.count p.at to → r ≡ record { place = record { count = p.count + (to - p.at); at = to }; moved = ltb p.at to } → Steps pass col p col' r
  unfolding history_of stepped
  steps {col'} s told = rw told
      (let f : p.at ≤ to = steps_within.1.0 in
      let g : to ≤ length col = steps_within.1.1 in
      record {
        placed = moves_placed col p w f g s;
        history = λ i. record { ahead = (moves_ahead col p w f g s ∙ past_here) i; buffer = (moves_buffer col p w f g s ∙ ap (λ xs. take p.count col ++ xs) front_slice) i };
        told = some_here;
        holds = s ∙ ap (λ xs. laid (take p.count col ++ xs) col) front_slice;
        same_ahead = moves_ahead col p w f g s;
      })

-- one entry
pub steps_one : (col : List Edit) (p : Place) {col' : List Edit} → Placed (length col) p → p.at < length col → col' ≡ slid col p.count p.at (p.at + 1) → StepsOne col p col' (record { count = p.count + 1; at = p.at + 1 })
unfolding history_of step_one
steps_one col p {col'} w h s =
    let f : p.at ≤ p.at + 1 = omega arith in
    let g : p.at + 1 ≤ length col = omega arith in
    let n : p.at + 1 - p.at ≡ 1 = omega arith in
    let t : slice p.at (p.at + 1) col ≡ take 1 (drop p.at col) = slice-take col p.at 1 w.within in
    let b : take (p.count + 1) col' ≡ take p.count col ++ take 1 (drop p.at col) = ap (λ k. take (p.count + k) col') (sym n) ∙ moves_buffer col p w f g s ∙ ap (λ xs. take p.count col ++ xs) t in
    record {
      placed = rw n at (moves_placed col p w f g s);
      history = λ i. record { ahead = (moves_ahead col p w f g s ∙ sym (drop-drop 1 p.at col)) i; buffer = b i };
      holds = s ∙ ap (λ xs. laid (take p.count col ++ xs) col) t;
      same_ahead = moves_ahead col p w f g s;
    }
