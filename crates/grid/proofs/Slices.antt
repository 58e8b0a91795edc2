-- A list written over the front of a slice, the rest of which stays as it was.
--
-- laid_fits, laid-length: what it is where there is room, and its length. laid_front, laid_back: what it holds up to the list's end, and past it
-- laid-twice: a longer list laid over what was laid before
-- laid_none, laid_one: a single element, where there is no room and where there is
-- Laying s₀ s k rest goal: a loop has written the goal but for `rest` to the first k of s₀. laying_start, laying_more: the loop keeps that
-- laying_read: what lies ahead of k is as it was. laying_end, laying_over: nothing is left, or no room is
-- Removing p s₀ count s k i: a loop has gone through the first i of `count` elements, and the first k now are those that pass p
-- removing_start, removing_pass, removing_keep, removing_end: the loop keeps that
-- Moving s₀ count goal s moved i: a loop that moves elements up has come to i with one in its hand. moving_start, moving_more, moving_end: the loop keeps that
use Prim.Native.Nat.{ℕ, ◌+◌, ◌-◌, ◌≤◌, ◌<◌, min}
use native.Mathlib.Omega.{arith}
use mathlib.Core.Bool.{Bool, true, false}
use mathlib.Core.List.{List, [], ◌∷◌, ◌++◌, append-nil}
use mathlib.Core.Path.{◌≡◌, refl, sym, ◌∙◌, ap}
use lib.ListN.{length, take, drop, get_or, set, length-append, length-take, length-drop, length-set, take-append-drop, drop_of_length-le}
use lib.Seq.{length-take-le, take_all, take-length, take_at, drop_at, take-append-le, drop-drop, get_or-take}
use Rattle.grid.specs.Lists.{keep}
use Rattle.grid.proofs.Loops.{put_more, drop_more, ahead_set, ahead_get_or}
use Rattle.grid.specs.Slices.{laid, Laid}

module _ {A : Type 0} where
  pub drop-later : (s s₀ : List A) (k i : ℕ) → k ≤ i → drop k s ≡ drop k s₀ → drop i s ≡ drop i s₀
  drop-later s s₀ k i h e =
      let n : k + (i - k) ≡ i = omega arith in
      ap (λ m. drop m s) (sym n) ∙ sym (drop-drop (i - k) k s) ∙ ap (drop (i - k)) e ∙ drop-drop (i - k) k s₀ ∙ ap (λ m. drop m s₀) n

  pub laid_fits : (xs s : List A) → length xs ≤ length s → laid xs s ≡ xs ++ drop (length xs) s
  unfolding laid
  laid_fits xs s h = take_all (length s) (xs ++ drop (length xs) s) (simp (length-append, length-drop) (omega arith))

  pub laid-length : (xs s : List A) → length (laid xs s) ≡ length s
  unfolding laid
  laid-length xs s = simp (length-take, length-append, length-drop) (omega arith)

  -- a slice that holds the list and then what was there
  pub laid_from : (xs s s' : List A) (k : ℕ) → k ≤ length s → length s' ≡ length s → take k s' ≡ xs → drop k s' ≡ drop k s → Laid xs s s' k
  laid_from xs s s' k h l e d =
      let n : k ≡ length xs = sym (length-take-le k s' (omega arith)) ∙ ap length e in
      record { counted = n; holds = sym (take-append-drop k s') ∙ rw (e, d, n) (sym (laid_fits xs s (omega arith))) }

  module _ {xs s s' : List A} {k : ℕ} (h : Laid xs s s' k) (f : length xs ≤ length s) where
    pub laid_front : take k s' ≡ xs
    laid_front = rw (h.holds, laid_fits xs s f) (take_at xs (drop (length xs) s) k (sym h.counted))

    pub laid_back : drop k s' ≡ drop k s
    laid_back = rw (h.holds, laid_fits xs s f) (drop_at xs (drop (length xs) s) k (sym h.counted) ∙ ap (λ n. drop n s) (sym h.counted))

  pub laid-twice : {xs ys s s₁ s₂ : List A} {k r : ℕ} → Laid xs s s₁ k → Laid ys s₁ s₂ r → length xs ≤ length ys → length ys ≤ length s → Laid ys s s₂ r
  laid-twice {xs} {ys} {s} {s₁} {s₂} {k} {r} a b h f =
      let l : length s₁ ≡ length s = ap length a.holds ∙ laid-length xs s in
      let k≤r : k ≤ r = omega (arith, a.counted, b.counted) in
      let ahead : drop r s₁ ≡ drop r s = drop-later s₁ s k r k≤r (laid_back a (omega arith)) in
      laid_from ys s s₂ r (omega (arith, b.counted)) (ap length b.holds ∙ laid-length ys s₁ ∙ l) (laid_front b (omega arith)) (laid_back b (omega arith) ∙ ahead)

-- a single element
pub laid_none : {A : Type 0} (x : A) (s : List A) → length s ≡ 0 → (0 ≡ min 1 (length s)) × (s ≡ laid (x ∷ []) s)
unfolding laid
laid_none x [] e = (refl, refl)
laid_none x (y ∷ s) e = absurd (omega arith)

pub laid_one : {A : Type 0} (x : A) (s : List A) → (length s ≡ 0 → ⊥) → (1 ≡ min 1 (length s)) × (set s 0 x ≡ laid (x ∷ []) s)
unfolding laid
laid_one x [] e = absurd (e refl)
laid_one x (y ∷ s) e = (omega arith, ap (λ l. x ∷ l) (sym (take-length s)))

pub record Laying {A : Type 0} (s₀ s : List A) (k : ℕ) (rest goal : List A) : Type 0 where
  pub within : k ≤ length s
  pub same : length s ≡ length s₀
  pub done : take k s ++ rest ≡ goal
  pub ahead : drop k s ≡ drop k s₀

module _ {A : Type 0} where
  pub laying_start : (s goal : List A) → Laying s s 0 goal goal
  laying_start s goal = record { within = omega arith; same = refl; done = refl; ahead = refl }

  module _ {s₀ s : List A} {k : ℕ} {rest goal : List A} (w : Laying s₀ s k rest goal) where
    pub laying_more : (x : A) {rest' : List A} → k < length s → rest ≡ x ∷ rest' → Laying s₀ (set s k x) (k + 1) rest' goal
    laying_more x h e =
        record {
          within = simp length-set (omega arith);
          same = simp length-set w.same;
          done = put_more s k x h w.done e;
          ahead = ahead_set s s₀ k k x (omega arith) w.ahead;
        }

    laying_read : (i : ℕ) (d : A) → k ≤ i → get_or s i d ≡ get_or s₀ i d
    laying_read i d h = ahead_get_or s s₀ i d (drop-later s s₀ k i h w.ahead)

    -- what is still to be read of the first `count`
    pub laying_next : (i count : ℕ) (d : A) → k ≤ i → i < count → count ≤ length s → drop i (take count s₀) ≡ get_or s i d ∷ drop (i + 1) (take count s₀)
    laying_next i count d h l f =
        let e : length s ≡ length s₀ = w.same in
        drop_more (take count s₀) i d (rw (length-take-le count s₀ (omega arith)) l)
        ∙ ap (λ x. x ∷ drop (i + 1) (take count s₀)) (get_or-take count s₀ i d l ∙ sym (laying_read i d h))

    pub laying_end : rest ≡ [] → Laid goal s₀ s k
    laying_end e =
        let l : length s ≡ length s₀ = w.same in
        let b : k ≤ length s = w.within in
        laid_from goal s₀ s k (omega arith) l (sym (append-nil (take k s)) ∙ ap (λ r. take k s ++ r) (sym e) ∙ w.done) w.ahead

    -- the slice is full, and more is left
    pub laying_over : length s ≤ k → s ≡ laid goal s₀
    unfolding laid
    laying_over h =
        let l : length s ≡ length s₀ = w.same in
        let e : s ++ rest ≡ goal = rw (take_all k s h) at w.done in
        rw (← e, ← l) (sym (take-append-le (length s) (s ++ rest) _ (simp length-append (omega arith)) ∙ take_at s rest (length s) refl))

-- ---- elements removed in place
pub record Removing {A : Type 0} (p : A → Bool) (s₀ : List A) (count : ℕ) (s : List A) (k i : ℕ) : Type 0 where
  pub behind : k ≤ i
  pub within : i ≤ count
  pub fits : count ≤ length s
  pub laying : Laying s₀ s k (keep p (drop i (take count s₀))) (keep p (take count s₀))

pub removing_start : {A : Type 0} (p : A → Bool) (s : List A) (count : ℕ) → count ≤ length s → Removing p s count s 0 0
removing_start p s count h = record { behind = omega arith; within = omega arith; fits = h; laying = laying_start s (keep p (take count s)) }

module _ {A : Type 0} {p : A → Bool} {s₀ : List A} {count : ℕ} {s : List A} {k i : ℕ} (w : Removing p s₀ count s k i) (d : A) where
  next : i < count → drop i (take count s₀) ≡ get_or s i d ∷ drop (i + 1) (take count s₀)
  next h = laying_next w.laying i count d w.behind h w.fits

  pub removing_pass : i < count → p (get_or s i d) ≡ false → Removing p s₀ count s k (i + 1)
  removing_pass h e =
      let b : k ≤ i = w.behind in
      let q : keep p (drop i (take count s₀)) ≡ keep p (drop (i + 1) (take count s₀)) = rw (next h, e) in
      record { behind = omega arith; within = omega arith; fits = w.fits; laying = rw q at w.laying }

  pub removing_keep : i < count → p (get_or s i d) ≡ true → Removing p s₀ count (set s k (get_or s i d)) (k + 1) (i + 1)
  removing_keep h e =
      let b : k ≤ i = w.behind in
      let f : count ≤ length s = w.fits in
      record { behind = omega arith; within = omega arith; fits = simp length-set f; laying = laying_more w.laying (get_or s i d) (omega arith) (rw (next h, e)) }

  pub removing_end : count ≤ i → (k ≤ count) × Laid (keep p (take count s₀)) s₀ s k
  removing_end h =
      let l : length s ≡ length s₀ = w.laying.same in
      let f : count ≤ length s = w.fits in
      let b : k ≤ i = w.behind in
      let v : i ≤ count = w.within in
      (omega arith, laying_end w.laying (rw (drop_of_length-le (take count s₀) {i = i} (rw (length-take-le count s₀ (omega arith)) h))))

-- ---- elements moved up by one
pub record Moving {A : Type 0} (s₀ : List A) (count : ℕ) (goal : List A) (s : List A) (moved : A) (i : ℕ) : Type 0 where
  pub within : i ≤ count
  pub fits : count < length s
  pub laying : Laying s₀ s i (moved ∷ drop i (take count s₀)) goal

pub moving_start : {A : Type 0} (s : List A) (count place : ℕ) (x : A) → count < length s → place ≤ count → Moving s count (take place s ++ x ∷ drop place (take count s)) s x place
moving_start s count place x h p = record { within = p; fits = h; laying = record { within = omega arith; same = refl; done = refl; ahead = refl } }

module _ {A : Type 0} {s₀ : List A} {count : ℕ} {goal s : List A} {moved : A} {i : ℕ} (w : Moving s₀ count goal s moved i) where
  pub moving_more : (d : A) → i < count → Moving s₀ count goal (set s i moved) (get_or s i d) (i + 1)
  moving_more d h =
      let f : count < length s = w.fits in
      record {
        within = omega arith;
        fits = simp length-set f;
        laying = laying_more w.laying moved (omega arith) (rw (laying_next w.laying i count d (omega arith) h (omega arith)));
      }

  pub moving_end : count ≤ i → Laid goal s₀ (set s count moved) (count + 1)
  moving_end h =
      let l : length s ≡ length s₀ = w.laying.same in
      let f : count < length s = w.fits in
      let v : i ≡ count = omega (arith, w.within) in
      let here : Laying s₀ s count (moved ∷ drop count (take count s₀)) goal = rw v at w.laying in
      laying_end (laying_more here moved f (rw (drop_of_length-le (take count s₀) {i = count} (rw (length-take-le count s₀ (omega arith)) (omega arith))))) refl
