-- discover_times ends: each step takes something away that was loaded, or settles a waiting join as one of at most 1,025 moments, so the steps
-- that `discover` allows suffice.
--
-- measure: what was loaded and is ahead, and how many moments may still come
-- over_stops: once a limit was passed, there is no next time. spare: of a state without a limit passed, the measure is not 0
-- Bounded: of a state, what bounds its measure. start_bounded, step_bounded: it holds at the start, and a step keeps it. waiting_moment: a waiting join becomes a moment. moments_grow, moments_grew: moments stay, and come
-- measure_falls: each step lowers the measure
-- run_ends: a run of as many steps as the measure ends. discover_ends: so there is no next time where `discover` stops
use Prim.Native.Nat.{ℕ, zero, suc, ◌+◌, ◌-◌, ◌<◌, ◌≤◌}
use mathlib.Core.Bool.{Bool, true, false, ◌||◌, false≢true}
use mathlib.Core.List.{List, [], ◌∷◌, ◌++◌, map}
use mathlib.Core.Option.{Option, none, some}
use mathlib.Core.Path.{◌≡◌, refl}
use native.Mathlib.Omega.{arith}
use lib.Dec.{eqb, leb}
use lib.IntN.{ℤ, ◌+ℤ◌}
use lib.ListN.{length, take, length-append, length-map}
use borrow.Author.Tests.{eqb-false, ltb-false, not-true}
use Rattle.grid.specs.Lists.{past}
use Rattle.grid.specs.Times.{joined, meets}
use Rattle.grid.specs.Frontiers.{beyond, short_of}
use Rattle.grid.specs.Consolidate.{is_zero, unless_zero, add, consolidate}
use Rattle.grid.proofs.Tests.{by-test, clash, or_false_l, or_false_r, or_l, or_r, and_i}
use Rattle.grid.proofs.Lists.{All, nil, cons, head, all_append, all_of, keep_all, all_puts}
use Rattle.grid.proofs.Sort.{length_sort}
use Rattle.rules.specs.Histories.{Edit, time_of, earlier, joined_edit, load_times, load_edits, moved}
use Rattle.rules.specs.Discover.{State, most_moments, start, heads, next, interesting, is_moment, made, waiting_past, moments_past, passes, acted, remeet, step, run, discover}
use Rattle.rules.proofs.Order.{moved_in, next_head, next-over, all_past, seeds_left, input_left, output_left}

-- ---- lengths
length_past : {A : Type 0} (p : A → Bool) (xs : List A) → length (past p xs) ≤ length xs
length_past p [] = omega arith
length_past p (x ∷ xs) = let ih = length_past p xs in by-test (p x) (λ e. rw e (omega arith)) (λ e. rw e (omega arith))

-- where something moves, less is left
length_moved : {A : Type 0} (p : A → Bool) (xs : List A) → moved p xs ≡ true → length (past p xs) < length xs
unfolding moved
length_moved p [] e = absurd (false≢true e)
length_moved p (x ∷ xs) e = let k = length_past p xs in by-test (p x) (λ c. rw c (omega arith)) (λ c. absurd (false≢true (rw c at e)))

-- where nothing moves, the head is another
unmoved_head : {A : Type 0} (f : A → ℕ) (n : ℕ) (xs : List A) → moved (λ x. eqb n (f x)) xs ≡ false → All (λ x. n ≡ f x → ⊥) (take 1 xs)
unfolding moved
unmoved_head f n [] e = nil
unmoved_head f n (x ∷ xs) e = by-test (eqb n (f x)) (λ c. clash true refl (rw c at e)) (λ c. cons (eqb-false n (f x) c) nil)

head_map : {A : Type 0} {P : ℕ → Type 0} (f : A → ℕ) (xs : List A) → All (λ x. P (f x)) (take 1 xs) → All P (take 1 (map f xs))
head_map f [] h = nil
head_map f (x ∷ xs) h = cons (head h) nil

length-unless_zero : {A : Type 0} (a : A) (d : ℤ) (r : List (A × ℤ)) → length (unless_zero a d r) ≤ suc (length r)
length-unless_zero a d r = by-test (is_zero d) (λ e. rw e (omega arith)) (λ e. rw e (omega arith))

module _ {A : Type 0} (lt : A → A → Bool) where
  length-add : (a : A) (d : ℤ) (r : List (A × ℤ)) → length (add lt a d r) ≤ suc (length r)
  length-add a d [] = length-unless_zero a d []
  length-add a d (y ∷ r) =
      let ih = length-add a d r in
      by-test (lt a y.0) (λ e. rw e (length-unless_zero a d (y ∷ r)))
      (λ e. by-test (lt y.0 a) (λ e'. rw (e, e') (omega arith)) (λ e'. rw (e, e') (omega (arith, length-unless_zero a (d +ℤ y.1) r))))

  length_consolidate : (es : List (A × ℤ)) → length (consolidate lt es) ≤ length es
  length_consolidate [] = omega arith
  length_consolidate (y ∷ r) = let ih = length_consolidate r in omega (arith, length-add y.0 y.1 (consolidate lt r))

-- ---- the measure
unfoldable pub ahead : State → ℕ
ahead s = length s.seeds.ahead + length s.pending + length s.input.ahead + length s.output.ahead

unfoldable pub measure : State → ℕ
measure s = ahead s + (suc most_moments - length s.moments)

-- something moves at n
unfoldable stirs : ℕ → State → Bool
stirs n s =
    moved (eqb n) s.seeds.ahead || (moved (eqb n) s.pending || (moved (λ e. eqb n (time_of e)) s.input.ahead || (moved (eqb n) s.output.ahead || moved (eqb n) s.waiting)))

still_heads : (n : ℕ) (s : State) → stirs n s ≡ false → All (λ x. n ≡ x → ⊥) (heads s)
unfolding stirs heads
still_heads n s c =
    let piow = or_false_r (moved (eqb n) s.seeds.ahead) _ c in
    let iow = or_false_r (moved (eqb n) s.pending) _ piow in
    let ow = or_false_r (moved (λ e. eqb n (time_of e)) s.input.ahead) _ iow in
    all_append (unmoved_head (λ x. x) n s.seeds.ahead (or_false_l (moved (eqb n) s.seeds.ahead) _ c))
    (all_append (unmoved_head (λ x. x) n s.pending (or_false_l (moved (eqb n) s.pending) _ piow))
    (all_append (head_map time_of s.input.ahead (unmoved_head time_of n s.input.ahead (or_false_l (moved (λ e. eqb n (time_of e)) s.input.ahead) _ iow)))
    (all_append (unmoved_head (λ x. x) n s.output.ahead (or_false_l (moved (eqb n) s.output.ahead) _ ow))
    (unmoved_head (λ x. x) n s.waiting (or_false_r (moved (eqb n) s.output.ahead) _ ow)))))

next_stirs : (n : ℕ) (s : State) → next s ≡ some n → stirs n s ≡ true
next_stirs n s e = by-test (stirs n s) (λ c. c) (λ c. absurd (next_head (λ x. n ≡ x → ⊥) s n e (still_heads n s c) refl))

pub over_stops : (s : State) → s.over ≡ true → next s ≡ none
unfolding next
over_stops s o = rw o

-- a state without a limit passed has steps to spare
pub spare : (s : State) → length s.moments ≤ most_moments → measure s ≤ 0 → ⊥
unfolding measure
spare s a b = omega arith

module _ (upper : List ℕ) where
  -- what holds at every state: waiting joins are short of upper, and without a limit passed there are at most 1,024 moments
  pub record Bounded (s : State) : Type 0 where
    pub short : All (λ x. beyond upper x ≡ false) s.waiting
    pub few : s.over ≡ false → length s.moments ≤ most_moments

  module _ (n : ℕ) (s : State) where
    pub step_bounded : Bounded s → Bounded (step upper n s)
    unfolding step remeet acted waiting_past passes
    step_bounded b = record {
      short = all_puts (keep_all (short_of upper) (all_of (λ x e. not-true (beyond upper x) e) (made upper n s))) (all_past (eqb n) b.short);
      few = λ e. ltb-false most_moments (length (moments_past upper n s)) (or_false_l (passes (moments_past upper n s)) _ (or_false_r s.over _ e));
    }

    abbrev edits_left : List Edit
    edits_left = past (λ e. eqb n (time_of e)) s.input.ahead

    ahead_left : ahead (step upper n s) ≡ length (past (eqb n) s.seeds.ahead) + length (past (eqb n) s.pending) + length edits_left + length (past (eqb n) s.output.ahead)
    unfolding ahead step remeet acted
    ahead_left = rw (seeds_left n s, input_left upper n s, output_left upper n s)

    ahead_falls : ahead (step upper n s) ≤ ahead s
    unfolding ahead
    ahead_falls =
        omega (arith, ahead_left, length_past (eqb n) s.seeds.ahead, length_past (eqb n) s.pending, length_past (λ e. eqb n (time_of e)) s.input.ahead, length_past (eqb n) s.output.ahead)

    ahead_less : stirs n s ≡ true → moved (eqb n) s.waiting ≡ false → ahead (step upper n s) < ahead s
    unfolding ahead stirs
    ahead_less e w =
        let a = length_past (eqb n) s.seeds.ahead in
        let b = length_past (eqb n) s.pending in
        let c = length_past (λ e. eqb n (time_of e)) s.input.ahead in
        let d = length_past (eqb n) s.output.ahead in
        by-test (moved (eqb n) s.seeds.ahead) (λ q. omega (arith, ahead_left, length_moved (eqb n) s.seeds.ahead q))
        (λ q. by-test (moved (eqb n) s.pending) (λ q₂. omega (arith, ahead_left, length_moved (eqb n) s.pending q₂))
        (λ q₂. by-test (moved (λ e. eqb n (time_of e)) s.input.ahead) (λ q₃. omega (arith, ahead_left, length_moved (λ e. eqb n (time_of e)) s.input.ahead q₃))
        (λ q₃. by-test (moved (eqb n) s.output.ahead) (λ q₄. omega (arith, ahead_left, length_moved (eqb n) s.output.ahead q₄))
        (λ q₄. absurd (false≢true (rw (q, q₂, q₃, q₄, w) at e))))))

    -- a waiting join becomes a moment
    pub waiting_moment : Bounded s → moved (eqb n) s.waiting ≡ true → is_moment upper n s ≡ true
    unfolding is_moment interesting
    waiting_moment b e =
        and_i (interesting n s) (short_of upper n)
        (or_l (moved (eqb n) s.seeds.ahead || (moved (eqb n) s.pending || moved (eqb n) s.waiting)) _
        (or_r (moved (eqb n) s.seeds.ahead) _ (or_r (moved (eqb n) s.pending) (moved (eqb n) s.waiting) e)))
        (rw (moved_in (λ x. beyond upper x ≡ false) n s.waiting e b.short))

    pub moments_grow : length s.moments ≤ length (step upper n s).moments
    unfolding step remeet acted moments_past
    moments_grow = by-test (is_moment upper n s) (λ c. rw (c, length-append) (omega arith)) (λ c. rw c (omega arith))

    pub moments_grew : is_moment upper n s ≡ true → length (step upper n s).moments ≡ length s.moments + 1
    unfolding step remeet acted moments_past
    moments_grew c = rw (c, length-append)

    pub measure_falls : Bounded s → next s ≡ some n → measure (step upper n s) < measure s
    unfolding measure
    measure_falls b e =
        let f = b.few (next-over s n e) in
        by-test (moved (eqb n) s.waiting)
        (λ w. omega (arith, ahead_falls, moments_grew (waiting_moment b w)))
        (λ w. omega (arith, moments_grow, ahead_less (next_stirs n s e) w))

  pub run_ends : (k : ℕ) (s : State) → Bounded s → (s.over ≡ false → measure s ≤ k) → next (run upper k s) ≡ none
  unfolding run
  run_ends zero s b f = by-test s.over (λ o. over_stops s o) (λ o. absurd (spare s (b.few o) (f o)))
  run_ends (suc k) s b f = go (next s) refl (run_ends k)
    where
      go : (o : Option ℕ) → next s ≡ o → ((t : State) → Bounded t → (t.over ≡ false → measure t ≤ k) → next (run upper k t) ≡ none) → next (run upper (suc k) s) ≡ none
      go none e ih = rw (e, run) e
      go (some n) e ih =
          rw (e, run) (ih (step upper n s) (step_bounded n s b) (λ o. let l = measure_falls n s b e in let g = f (next-over s n e) in omega arith))

module _ (upper seeds pending : List ℕ) (input : List Edit) (output : List ℕ) where
  abbrev begun : State
  begun = start seeds pending input output

  pub start_bounded : Bounded upper begun
  unfolding start
  start_bounded = record { short = nil; few = λ e. omega arith }

  start_measure : measure begun ≤ length seeds + length pending + length input + length output + suc most_moments
  unfolding start measure ahead load_times load_edits
  start_measure =
      let m = meets (seeds ++ pending) none in
      omega (arith, length_sort leb (map (joined none) seeds), length-map seeds (joined none), length_consolidate earlier (map (joined_edit m) input), length-map input (joined_edit m), length_sort leb (map (joined m) output), length-map output (joined m))

  -- nothing is left to visit, or a limit was passed
  pub discover_ends : next (discover upper seeds pending input output) ≡ none
  unfolding discover
  discover_ends = run_ends upper (length seeds + length pending + length input + length output + suc most_moments) begun start_bounded (λ o. start_measure)
