-- Waiting joins become moments, so the limit of 1,024 waiting joins never decides alone: where it is passed, the replay carried on without
-- limits finds over 1,024 moments.
--
-- step_more: a step leaves at least as many waiting joins and moments together
-- unlimited: a state with the limits forgotten. onward: at most k steps more, whatever limits are passed
-- waiting_moments: the law
use Prim.Native.Nat.{ℕ, zero, suc, ◌+◌, ◌≤◌, ◌<◌}
use mathlib.Core.Bool.{Bool, true, false, true≢false}
use mathlib.Core.List.{List, [], ◌∷◌}
use mathlib.Core.Option.{Option, none, some}
use mathlib.Core.Path.{◌≡◌, refl, ap}
use native.Mathlib.Omega.{arith}
use lib.Dec.{eqb, ltb}
use lib.ListN.{length}
use borrow.Author.Tests.{eqb-true, ltb-true, ltb-false, lt-ltb, ne_eqb}
use Rattle.grid.specs.Lists.{keep, past, ascending}
use Rattle.grid.specs.Frontiers.{short_of}
use Rattle.grid.proofs.Tests.{by-test, and_l}
use Rattle.grid.proofs.Lists.{All, nil, cons}
use Rattle.grid.proofs.Operations.{length-puts}
use Rattle.rules.specs.Histories.{Edit, moved}
use Rattle.rules.specs.Discover.{State, most_moments, start, next, made, waiting_past, passes, acted, remaining, remeet, step, run}
use Rattle.rules.proofs.Order.{remaining_each, next_none, run-keeps}
use Rattle.rules.proofs.Fuel.{ahead, measure, Bounded, waiting_moment, moments_grow, moments_grew, measure_falls}
use Rattle.rules.proofs.Moments.{Listed, start-listed, step-listed}

-- ---- lengths
-- a time stands in a strictly ascending list at most once
past_next : (n x : ℕ) (xs : List ℕ) → eqb n x ≡ true → ascending ltb (x ∷ xs) ≡ true → past (eqb n) xs ≡ xs
past_next n x [] e a = refl
past_next n x (y ∷ ys) e a = rw (ne_eqb n y (λ q. omega (arith, eqb-true n x e, ltb-true x y (and_l (ltb x y) _ a))))

length-once : (n : ℕ) (xs : List ℕ) → ascending ltb xs ≡ true → length xs ≤ suc (length (past (eqb n) xs))
length-once n [] a = omega arith
length-once n (x ∷ xs) a = by-test (eqb n x) (λ e. rw (e, past_next n x xs e a) (omega arith)) (λ e. rw e (omega arith))

past_unmoved : (p : ℕ → Bool) (xs : List ℕ) → moved p xs ≡ false → past p xs ≡ xs
unfolding moved
past_unmoved p [] e = refl
past_unmoved p (x ∷ xs) e = by-test (p x) (λ c. absurd (true≢false (rw c at e))) (λ c. rw c)

-- ---- one step
module _ (upper : List ℕ) (n : ℕ) (s : State) where
  waiting_left : length (past (eqb n) s.waiting) ≤ length (step upper n s).waiting
  unfolding step remeet acted waiting_past
  waiting_left = length-puts (keep (short_of upper) (made upper n s)) (past (eqb n) s.waiting)

  pub step_more : Bounded upper s → ascending ltb s.waiting ≡ true → length s.waiting + length s.moments ≤ length (step upper n s).waiting + length (step upper n s).moments
  step_more b a =
      by-test (moved (eqb n) s.waiting)
      (λ w. omega (arith, waiting_left, length-once n s.waiting a, moments_grew upper n s (waiting_moment upper n s b w)))
      (λ w. omega (arith, waiting_left, ap length (past_unmoved (eqb n) s.waiting w), moments_grow upper n s))

-- ---- without limits
unfoldable pub unlimited : State → State
unlimited s = record {
  seeds = s.seeds;
  pending = s.pending;
  input = s.input;
  output = s.output;
  waiting = s.waiting;
  tracked = s.tracked;
  m = s.m;
  moments = s.moments;
  pended = s.pended;
  over = false;
}

unfoldable pub onward : List ℕ → ℕ → State → State
onward upper zero s = s
onward upper (suc k) s = elim (next (unlimited s)) [ none ↦ s | some n ↦ onward upper k (step upper n (unlimited s)) ]

none_empty : {xs : List ℕ} → All (λ x. ⊥) xs → length xs ≡ 0
none_empty nil = refl
none_empty (cons p h) = absurd p

module _ (upper : List ℕ) where
  unlimited_listed : (s : State) → Listed upper s → Listed upper (unlimited s)
  unfolding unlimited remaining
  unlimited_listed s I = record {
    ordered = record { seeds = I.ordered.seeds; pending = I.ordered.pending; input = I.ordered.input; output = I.ordered.output; waiting = I.ordered.waiting };
    earlier = I.earlier;
    moments_ascend = I.moments_ascend;
    moments_short = I.moments_short;
    pended_ascend = I.pended_ascend;
    pended_beyond = I.pended_beyond;
    waiting_ascend = I.waiting_ascend;
    waiting_short = I.waiting_short;
  }

  none_waiting : (s : State) → Listed upper s → next (unlimited s) ≡ none → length s.waiting ≡ 0
  unfolding unlimited
  none_waiting s I e = none_empty (remaining_each (unlimited s) (next_none (unlimited s) (unlimited_listed s I).ordered refl e)).waiting

  -- while there are at most 1,024 moments
  unlimited_bounded : (s : State) → Listed upper s → length s.moments ≤ most_moments → Bounded upper (unlimited s)
  unfolding unlimited
  unlimited_bounded s I h = record { short = I.waiting_short; few = λ o. h }

  onward_more : (s : State) (n : ℕ) → Listed upper s → length s.moments ≤ most_moments → length s.waiting + length s.moments ≤ length (step upper n (unlimited s)).waiting + length (step upper n (unlimited s)).moments
  unfolding unlimited
  onward_more s n I h = step_more upper n (unlimited s) (unlimited_bounded s I h) I.waiting_ascend

  onward_less : (s : State) (n : ℕ) → Listed upper s → length s.moments ≤ most_moments → next (unlimited s) ≡ some n → measure (step upper n (unlimited s)) < measure s
  unfolding unlimited measure ahead
  onward_less s n I h e = measure_falls upper n (unlimited s) (unlimited_bounded s I h) e

  onward_grow : (s : State) (n : ℕ) → length s.moments ≤ length (step upper n (unlimited s)).moments
  unfolding unlimited
  onward_grow s n = moments_grow upper n (unlimited s)

  onward_moments : (k : ℕ) (s : State) → Listed upper s → (length s.moments ≤ most_moments → measure s ≤ k) → most_moments < length s.waiting + length s.moments → most_moments < length (onward upper k s).moments
  unfolding onward measure
  onward_moments zero s I f h = by-test (ltb most_moments (length s.moments)) (ltb-true most_moments (length s.moments)) (λ e. let l = ltb-false most_moments (length s.moments) e in omega (arith, f l))
  onward_moments (suc k) s I f h = go (next (unlimited s)) refl (onward_moments k)
    where
      go : (o : Option ℕ) → next (unlimited s) ≡ o → ((t : State) → Listed upper t → (length t.moments ≤ most_moments → measure t ≤ k) → most_moments < length t.waiting + length t.moments → most_moments < length (onward upper k t).moments) → most_moments < length (onward upper (suc k) s).moments
      go none e ih = rw (e, onward) (omega (arith, none_waiting s I e))
      go (some n) e ih =
          rw (e, onward) (ih (step upper n (unlimited s)) (step-listed upper (unlimited s) n e (unlimited_listed s I)) room more)
        where
          room : length (step upper n (unlimited s)).moments ≤ most_moments → measure (step upper n (unlimited s)) ≤ k
          room l =
              let b : length s.moments ≤ most_moments = omega (arith, onward_grow s n) in
              omega (arith, f b, onward_less s n I b e)

          more : most_moments < length (step upper n (unlimited s)).waiting + length (step upper n (unlimited s)).moments
          more =
              by-test (ltb most_moments (length s.moments))
              (λ c. omega (arith, ltb-true most_moments (length s.moments) c, onward_grow s n))
              (λ c. omega (arith, onward_more s n I (ltb-false most_moments (length s.moments) c)))

  -- Document 01 refuses a key with over 1,024 waiting joins after a step, and `run` stops there. Here the replay is carried on from there for
  -- as many steps as the measure says: then no join waits any more, or there are over 1,024 moments already. So a key that this limit refuses
  -- has over 1,024 moments, and would be refused for them.
  pub waiting_moments : (seeds pending : List ℕ) (input : List Edit) (output : List ℕ) → ascending ltb pending ≡ true → (k : ℕ) → passes (run upper k (start seeds pending input output)).waiting ≡ true → passes (onward upper (measure (run upper k (start seeds pending input output))) (run upper k (start seeds pending input output))).moments ≡ true
  unfolding passes
  waiting_moments seeds pending input output rises k e =
      lt-ltb most_moments _
      (onward_moments (measure s) s (run-keeps (Listed upper) upper (step-listed upper) k (start seeds pending input output) (start-listed upper seeds pending input output rises)) (λ h. omega arith)
      (omega (arith, ltb-true most_moments (length s.waiting) e)))
    where
      s : State
      s = run upper k (start seeds pending input output)
