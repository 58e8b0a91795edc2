-- The moments and the pended times of discover_times, over the whole replay.
--
-- moments_above: each moment is at or above a seed or pending time
-- Listed: what holds of all that is found so far. step-listed, start-listed, found_listed: it holds of every state, and of what discover finds:
-- moments strictly ascend and are short of upper, pended times strictly ascend and are beyond upper
use Prim.Native.Nat.{ℕ, ◌<◌}
use mathlib.Core.Bool.{true, false, cond, ◌&&◌}
use mathlib.Core.List.{List, [], ◌∷◌, ◌++◌}
use mathlib.Core.Option.{some}
use mathlib.Core.Path.{◌≡◌, refl}
use native.Mathlib.Omega.{arith}
use lib.Dec.{eqb, ltb}
use borrow.Author.Tests.{not-true}
use Rattle.grid.specs.Lists.{keep, past, ascending}
use Rattle.grid.specs.Times.{put}
use Rattle.grid.specs.Frontiers.{beyond, short_of}
use Rattle.grid.proofs.Tests.{by-test, and_l, and_r}
use Rattle.grid.proofs.Lists.{all_at, all_in, All, nil, cons, all_of, all_imp, all_append, keep_all, all_put, all_puts}
use Rattle.grid.proofs.Times.{below_refl}
use Rattle.grid.proofs.Meets.{any_unseen}
use Rattle.grid.proofs.Ascending.{ascending_rest, ascending_put, ascending_puts, ascending_snoc}
use Rattle.rules.specs.Histories.{Edit}
use Rattle.rules.specs.Discover.{State, start, next, interesting, is_moment, made, waiting_past, pended_past, moments_past, acted, remaining, remeet, step, discover}
use Rattle.rules.proofs.Order.{Ordered, ascending_rising, start_ordered, step_ordered, next_in, step-above, all_past, run-keeps}
use Rattle.rules.proofs.Grounded.{discover_grounded}

-- ---- strictly ascending lists
ascending_past : (n : ℕ) (xs : List ℕ) → ascending ltb xs ≡ true → ascending ltb (past (eqb n) xs) ≡ true
ascending_past n [] a = refl
ascending_past n (x ∷ xs) a = by-test (eqb n x) (λ e. rw e (ascending_past n xs (ascending_rest ltb x xs a))) (λ e. rw e a)

-- ---- what a step finds
module _ {P : ℕ → Type 0} (upper : List ℕ) (n : ℕ) (s : State) where
  step_moments : All P s.moments → (is_moment upper n s ≡ true → P n) → All P (step upper n s).moments
  unfolding step remeet acted moments_past
  step_moments h f = by-test (is_moment upper n s) (λ c. rw c (all_append h (cons (f c) nil))) (λ c. rw c h)

  step_pended : All P s.pended → (beyond upper n ≡ true → interesting n s ≡ true → P n) → All (λ t. beyond upper t ≡ true → P t) (made upper n s) → All P (step upper n s).pended
  unfolding step remeet acted pended_past
  step_pended h f k =
      all_puts (keep_all (beyond upper) k)
      (by-test (beyond upper n && interesting n s)
      (λ c. rw c (all_put n (f (and_l (beyond upper n) (interesting n s) c) (and_r (beyond upper n) (interesting n s) c)) h))
      (λ c. rw c h))

  step_waiting : All P s.waiting → All (λ t. short_of upper t ≡ true → P t) (made upper n s) → All P (step upper n s).waiting
  unfolding step remeet acted waiting_past
  step_waiting h k = all_puts (keep_all (short_of upper) k) (all_past (eqb n) h)

-- ---- membership
-- ---- each moment is at or above a seed or pending time
module _ (upper seeds pending : List ℕ) (input : List Edit) (output : List ℕ) where
  -- where no seed or pending time is seen no moment is, but each moment sees itself
  pub moments_above : All (λ t. beyond (seeds ++ pending) t ≡ true) (discover upper seeds pending input output).moments
  unfolding beyond
  moments_above =
      all_imp
      (λ t e. by-test (beyond (seeds ++ pending) t) (λ c. c)
      (λ c. absurd (all_at t (discover upper seeds pending input output).moments (discover_grounded upper seeds pending input output t (any_unseen t (seeds ++ pending) c)).moments e (below_refl t))))
      (all_in (discover upper seeds pending input output).moments)

-- ---- what is found
module _ (upper : List ℕ) where
  pub record Listed (s : State) : Type 0 where
    pub ordered : Ordered s
    pub earlier : All (λ k. All (λ x. k < x) (remaining s)) s.moments
    pub moments_ascend : ascending ltb s.moments ≡ true
    pub moments_short : All (λ t. beyond upper t ≡ false) s.moments
    pub pended_ascend : ascending ltb s.pended ≡ true
    pub pended_beyond : All (λ t. beyond upper t ≡ true) s.pended
    pub waiting_ascend : ascending ltb s.waiting ≡ true
    pub waiting_short : All (λ t. beyond upper t ≡ false) s.waiting

  module _ (s : State) (n : ℕ) (e : next s ≡ some n) (I : Listed s) where
    is_short : is_moment upper n s ≡ true → beyond upper n ≡ false
    unfolding is_moment
    is_short c = not-true (beyond upper n) (and_r (interesting n s) (short_of upper n) c)

    abbrev older : List ℕ
    older = cond (beyond upper n && interesting n s) (put n s.pended) s.pended

    older_ascend : ascending ltb older ≡ true
    older_ascend =
        by-test (beyond upper n && interesting n s) (λ c. rw c (ascending_put n s.pended I.pended_ascend)) (λ c. rw c I.pended_ascend)

    later : All (λ x. n < x) (remaining (step upper n s))
    later = step-above upper n s I.ordered e

    before : All (λ k. k < n) s.moments
    before = all_imp (λ k h. next_in (λ x. k < x) s n e h) I.earlier

    before_all : (k : ℕ) → k < n → All (λ x. k < x) (remaining (step upper n s))
    before_all k h = all_imp (λ x l. omega arith) later

    pub step-listed : Listed (step upper n s)
    unfolding step remeet acted waiting_past pended_past moments_past
    step-listed = record {
      ordered = step_ordered upper n s I.ordered;
      earlier = step_moments upper n s (all_imp before_all before) (λ c. later);
      moments_ascend = by-test (is_moment upper n s) (λ c. rw c (ascending_snoc n s.moments I.moments_ascend before)) (λ c. rw c I.moments_ascend);
      moments_short = step_moments upper n s I.moments_short is_short;
      pended_ascend = ascending_puts (keep (beyond upper) (made upper n s)) older older_ascend;
      pended_beyond = step_pended upper n s I.pended_beyond (λ b c. b) (all_of (λ x c. c) (made upper n s));
      waiting_ascend = ascending_puts (keep (short_of upper) (made upper n s)) (past (eqb n) s.waiting) (ascending_past n s.waiting I.waiting_ascend);
      waiting_short = step_waiting upper n s I.waiting_short (all_of (λ x c. not-true (beyond upper x) c) (made upper n s));
    }

  -- the pending list ascends by check 15
  module _ (seeds pending : List ℕ) (input : List Edit) (output : List ℕ) (rises : ascending ltb pending ≡ true) where
    pub start-listed : Listed (start seeds pending input output)
    unfolding start
    start-listed = record {
      ordered = start_ordered seeds pending input output (ascending_rising pending rises);
      earlier = nil;
      moments_ascend = refl;
      moments_short = nil;
      pended_ascend = refl;
      pended_beyond = nil;
      waiting_ascend = refl;
      waiting_short = nil;
    }

    pub found_listed : Listed (discover upper seeds pending input output)
    unfolding discover
    found_listed = run-keeps Listed upper step-listed _ (start seeds pending input output) start-listed
