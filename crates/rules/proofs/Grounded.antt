-- Where no seed or pending time is seen, discover_times has nothing to do: no moment is seen there, and nothing that leads to one.
--
-- Grounded t s: no moment of s is seen at t, and nothing of s that leads to moments
-- start_grounded: so it is at the start, where no seed or pending time is seen. step_grounded: a step keeps it. discover_grounded: so it is at the end
use Prim.Native.Nat.{ℕ, suc, ◌+◌}
use mathlib.Core.Bool.{true, ◌||◌}
use mathlib.Core.List.{List, ◌++◌}
use mathlib.Core.Option.{none}
use mathlib.Core.Logic.{⊎_elim}
use mathlib.Core.Path.{◌≡◌}
use lib.Dec.{eqb, leb}
use lib.ListN.{length}
use Rattle.grid.specs.Lists.{any}
use Rattle.grid.specs.Times.{join, below, joined, meets}
use Rattle.grid.specs.Frontiers.{short_of}
use Rattle.grid.proofs.Tests.{by-test, or_cases, and_l}
use Rattle.grid.proofs.Lists.{All, nil, cons, all_imp, all_append, all_l, all_r, all_keep, all_map, all_puts, all_sort}
use Rattle.grid.proofs.Times.{below_trans, join_upper_l}
use Rattle.grid.proofs.Meets.{any_below, Unseen, join_upper_r}
use Rattle.rules.specs.Histories.{Edit, load_times, moved}
use Rattle.rules.specs.Discover.{State, most_moments, discover, start, seeds_past, tracked_past, known, interesting, is_moment, made, waiting_past, moments_past, acted, remaining, remeet, step}
use Rattle.rules.proofs.Histories.{buffer_unseen, joined_unseen_all}
use Rattle.rules.proofs.Order.{seeds_left, moved_in, all_front, all_past, made_all, run-keeps}

pub record Grounded (t : ℕ) (s : State) : Type 0 where
  pub moments : All (Unseen t) s.moments
  pub seeds : All (Unseen t) s.seeds.ahead
  pub buffer : All (Unseen t) s.seeds.buffer
  pub pending : All (Unseen t) s.pending
  pub waiting : All (Unseen t) s.waiting
  pub tracked : All (Unseen t) s.tracked

module _ (upper : List ℕ) (t n : ℕ) (s : State) (g : Grounded t s) where
  buffer_past : All (Unseen t) (seeds_past n s).buffer
  unfolding seeds_past
  buffer_past = buffer_unseen t s.m n s.seeds (moved (eqb n) s.seeds.ahead) (all_append g.buffer (all_front (eqb n) g.seeds))

  tracked_past_lem : All (Unseen t) (tracked_past n s)
  unfolding tracked_past
  tracked_past_lem = all_append g.tracked (all_append (all_front (eqb n) g.pending) (all_front (eqb n) g.waiting))

  known_unseen : All (Unseen t) (known n s)
  unfolding known
  known_unseen = all_append buffer_past tracked_past_lem

  interesting_unseen : interesting n s ≡ true → Unseen t n
  unfolding interesting
  interesting_unseen e =
      ⊎_elim
      (λ a. ⊎_elim (λ b. moved_in (Unseen t) n s.seeds.ahead b g.seeds)
      (λ b. ⊎_elim (λ c. moved_in (Unseen t) n s.pending c g.pending) (λ c. moved_in (Unseen t) n s.waiting c g.waiting) (or_cases (moved (eqb n) s.pending) (moved (eqb n) s.waiting) b))
      (or_cases (moved (eqb n) s.seeds.ahead) (moved (eqb n) s.pending || moved (eqb n) s.waiting) a))
      (λ a. any_below n (known n s) a (all_imp (λ x f b u. f (below_trans x n t b u)) known_unseen))
      (or_cases (moved (eqb n) s.seeds.ahead || (moved (eqb n) s.pending || moved (eqb n) s.waiting)) (any (λ x. below x n) (known n s)) e)

  moment_unseen : is_moment upper n s ≡ true → Unseen t n
  unfolding is_moment
  moment_unseen e = interesting_unseen (and_l (interesting n s) (short_of upper n) e)

  made_unseen : All (Unseen t) (made upper n s)
  made_unseen =
      made_all upper n s (λ e x f u. moment_unseen e (below_trans n (join n x) t (join_upper_l n x) u))
      (all_imp (λ x k f u. k (below_trans x (join n x) t (join_upper_r n x) u)) known_unseen)

  moments_unseen : All (Unseen t) (moments_past upper n s)
  unfolding moments_past
  moments_unseen = by-test (is_moment upper n s) (λ e. rw e (all_append g.moments (cons (moment_unseen e) nil))) (λ e. rw e g.moments)

  pub step_grounded : Grounded t (step upper n s)
  unfolding step remeet acted waiting_past
  step_grounded = record {
    moments = moments_unseen;
    seeds = rw (seeds_left n s) (all_past (eqb n) g.seeds);
    buffer = buffer_past;
    pending = all_past (eqb n) g.pending;
    waiting = all_puts (all_keep (short_of upper) made_unseen) (all_past (eqb n) g.waiting);
    tracked = joined_unseen_all (meets (remaining (acted upper n s)) none) t tracked_past_lem;
  }

pub start_grounded : (seeds pending : List ℕ) (input : List Edit) (output : List ℕ) (t : ℕ) → All (Unseen t) (seeds ++ pending) → Grounded t (start seeds pending input output)
unfolding start load_times joined
start_grounded seeds pending input output t g = record {
  moments = nil;
  seeds = all_sort leb (all_map (joined none) (all_l seeds pending g));
  buffer = nil;
  pending = all_r seeds pending g;
  waiting = nil;
  tracked = nil;
}

pub discover_grounded : (upper seeds pending : List ℕ) (input : List Edit) (output : List ℕ) (t : ℕ) → All (Unseen t) (seeds ++ pending) → Grounded t (discover upper seeds pending input output)
unfolding discover
discover_grounded upper seeds pending input output t g =
    run-keeps (Grounded t) upper (λ s n e h. step_grounded upper t n s h) (length seeds + length pending + length input + length output + suc most_moments) (start seeds pending input output) (start_grounded seeds pending input output t g)
