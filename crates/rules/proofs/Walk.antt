-- What the replay of discover_times keeps, step by step.
--
-- first_meet: step 1's meet. begun: step 1's state
-- Heard m s: at times which m is under, the buffers of s and what is ahead tell all of the loaded input, of the output, and of seeds and pending
-- acted_heard, remeet_heard: steps 3 and 4, and step 5, keep that
-- Replayed: what holds of every state that discover_times comes to. start_replayed, step_replayed: it does
-- under_next, reached_next, visited_next, unvisited_next: the next time is above the meet, was not visited, and is later than all that was
use Prim.Native.Nat.{ℕ, suc, ◌<◌, ◌≤◌}
use mathlib.Core.Bool.{Bool}
use mathlib.Core.List.{List, ◌++◌, map, append_assoc}
use mathlib.Core.Option.{Option, none, some}
use mathlib.Core.Path.{◌≡◌, refl, sym, ◌∙◌, ap, ap₂}
use native.Mathlib.Omega.{arith}
use lib.Dec.{eqb, leb}
use lib.IntN.{◌+ℤ◌}
use Rattle.grid.specs.Lists.{front, past}
use Rattle.grid.specs.Times.{join, joined, meets}
use Rattle.grid.proofs.Tests.{by-test}
use Rattle.grid.proofs.Lists.{All, nil, cons, all_of, all_imp, all_append, all_l, all_r, map_all, all_map, all_sort, sort_all}
use Rattle.grid.proofs.Times.{join_upper_l}
use Rattle.grid.proofs.Meets.{Unseen, Under, under_trans, meets_under, meets_most, joined-under}
use Rattle.grid.proofs.Consolidate.{tally, all_consolidate}
use Rattle.rules.specs.Histories.{Edit, time_of, joined_edit, load_times, load_edits, stepped, moved}
use Rattle.rules.specs.Discover.{State, start, next, seeds_past, tracked_past, known, is_moment, input_past, output_past, moments_past, acted, remaining, remeet, step}
use Rattle.rules.proofs.Histories.{visible, advance_visible, Downward, IfSeen, joined-seen, joined_back, strict_earlier, buffer_back}
use Rattle.rules.proofs.Retire.{visible_append}
use Rattle.rules.proofs.Grounded.{Grounded, start_grounded, step_grounded}
use Rattle.rules.proofs.Order.{seeds_left, output_left, Rising, Each, each_remaining, Ordered, start_ordered, step_ordered, next_in, front_past, front_past_all, front_equal, input_left, made_all, step-remaining, step-above}

-- step 1's meet
abbrev pub first_meet : List ℕ → List ℕ → Option ℕ
first_meet seeds pending = meets (seeds ++ pending) none

module _ (upper seeds pending : List ℕ) (input output : List Edit) where
  pub record Heard (m : Option ℕ) (s : State) : Type 1 where
    pub edits : (t : ℕ) → Under m t → (p : ℕ → Bool) → tally (visible t p) (s.input.buffer ++ s.input.ahead) ≡ tally (visible t p) (load_edits (first_meet seeds pending) input)
    pub outputs : {C : ℕ → Type 0} → Downward C → (t : ℕ) → Under m t → All (IfSeen t C) s.output.buffer → All (IfSeen t C) s.output.ahead → All (λ e. IfSeen t C e.0.0) output
    pub touching : {C : ℕ → Type 0} → Downward C → (t : ℕ) → Under m t → All (IfSeen t C) (s.seeds.buffer ++ s.tracked) → All (IfSeen t C) s.seeds.ahead → All (IfSeen t C) s.pending → All (IfSeen t C) (seeds ++ pending)

  module _ (n : ℕ) (s : State) (h : Heard s.m s) where
    abbrev moving : List Edit
    moving = front (λ e. eqb n (time_of e)) s.input.ahead

    abbrev staying : List Edit
    staying = past (λ e. eqb n (time_of e)) s.input.ahead

    buffer_visible : (t : ℕ) → Under s.m t → (p : ℕ → Bool) → tally (visible t p) (input_past upper n s).buffer ≡ tally (visible t p) (s.input.buffer ++ moving)
    unfolding input_past stepped
    buffer_visible t u p = by-test (is_moment upper n s) (λ e. rw e (advance_visible s.m t p u (s.input.buffer ++ moving))) (λ e. rw e)

    edits_past : (t : ℕ) → Under s.m t → (p : ℕ → Bool) → tally (visible t p) ((input_past upper n s).buffer ++ (input_past upper n s).ahead) ≡ tally (visible t p) (load_edits (first_meet seeds pending) input)
    edits_past t u p =
        visible_append t p (input_past upper n s).buffer (input_past upper n s).ahead
        ∙ ap₂ ◌+ℤ◌ (buffer_visible t u p) (ap (tally (visible t p)) (input_left upper n s))
        ∙ sym (visible_append t p (s.input.buffer ++ moving) staying)
        ∙ ap (tally (visible t p)) (append_assoc s.input.buffer moving staying ∙ ap (λ z. s.input.buffer ++ z) (front_past (λ e. eqb n (time_of e)) s.input.ahead))
        ∙ h.edits t u p

    outputs_past : {C : ℕ → Type 0} → Downward C → (t : ℕ) → Under s.m t → All (IfSeen t C) (output_past upper n s).buffer → All (IfSeen t C) (output_past upper n s).ahead → All (λ e. IfSeen t C e.0.0) output
    unfolding output_past
    outputs_past d t u b a =
        let k = buffer_back t s.m n s.output d u (is_moment upper n s) b in
        h.outputs d t u (all_l s.output.buffer (front (eqb n) s.output.ahead) k)
        (front_past_all (eqb n) s.output.ahead (all_r s.output.buffer (front (eqb n) s.output.ahead) k) (rw (output_left upper n s) at a))

    touching_past : {C : ℕ → Type 0} → Downward C → (t : ℕ) → Under s.m t → All (IfSeen t C) (known n s) → All (IfSeen t C) (seeds_past n s).ahead → All (IfSeen t C) (past (eqb n) s.pending) → All (IfSeen t C) (seeds ++ pending)
    unfolding known seeds_past tracked_past
    touching_past d t u kn a pe =
        let k = buffer_back t s.m n s.seeds d u (moved (eqb n) s.seeds.ahead) (all_l (seeds_past n s).buffer (tracked_past n s) kn) in
        let tr = all_r (seeds_past n s).buffer (tracked_past n s) kn in
        let fr = all_r s.tracked (front (eqb n) s.pending ++ front (eqb n) s.waiting) tr in
        h.touching d t u
        (all_append (all_l s.seeds.buffer (front (eqb n) s.seeds.ahead) k) (all_l s.tracked (front (eqb n) s.pending ++ front (eqb n) s.waiting) tr))
        (front_past_all (eqb n) s.seeds.ahead (all_r s.seeds.buffer (front (eqb n) s.seeds.ahead) k) (rw (seeds_left n s) at a))
        (front_past_all (eqb n) s.pending (all_l (front (eqb n) s.pending) (front (eqb n) s.waiting) fr) pe)

    pub acted_heard : Heard s.m (acted upper n s)
    unfolding acted known
    acted_heard = record { edits = edits_past; outputs = outputs_past; touching = touching_past }

  pub remeet_heard : (m : Option ℕ) (s : State) → ((t : ℕ) → Under (meets (remaining s) none) t → Under m t) → Heard m s → Heard (meets (remaining s) none) (remeet s)
  unfolding remeet
  remeet_heard m s rises h = record {
    edits = λ t u p. h.edits t (rises t u) p;
    outputs = λ d t u b a. h.outputs d t (rises t u) b a;
    touching = λ d t u k a p. h.touching d t (rises t u)
        (all_append (all_l s.seeds.buffer _ k) (joined_back d t (meets (remaining s) none) u s.tracked (all_r s.seeds.buffer _ k))) a p;
  }

  -- every state that discover_times comes to: all times before `reached` were visited
  pub record Replayed (s : State) : Type 1 where
    pub reached : ℕ
    pub ordered : Ordered s
    pub later : All (λ x. reached ≤ x) (remaining s)
    pub under : All (λ x. Under s.m x) (remaining s)
    pub rose : (t : ℕ) → Under s.m t → Under (first_meet seeds pending) t
    pub heard : Heard s.m s
    pub unvisited : (Q : ℕ → Type 0) → All Q (map time_of s.input.ahead) → All (λ e. reached ≤ e.0.0 → Q e.0.0) (load_edits (first_meet seeds pending) input)
    pub grounded : (t : ℕ) → All (Unseen t) (seeds ++ pending) → Grounded t s
    pub visited : All (λ k. k < reached) s.moments

  module _ (n : ℕ) (s : State) (r : Replayed s) (e : next s ≡ some n) where
    pub under_next : Under s.m n
    under_next = next_in (λ x. Under s.m x) s n e r.under

    pub reached_next : r.reached ≤ n
    reached_next = next_in (λ x. r.reached ≤ x) s n e r.later

    pub visited_next : All (λ k. k < n) s.moments
    visited_next = all_imp (λ k l. omega (arith, reached_next)) r.visited

    made-under : (t : ℕ) → Under s.m (join n t)
    made-under t = under_trans s.m n (join n t) under_next (join_upper_l n t)

    rises : (t : ℕ) → Under (meets (remaining (step upper n s)) none) t → Under s.m t
    rises t u =
        meets_most s.m (remaining (step upper n s))
        (step-remaining upper n s r.under (made_all upper n s (λ c x f. made-under x) (all_of (λ x f. made-under x) (known n s)))) t u

    pub unvisited_next : (Q : ℕ → Type 0) → All Q (map time_of (input_past upper n s).ahead) → All (λ e. suc n ≤ e.0.0 → Q e.0.0) (load_edits (first_meet seeds pending) input)
    unvisited_next Q h =
        all_imp (λ (x : Edit) f k. f (omega (arith, reached_next)) k)
        (r.unvisited (λ t. suc n ≤ t → Q t)
        (all_map time_of
        (front_past_all (λ e. eqb n (time_of e)) s.input.ahead
        (front_equal (λ t. suc n ≤ t → Q t) time_of n s.input.ahead (λ l. absurd (no l)))
        (all_imp (λ (x : Edit) q k. q) (map_all time_of (past (λ e. eqb n (time_of e)) s.input.ahead) (rw (input_left upper n s) at h))))))
      where
        no : suc n ≤ n → ⊥
        no l = omega arith

    visited_past : All (λ k. k < suc n) (moments_past upper n s)
    unfolding moments_past
    visited_past =
        let k : All (λ k. k < suc n) s.moments = all_imp (λ k l. omega arith) visited_next in
        by-test (is_moment upper n s) (λ c. rw c (all_append k (cons {x = n} (omega arith) nil))) (λ c. rw c k)

    pub step_replayed : Replayed (step upper n s)
    unfolding step remeet acted remaining
    step_replayed = record {
      reached = suc n;
      ordered = step_ordered upper n s r.ordered;
      later = step-above upper n s r.ordered e;
      under = meets_under (remaining (step upper n s));
      rose = λ t u. r.rose t (rises t u);
      heard = remeet_heard s.m (acted upper n s) rises (acted_heard n s r.heard);
      unvisited = unvisited_next;
      grounded = λ t g. step_grounded upper t n s (r.grounded t g);
      visited = visited_past;
    }

  abbrev pub begun : State
  begun = start seeds pending input (map time_of output)

  -- the start, if there is a seed or pending time
  module _ (a : ℕ) (u : Under (first_meet seeds pending) a) where
    start_under : Each (λ x. Under (first_meet seeds pending) x) begun
    unfolding start load_times load_edits joined joined_edit time_of
    start_under = record {
      seeds = all_sort leb (all_map (joined none) (all_l seeds pending (meets_under (seeds ++ pending))));
      pending = all_r seeds pending (meets_under (seeds ++ pending));
      input = all_map time_of (all_consolidate strict_earlier (λ k. Under (first_meet seeds pending) k.0) (all_map (joined_edit (first_meet seeds pending)) (all_of (λ (e : Edit). joined-under (first_meet seeds pending) e.0.0 a u) input)));
      output = all_sort leb (all_map (joined (first_meet seeds pending)) (all_of (λ x. joined-under (first_meet seeds pending) x a u) (map time_of output)));
      waiting = nil;
    }

    start_heard : Heard (first_meet seeds pending) begun
    unfolding start load_times joined time_of
    start_heard = record {
      edits = λ t v p. refl;
      outputs = λ d t v b k. map_all time_of output (all_imp (λ x f. joined-seen d t (first_meet seeds pending) v x f) (map_all (joined (first_meet seeds pending)) (map time_of output) (sort_all leb (map (joined (first_meet seeds pending)) (map time_of output)) k)));
      touching = λ d t v b k l. all_append (map_all (joined none) seeds (sort_all leb (map (joined none) seeds) k)) l;
    }

    pub start_replayed : Rising pending → Replayed begun
    unfolding start time_of
    start_replayed o = record {
      reached = 0;
      ordered = start_ordered seeds pending input (map time_of output) o;
      later = all_of (λ x. omega arith) (remaining begun);
      under = each_remaining begun start_under;
      rose = λ t v. v;
      heard = start_heard;
      unvisited = λ Q h. all_imp (λ (e : Edit) q z. q) (map_all time_of (load_edits (first_meet seeds pending) input) h);
      grounded = start_grounded seeds pending input (map time_of output);
      visited = nil;
    }
