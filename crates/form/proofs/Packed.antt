-- "Key hash, value id and packed time are all 64 bits wide." Whatever discover_times finds, it finds by joins and meets of the times that it is
-- given, so it is as wide as they are.
--
-- Wide: a number of 64 bits. join_wide, meet_wide: of two times. Meet: of an optional time
-- Packed: all times of a state are so, and unless a limit was passed it has at most 1,024 moments
-- step_packed, start_packed, discover_packed: every state of discover_times is such a state
use Prim.Native.Nat.{ℕ, ◌<◌, ◌≤◌, ◌^◌}
use mathlib.Core.Bool.{false, ◌&&◌}
use mathlib.Core.List.{List}
use mathlib.Core.Option.{Option, none, some}
use mathlib.Core.Path.{◌≡◌}
use native.Mathlib.Omega.{arith}
use lib.Dec.{eqb, leb}
use lib.ListN.{length}
use borrow.Author.Tests.{ltb-false}
use Rattle.grid.specs.Times.{hi, lo, at, join, meet, joined, meet_onto, meets}
use Rattle.grid.specs.Frontiers.{beyond, short_of}
use Rattle.grid.proofs.Tests.{by-test, or_false_l, or_false_r}
use Rattle.grid.proofs.Lists.{All, nil, cons, all_imp, all_append, all_keep, all_map, all_put, all_puts, all_sort}
use Rattle.grid.proofs.Consolidate.{all_consolidate}
use Rattle.rules.specs.Histories.{Edit, time_of, joined_edit, load_times, load_edits, stepped, moved, advance_times, advance_edits}
use Rattle.rules.specs.Discover.{State, most_moments, start, next, seeds_past, tracked_past, known, interesting, is_moment, input_past, output_past, made_of_buffers, made_short, made_beyond, joins, made, waiting_past, pended_past, moments_past, passes, acted, remaining, remeet, step, discover}
use Rattle.rules.proofs.Histories.{strict_earlier, strict_by_value}
use Rattle.rules.proofs.Order.{all_front, all_past, seeds_left, input_left, output_left, each_remaining, next_in, all_joins, run-keeps}

abbrev pub Wide : ℕ → Type 0
Wide n = n < 2 ^ 64

join_wide : (s t : ℕ) → Wide s → Wide t → Wide (join s t)
unfolding join at hi lo
join_wide s t h k = omega arith

meet_wide : (s t : ℕ) → Wide s → Wide t → Wide (meet s t)
unfolding meet at hi lo
meet_wide s t h k = omega arith

-- ---- a meet that may be absent
pub data Meet : Option ℕ → Type 0 where
  absent : Meet none
  present : {m : ℕ} → Wide m → Meet (some m)

onto_wide : (t : ℕ) {o : Option ℕ} → Wide t → Meet o → Wide (meet_onto t o)
unfolding meet_onto
onto_wide t h absent = h
onto_wide t h (present {m = m} k) = meet_wide t m h k

meets_wide : {ts : List ℕ} → All Wide ts → Meet (meets ts none)
unfolding meets
meets_wide nil = absent
meets_wide (cons {x = t} h a) = present (onto_wide t h (meets_wide a))

joined_wide : {m : Option ℕ} → Meet m → (t : ℕ) → Wide t → Wide (joined m t)
unfolding joined
joined_wide absent t h = h
joined_wide (present {m = m} k) t h = join_wide m t k h

-- ---- loads and advances
abbrev WideEdit : Edit → Type 0
WideEdit e = Wide e.0.0

joined_edit_lem : {m : Option ℕ} → Meet m → (e : Edit) → WideEdit e → WideEdit (joined_edit m e)
unfolding joined_edit
joined_edit_lem k e h = joined_wide k e.0.0 h

load_times_lem : {m : Option ℕ} → Meet m → {ts : List ℕ} → All Wide ts → All Wide (load_times m ts)
unfolding load_times
load_times_lem {m} k a = all_sort leb (all_map (joined m) (all_imp (joined_wide k) a))

load_edits_lem : {m : Option ℕ} → Meet m → {es : List Edit} → All WideEdit es → All WideEdit (load_edits m es)
unfolding load_edits
load_edits_lem {m} k a = all_consolidate strict_earlier (λ (p : ℕ × ℕ). Wide p.0) (all_map (joined_edit m) (all_imp (joined_edit_lem k) a))

advance_times_lem : {m : Option ℕ} → Meet m → {ts : List ℕ} → All Wide ts → All Wide (advance_times m ts)
unfolding advance_times
advance_times_lem absent a = a
advance_times_lem (present {m = m} k) a = all_puts (all_map (join m) (all_imp (λ t h. join_wide m t k h) a)) nil

advance_edits_lem : {m : Option ℕ} → Meet m → {es : List Edit} → All WideEdit es → All WideEdit (advance_edits m es)
unfolding advance_edits
advance_edits_lem absent a = a
advance_edits_lem (present {m = m} k) a = all_consolidate strict_by_value (λ (p : ℕ × ℕ). Wide p.0) (all_map (joined_edit (some m)) (all_imp (joined_edit_lem (present k)) a))

-- ---- states
pub record Packed (s : State) : Type 0 where
  pub seeds : All Wide s.seeds.ahead
  pub seed_buffer : All Wide s.seeds.buffer
  pub pending : All Wide s.pending
  pub input : All WideEdit s.input.ahead
  pub input_buffer : All WideEdit s.input.buffer
  pub output : All Wide s.output.ahead
  pub output_buffer : All Wide s.output.buffer
  pub waiting : All Wide s.waiting
  pub tracked : All Wide s.tracked
  pub m : Meet s.m
  pub moments : All Wide s.moments
  pub pended : All Wide s.pended
  pub few : s.over ≡ false → length s.moments ≤ most_moments

remaining_wide : (s : State) → Packed s → All Wide (remaining s)
unfolding time_of
remaining_wide s P = each_remaining s (record { seeds = P.seeds; pending = P.pending; input = all_map time_of P.input; output = P.output; waiting = P.waiting })

module _ (upper : List ℕ) (n : ℕ) (s : State) (P : Packed s) (w : Wide n) where
  seeds_past_lem : All Wide (seeds_past n s).buffer
  unfolding seeds_past stepped
  seeds_past_lem =
      let a = all_append P.seed_buffer (all_front (eqb n) P.seeds) in
      by-test (moved (eqb n) s.seeds.ahead) (λ e. rw e (advance_times_lem P.m a)) (λ e. rw e a)

  tracked_past_lem : All Wide (tracked_past n s)
  unfolding tracked_past
  tracked_past_lem = all_append P.tracked (all_append (all_front (eqb n) P.pending) (all_front (eqb n) P.waiting))

  input_past_lem : All WideEdit (input_past upper n s).buffer
  unfolding input_past stepped
  input_past_lem =
      let a = all_append P.input_buffer (all_front (λ e. eqb n (time_of e)) P.input) in
      by-test (is_moment upper n s) (λ e. rw e (advance_edits_lem P.m a)) (λ e. rw e a)

  output_past_lem : All Wide (output_past upper n s).buffer
  unfolding output_past stepped
  output_past_lem =
      let a = all_append P.output_buffer (all_front (eqb n) P.output) in
      by-test (is_moment upper n s) (λ e. rw e (advance_times_lem P.m a)) (λ e. rw e a)

  joins_wide : {ts : List ℕ} → All Wide ts → All Wide (joins n ts)
  joins_wide a = all_joins n (all_imp (λ t h u. join_wide n t w h) a)

  buffers_wide : All Wide (made_of_buffers upper n s)
  unfolding made_of_buffers time_of
  buffers_wide = by-test (is_moment upper n s) (λ c. rw c (joins_wide (all_append (all_map time_of input_past_lem) output_past_lem))) (λ c. rw c nil)

  made_wide : All Wide (made upper n s)
  unfolding made made_beyond made_short known
  made_wide = by-test (beyond upper n) (λ e. rw e nil) (λ e. rw e (all_append buffers_wide (joins_wide (all_append seeds_past_lem tracked_past_lem))))

  moments_past_lem : All Wide (moments_past upper n s)
  unfolding moments_past
  moments_past_lem = by-test (is_moment upper n s) (λ c. rw c (all_append P.moments (cons w nil))) (λ c. rw c P.moments)

  pended_past_lem : All Wide (pended_past upper n s)
  unfolding pended_past
  pended_past_lem =
      all_puts (all_keep (beyond upper) made_wide)
      (by-test (beyond upper n && interesting n s) (λ c. rw c (all_put n w P.pended)) (λ c. rw c P.pended))

  waiting_past_lem : All Wide (waiting_past upper n s)
  unfolding waiting_past
  waiting_past_lem = all_puts (all_keep (short_of upper) made_wide) (all_past (eqb n) P.waiting)

  acted_packed : Packed (acted upper n s)
  unfolding acted passes
  acted_packed = record {
    seeds = rw (seeds_left n s) (all_past (eqb n) P.seeds);
    seed_buffer = seeds_past_lem;
    pending = all_past (eqb n) P.pending;
    input = rw (input_left upper n s) (all_past (λ e. eqb n (time_of e)) P.input);
    input_buffer = input_past_lem;
    output = rw (output_left upper n s) (all_past (eqb n) P.output);
    output_buffer = output_past_lem;
    waiting = waiting_past_lem;
    tracked = tracked_past_lem;
    m = P.m;
    moments = moments_past_lem;
    pended = pended_past_lem;
    few = λ e. ltb-false most_moments (length (moments_past upper n s)) (or_false_l (passes (moments_past upper n s)) _ (or_false_r s.over _ e));
  }

remeet_packed : (s : State) → Packed s → Packed (remeet s)
unfolding remeet
remeet_packed s P =
    let k = meets_wide (remaining_wide s P) in
    record {
      seeds = P.seeds;
      seed_buffer = P.seed_buffer;
      pending = P.pending;
      input = P.input;
      input_buffer = P.input_buffer;
      output = P.output;
      output_buffer = P.output_buffer;
      waiting = P.waiting;
      tracked = all_puts (all_map (joined (meets (remaining s) none)) (all_imp (joined_wide k) P.tracked)) nil;
      m = k;
      moments = P.moments;
      pended = P.pended;
      few = P.few;
    }

step_packed : (upper : List ℕ) (s : State) (n : ℕ) → next s ≡ some n → Packed s → Packed (step upper n s)
unfolding step
step_packed upper s n e P = remeet_packed (acted upper n s) (acted_packed upper n s P (next_in Wide s n e (remaining_wide s P)))

module _ (upper : List ℕ) {seeds pending : List ℕ} {input : List Edit} {output : List ℕ} (a : All Wide seeds) (b : All Wide pending) (c : All WideEdit input) (d : All Wide output) where
  start_packed : Packed (start seeds pending input output)
  unfolding start
  start_packed =
      let k = meets_wide (all_append a b) in
      record {
        seeds = load_times_lem absent a;
        seed_buffer = nil;
        pending = b;
        input = load_edits_lem k c;
        input_buffer = nil;
        output = load_times_lem k d;
        output_buffer = nil;
        waiting = nil;
        tracked = nil;
        m = k;
        moments = nil;
        pended = nil;
        few = λ e. omega arith;
      }

  pub discover_packed : Packed (discover upper seeds pending input output)
  unfolding discover
  discover_packed = run-keeps Packed upper (step_packed upper) _ (start seeds pending input output) start_packed
