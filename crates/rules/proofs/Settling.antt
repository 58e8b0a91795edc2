-- One step of discover_times, and of rightness: with the corrections of the moments so far the output is right at every live time that a seed
-- or pending time is at or below and nothing that remains, whatever the output was before.
--
-- Live D: D s t says at which times t the state s keeps that. live_short: at those short of upper
-- Touched t: some seed or pending time is at or below t. touched-under: so the first meet is under t
-- Replay: the state comes from the replay. Settling: and the output is right as said. step_settling: a step keeps it
use Prim.Native.Nat.{ℕ, ◌<◌, ◌≤◌}
use mathlib.Core.Bool.{Bool, true, false, ◌||◌}
use mathlib.Core.List.{List, ◌++◌, map}
use mathlib.Core.Option.{some}
use mathlib.Core.Path.{◌≡◌, refl, sym, ◌∙◌, ap, ap₂}
use native.Mathlib.Omega.{arith}
use lib.Dec.{leb, eqb}
use lib.IntN.{◌+ℤ◌}
use borrow.Author.Tests.{leb-true, leb-false}
use Rattle.grid.specs.Lists.{any}
use Rattle.grid.specs.Times.{hi, join, below}
use Rattle.grid.specs.Frontiers.{beyond, short_of}
use Rattle.grid.proofs.Tests.{by-test, clash, and_i, or_false_r}
use Rattle.grid.proofs.Lists.{All, all_of, all_imp, all_both, all_append, all_l, all_r, map_all}
use Rattle.grid.proofs.Times.{Below, below_true, true_below, below_le, below_trans, below_refl, join-least}
use Rattle.grid.proofs.Frontiers.{short_down}
use Rattle.grid.proofs.Meets.{any_unseen, unseen_any, any_below, Unseen, Under, under_trans, meets_under, same-below, false_unseen, later_unseen}
use Rattle.grid.proofs.Consolidate.{tally}
use Rattle.rules.specs.Histories.{Edit, time_of, load_edits, moved}
use Rattle.rules.specs.Discover.{State, next, known, interesting, is_moment, input_past, output_past, made_of_buffers, made_short, made, joins, moments_past, acted, remaining, remeet, step}
use Rattle.rules.specs.Backends.{wanted}
use Rattle.rules.specs.Retire.{seen}
use Rattle.rules.specs.Right.{Right}
use Rattle.rules.proofs.Histories.{visible, load_visible, Downward, IfSeen}
use Rattle.rules.proofs.Retire.{tally_seen, seen_ext, same_visible, visible_append, right_as, fix_at, fix-times, fix_right, fix_unseen, corrected, corrected_last, corrections-times}
use Rattle.rules.proofs.Order.{Each, remaining_each, next-least, joins_all, step_back, step-made, step-above}
use Rattle.rules.proofs.Corners.{corner, corner_below, corner_self, corner_before, corner_left, left_of, Within, level_corners, corners_level}
use Rattle.rules.proofs.Walk.{first_meet, Heard, acted_heard, Replayed, under_next, visited_next, unvisited_next, step_replayed}

-- ---- live times
pub record Live (upper : List ℕ) (D : State → ℕ → Type 0) : Type 0 where
  -- what is at or below a live time is live, and what is live after a step was so before
  pub down : (s : State) (r t : ℕ) → Below r t → D s t → D s r
  pub back : (s : State) (n t : ℕ) → D (step upper n s) t → D s t
  -- an interesting time at or below a live one is a moment
  pub short : (s : State) (n t : ℕ) → D (step upper n s) t → Below n t → interesting n s ≡ true → beyond upper n ≡ false
  -- if a live time above n sees none of the joins that wait, it sees none of the joins of n
  pub joined : (s : State) (n t : ℕ) → D (step upper n s) t → Below n t → All (λ x. short_of upper x ≡ true → Unseen t x) (made upper n s) → All (Unseen t) (made_short upper n s)

pub live_short : (upper : List ℕ) → Live upper (λ s t. beyond upper t ≡ false)
unfolding made
live_short upper = record {
  down = λ s r t b d. short_down upper r t b d;
  back = λ s n t d. d;
  short = λ s n t d b i. short_down upper n t b d;
  joined = λ s n t d b h.
      let k : All (λ x. short_of upper x ≡ true → Unseen t x) (made_short upper n s) = rw (short_down upper n t b d) at h in
      all_imp (λ x f u. f (rw (short_down upper x t u d)) u) k;
}

-- ---- seen from n what is seen from t
down_below : (n : ℕ) → Downward (λ x. Below x n)
down_below n = record { down = λ s t a b. below_trans s t n a b }

down_none : Downward (λ x. ⊥)
down_none = record { down = λ s t a b. b }

close_joins : (n t : ℕ) → Below n t → {xs : List ℕ} → All (λ x. Unseen n x → Unseen t (join n x)) xs → All (IfSeen t (λ x. Below x n)) xs
close_joins n t b h = all_imp (λ x f u. by-test (below x n) (λ e. below_true x n e) (λ e. absurd (f (false_unseen n x e) (join-least n x t b u)))) h

close_same : (n t x : ℕ) → Below n t → IfSeen t (λ x. Below x n) x → below x t ≡ below x n
close_same n t x b f = same-below x t x n f (λ u. below_trans x n t u b)

any_close : (n t : ℕ) (xs : List ℕ) → All (IfSeen t (λ x. Below x n)) xs → any (λ x. below x t) xs ≡ true → any (λ x. below x n) xs ≡ true
any_close n t xs h e =
    by-test (any (λ x. below x n) xs) (λ c. c) (λ c. absurd (any_below t xs e (all_imp (λ x k u. k.0 (k.1 u)) (all_both (any_unseen n xs c) h))))

-- ---- one key
module _ (mode : ℕ) (upper seeds pending : List ℕ) (input output : List Edit) {D : State → ℕ → Type 0} (live : Live upper D) where
  abbrev pub Touched : ℕ → Type 0
  Touched t = any (λ x. below x t) (seeds ++ pending) ≡ true

  abbrev pub Replay : State → Type 1
  Replay s = Replayed upper seeds pending input output s

  abbrev ins : List Edit
  ins = load_edits (first_meet seeds pending) input

  pub touched-under : (t : ℕ) → Touched t → Under (first_meet seeds pending) t
  touched-under t e = any_below t (seeds ++ pending) e (all_imp (λ x u b. under_trans (first_meet seeds pending) x t u b) (meets_under (seeds ++ pending)))

  loaded_visible : (t : ℕ) → Under (first_meet seeds pending) t → (p : ℕ → Bool) → tally (visible t p) ins ≡ tally (visible t p) input
  loaded_visible t u p = load_visible (first_meet seeds pending) t p u input

  pub record Settling (s : State) : Type 1 where
    pub replayed : Replay s
    pub right : (t : ℕ) → D s t → All (Unseen t) (remaining s) → Touched t → Right mode input (corrected mode input output s.moments) t

  module _ (n : ℕ) (s : State) (before : Settling s) (e : next s ≡ some n) (t : ℕ) (d : D (step upper n s) t) (fresh : All (Unseen t) (remaining (step upper n s))) (touched : Touched t) where
    abbrev replay : Replay s
    replay = before.replayed

    acted_hears : Heard upper seeds pending input output s.m (acted upper n s)
    acted_hears = acted_heard upper seeds pending input output n s replay.heard

    under_n : Under s.m n
    under_n = under_next upper seeds pending input output n s replay e

    gone : Each (Unseen t) (step upper n s)
    gone = remaining_each (step upper n s) fresh

    abbrev so_far : List Edit
    so_far = corrected mode input output s.moments

    -- t does not see n
    aside : Unseen t n → Right mode input so_far t
    aside f = before.right t (live.back s n t d) (step_back upper n s fresh f) touched

    -- t sees n
    module _ (b : Below n t) where
      made_unseen : All (Unseen t) (made_short upper n s)
      made_unseen = live.joined s n t d b (step-made upper n s fresh)

      under_t : Under s.m t
      under_t = under_trans s.m n t under_n b

      close_known : All (IfSeen t (λ x. Below x n)) (known n s)
      unfolding made_short
      close_known = close_joins n t b (joins_all n (known n s) (all_r (made_of_buffers upper n s) (joins n (known n s)) made_unseen))

      -- every seed or pending time that t sees, n sees
      close_touching : All (IfSeen t (λ x. Below x n)) (seeds ++ pending)
      unfolding step remeet acted known
      close_touching = acted_hears.touching (down_below n) t under_t close_known (all_imp (λ x f u. absurd (f u)) gone.seeds) (all_imp (λ x f u. absurd (f u)) gone.pending)

      touched_n : Touched n
      touched_n = any_close n t (seeds ++ pending) close_touching touched

      -- so n is interesting, and a moment
      later : Each (Unseen n) (step upper n s)
      later = remaining_each (step upper n s) (all_imp (λ x l. later_unseen l) (step-above upper n s replay.ordered e))

      interesting_n : interesting n s ≡ true
      unfolding step remeet acted known interesting
      interesting_n =
          by-test (interesting n s) (λ c. c)
          (λ c. let unknown = any_unseen n (known n s) (or_false_r (moved (eqb n) s.seeds.ahead || (moved (eqb n) s.pending || moved (eqb n) s.waiting)) (any (λ x. below x n) (known n s)) c) in
          clash (any (λ x. below x n) (seeds ++ pending)) touched_n (unseen_any n (acted_hears.touching down_none n under_n unknown later.seeds later.pending)))

      moment_n : is_moment upper n s ≡ true
      unfolding is_moment
      moment_n = and_i (interesting n s) (short_of upper n) interesting_n (rw (live.short s n t d b interesting_n))

      close_buffers : All (IfSeen t (λ x. Below x n)) (map time_of (input_past upper n s).buffer ++ (output_past upper n s).buffer)
      unfolding made_short made_of_buffers
      close_buffers =
          close_joins n t b
          (joins_all n (map time_of (input_past upper n s).buffer ++ (output_past upper n s).buffer)
          (rw moment_n at (all_l (made_of_buffers upper n s) (joins n (known n s)) made_unseen)))

      close_output : All (λ e. IfSeen t (λ x. Below x n) e.0.0) output
      unfolding step remeet acted
      close_output =
          acted_hears.outputs (down_below n) t under_t (all_r (map time_of (input_past upper n s).buffer) (output_past upper n s).buffer close_buffers)
          (all_imp (λ x f u. absurd (f u)) gone.output)

      -- t sees the input that n sees
      same-loaded : (p : ℕ → Bool) → tally (visible t p) ins ≡ tally (visible n p) ins
      unfolding step remeet acted time_of
      same-loaded p =
          sym (acted_hears.edits t under_t p)
          ∙ same_visible t n p
          (all_imp (λ (e : Edit) f. close_same n t e.0.0 b f)
          (all_append (map_all time_of (input_past upper n s).buffer (all_l (map time_of (input_past upper n s).buffer) (output_past upper n s).buffer close_buffers))
          (all_imp (λ (e : Edit) f u. absurd (f u)) (map_all time_of (input_past upper n s).ahead gone.input))))
          ∙ acted_hears.edits n under_n p

      same_input : seen n input ≡ seen t input
      same_input =
          seen_ext n t input input
          (λ p. sym (loaded_visible n (replay.rose n under_n) p) ∙ sym (same-loaded p) ∙ loaded_visible t (replay.rose t under_t) p)

      -- what t sees was visited by n
      visited_n : All (λ k. k < n) s.moments
      visited_n = visited_next upper seeds pending input output n s replay e

      within_input : Within n t ins
      unfolding step remeet acted
      within_input =
          all_imp (λ (x : Edit) f u. by-test (leb x.0.0 n) (λ c. leb-true x.0.0 n c) (λ c. absurd (f (leb-false x.0.0 n c) u)))
          (unvisited_next upper seeds pending input output n s replay e (Unseen t) gone.input)

      within_output : Within n t so_far
      within_output =
          all_append (all_imp (λ (x : Edit) f u. below_le x.0.0 n (f u)) close_output)
          (corrections-times mode input output (all_imp (λ k l u. omega arith) visited_n))

      -- the corners are touched: the output is right at both, so it is the same at both
      level-touched : 0 < hi n → Touched (corner n n) → (p : ℕ → Bool) → tally (visible t p) so_far ≡ tally (visible n p) so_far
      level-touched z c p = corners_level n t p b z within_output (sym (tally_seen (corner n n) p so_far) ∙ ap (tally p) same_corners ∙ tally_seen (corner n t) p so_far)
        where
          c' : Touched (corner n t)
          c' = any_close (corner n t) (corner n n) (seeds ++ pending) (all_of (λ x u. below_trans x (corner n n) (corner n t) u (corner_self n t b)) (seeds ++ pending)) c

          at_corner : (r : ℕ) → r < n → Below r t → Touched r → Right mode input so_far r
          at_corner r l v c = before.right r (live.down s r t v (live.back s n t d)) (all_imp (λ x k. later_unseen (less x k l)) (next-least s replay.ordered n e)) c
            where
              less : (x : ℕ) → n ≤ x → r < n → r < x
              less x k l = omega arith

          corners_input : seen (corner n n) input ≡ seen (corner n t) input
          corners_input =
              seen_ext (corner n n) (corner n t) input input
              (λ p'. sym (loaded_visible (corner n n) (touched-under (corner n n) c) p') ∙ level_corners n t p' b z within_input (same-loaded p') ∙ loaded_visible (corner n t) (touched-under (corner n t) c') p')

          same_corners : seen (corner n n) so_far ≡ seen (corner n t) so_far
          same_corners =
              (at_corner (corner n n) (corner_before n n z) (below_trans (corner n n) (corner n t) t (corner_self n t b) (corner_below n t b)) c).is_reduction
              ∙ ap (wanted mode) corners_input
              ∙ sym (at_corner (corner n t) (corner_before n t z) (corner_below n t b) c').is_reduction

      -- the lower corner is not touched: t sees no moment that n does not see
      left_unseen : any (λ x. below x (corner n n)) (seeds ++ pending) ≡ false → All (Unseen (corner n t)) s.moments
      left_unseen c =
          (replay.grounded (corner n t)
          (all_imp (λ x k u. k.0 (corner_left x n t u (k.1 (below_trans x (corner n t) t u (corner_below n t b)))))
          (all_both (any_unseen (corner n n) (seeds ++ pending) c) close_touching))).moments

      level_untouched : All (λ k. 0 < hi n → Unseen (corner n t) k) s.moments → (p : ℕ → Bool) → tally (visible t p) so_far ≡ tally (visible n p) so_far
      level_untouched h p =
          same_visible t n p
          (all_imp (λ (x : Edit) f. close_same n t x.0.0 b f)
          (all_append close_output (corrections-times mode input output (all_imp (λ k q. close k q.0 q.1) (all_both visited_n h)))))
        where
          close : (k : ℕ) → k < n → (0 < hi n → Unseen (corner n t) k) → IfSeen t (λ x. Below x n) k
          close k l f u =
              by-test (below k n) (λ c. below_true k n c) (λ c. let q = left_of k n t (omega arith) u (false_unseen n k c) in absurd (f q.0 q.1))

      level : (p : ℕ → Bool) → tally (visible t p) so_far ≡ tally (visible n p) so_far
      level p =
          by-test (any (λ x. below x (corner n n)) (seeds ++ pending))
          (λ c. by-test (leb 1 (hi n)) (λ z. level-touched (leb-true 1 (hi n) z) c p) (λ z. level_untouched (all_of (λ k l. absurd (no (leb-false 1 (hi n) z) l)) s.moments) p))
          (λ c. level_untouched (all_imp (λ k f z. f) (left_unseen c)) p)
        where
          no : hi n < 1 → 0 < hi n → ⊥
          no a l = omega arith

      settled_n : Right mode input (so_far ++ fix_at mode input so_far n) t
      settled_n =
          right_as mode n t same_input
          (seen_ext n t (so_far ++ fix_at mode input so_far n) (so_far ++ fix_at mode input so_far n)
          (λ p. visible_append n p so_far (fix_at mode input so_far n)
          ∙ ap₂ ◌+ℤ◌ (sym (level p)) (same_visible n t p (fix-times mode input so_far (λ x. below x n ≡ below x t) n (true_below n n (below_refl n) ∙ sym (true_below n t b))))
          ∙ sym (visible_append t p so_far (fix_at mode input so_far n))))
          (fix_right mode input so_far n)

    moments_n : is_moment upper n s ≡ true → corrected mode input output (step upper n s).moments ≡ so_far ++ fix_at mode input so_far n
    unfolding step remeet acted moments_past
    moments_n c = rw c (corrected_last mode input output s.moments n)

    no_moment : is_moment upper n s ≡ false → (step upper n s).moments ≡ s.moments
    unfolding step remeet acted moments_past
    no_moment c = rw c

    step_right : Right mode input (corrected mode input output (step upper n s).moments) t
    step_right =
        by-test (below n t)
        (λ v. let b = below_true n t v in rw (moments_n (moment_n b)) (settled_n b))
        (λ v. let f = false_unseen t n v in
        by-test (is_moment upper n s)
        (λ c. rw (moments_n c) (right_as mode t t refl (sym (fix_unseen mode input so_far n t f)) (aside f)))
        (λ c. rw (no_moment c) (aside f)))

  pub step_settling : (s : State) (n : ℕ) → next s ≡ some n → Settling s → Settling (step upper n s)
  step_settling s n e before = record { replayed = step_replayed upper seeds pending input output n s before.replayed e; right = step_right n s before e }
