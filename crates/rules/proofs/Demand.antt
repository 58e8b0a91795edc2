-- Demand 3's rightness, for every key of an accepted call.
--
-- Before: what is supposed of the old output: it is right for the old input where no pending time of the key is at or below
-- call_settled: with nothing supposed, the output with the corrections is right at each touched time short of upper
-- call_right: under Before, it is right at every time short of upper
-- call_correct, call_only: the corrections are zero except at touched times short of upper and right at each of those; and they are the only ones
use Prim.Native.Nat.{ℕ}
use mathlib.Core.Bool.{Bool, true, false, ◌&&◌}
use mathlib.Core.List.{List, [], ◌∷◌, ◌++◌, map, append-nil}
use mathlib.Core.Path.{◌≡◌, refl, sym, ◌∙◌, ap}
use native.Mathlib.Omega.{arith}
use lib.Dec.{eqb}
use lib.IntN.{◌+ℤ◌}
use borrow.Author.Tests.{eqb-true, eqb-false, leb-true, not-true}
use Rattle.grid.specs.Lists.{any, every, is_empty}
use Rattle.grid.specs.Times.{below}
use Rattle.grid.specs.Frontiers.{beyond, short_of}
use Rattle.grid.specs.Consolidate.{consolidate}
use Rattle.grid.specs.Records.{Row, rank_before}
use Rattle.grid.proofs.Tests.{by-test, clash, and_l, and_r}
use Rattle.grid.proofs.Lists.{All, nil, head, all_imp, all_both, all_keep, all_map, any_none, every_all}
use Rattle.grid.proofs.Times.{below_true}
use Rattle.grid.proofs.Frontiers.{beyond_up}
use Rattle.grid.proofs.Consolidate.{tally}
use Rattle.rules.specs.Histories.{Edit}
use Rattle.rules.specs.Retire.{seen, corrections}
use Rattle.rules.specs.Call.{Request, Fix, Answer, is_held, check16, check17, unchanged, changed, edits_of, times_of, pending_of, work_all, too_many, refused, quiet_answer, call}
use Rattle.rules.specs.Right.{Right, RightAt, with_fixes, touched}
use Rattle.rules.specs.Runs.{accepted, work_of}
use Rattle.rules.proofs.Histories.{visible}
use Rattle.rules.proofs.Retire.{seen_ext, visible_append, right_as, empty_is}
use Rattle.rules.proofs.Settling.{live_short}
use Rattle.rules.proofs.Statuses.{Works, fixes_found, call_rows, call_limits, call-worked, call-quiet, call-refused}
use Rattle.rules.proofs.Fixes.{fixes-placed}
use Rattle.rules.proofs.Keys.{tally_fixes_found, changed_whole, unchanged_seeds, unchanged-edits, unchanged_pending}
use Rattle.rules.proofs.Work.{edits-append, done_settled, done_right_short}
use Rattle.rules.proofs.Only.{AllCorrect, ranked, only_records}
use Rattle.rules.proofs.Patience.{quiet_held}

pub record Before (q : Request) : Type 0 where
  pub right : (k t : ℕ) → beyond q.upper t ≡ false → any (λ x. below x t) (pending_of k q.pending) ≡ false → Right q.mode (edits_of k q.old) (edits_of k q.out) t

module _ (q : Request) where
  abbrev all_input : List Row
  all_input = q.old ++ q.new

  abbrev all_output : List Row
  all_output = with_fixes q.out (call q)

  -- ---- a call that works
  module _ (zero : (call q).status ≡ 0) where
    works : Works q
    works = ((call_limits q).row_0.0 zero).0

    few : too_many (work_all q) ≡ false
    few = ((call_limits q).row_0.0 zero).1

    -- what is seen of a key's output is what is seen of its old output and of edits with the tallies of its corrections
    fixed_seen : (k t : ℕ) (c : List Edit) → ((p : ℕ → Bool) → tally (visible t p) (edits_of k (map (λ (f : Fix). f.row) (fixes_found q))) ≡ tally (visible t p) c) → seen t (edits_of k q.out ++ c) ≡ seen t (edits_of k all_output)
    unfolding with_fixes
    fixed_seen k t c h =
        let fixes = map (λ (f : Fix). f.row) (fixes_found q) in
        seen_ext t t (edits_of k q.out ++ c) (edits_of k q.out ++ edits_of k fixes)
        (λ p. visible_append t p (edits_of k q.out) c ∙ ap (λ z. tally (visible t p) (edits_of k q.out) +ℤ z) (sym (h p)) ∙ sym (visible_append t p (edits_of k q.out) (edits_of k fixes)))
        ∙ ap (seen t) (sym (edits-append k q.out fixes) ∙ ap (λ fs. edits_of k (q.out ++ map (λ (f : Fix). f.row) fs)) (sym (call-worked q zero).fixes_are))

    changed_right : (k t : ℕ) → any (eqb k) (changed q) ≡ true → Right q.mode (edits_of k all_input) (edits_of k q.out ++ corrections (work_of q k).rounds) t → Right q.mode (edits_of k all_input) (edits_of k all_output) t
    changed_right k t c r = right_as q.mode t t refl (fixed_seen k t (corrections (work_of q k).rounds) (λ p. tally_fixes_found q k (visible t p) _ ∙ rw c)) r

    unchanged_right : (k t : ℕ) → any (eqb k) (changed q) ≡ false → Right q.mode (edits_of k q.old) (edits_of k q.out) t → Right q.mode (edits_of k all_input) (edits_of k all_output) t
    unchanged_right k t c r =
        right_as q.mode t t
        (ap (seen t) (sym (append-nil (edits_of k q.old)) ∙ ap (λ es. edits_of k q.old ++ es) (sym (unchanged-edits q k c)) ∙ sym (edits-append k q.old q.new)))
        (ap (seen t) (sym (append-nil (edits_of k q.out))) ∙ fixed_seen k t [] (λ p. tally_fixes_found q k (visible t p) _ ∙ rw c))
        r

    -- a touched key is a changed one
    touched-changed : (k t : ℕ) → touched q k t ≡ true → any (eqb k) (changed q) ≡ true
    unfolding touched
    touched-changed k t e =
        by-test (any (eqb k) (changed q)) (λ c. c)
        (λ c. clash (touched q k t) e (rw (unchanged_seeds q k c, unchanged_pending q k c)))

    worked_settled : (k t : ℕ) → beyond q.upper t ≡ false → touched q k t ≡ true → Right q.mode (edits_of k all_input) (edits_of k all_output) t
    unfolding work_of
    worked_settled k t short e =
        let c = touched-changed k t e in
        changed_right k t c (done_settled q k (live_short q.upper) works.accepted.holds_15 (changed_whole q k few c) t short e)

    worked_right : Before q → (k t : ℕ) → beyond q.upper t ≡ false → Right q.mode (edits_of k all_input) (edits_of k all_output) t
    unfolding work_of
    worked_right B k t short =
        by-test (any (eqb k) (changed q))
        (λ c. changed_right k t c (done_right_short q k works.accepted.holds_15 (changed_whole q k few c) (B.right k) t short))
        (λ c. unchanged_right k t c (B.right k t short (rw (unchanged_pending q k c))))

  -- ---- a quiet call, and one with nothing changed: no new record, no correction, and no pending time is seen short of upper
  record Still : Type 0 where
    no_new : q.new ≡ []
    no_fixes : (call q).fixes ≡ []
    unseen : (k t : ℕ) → beyond q.upper t ≡ false → any (λ x. below x t) (pending_of k q.pending) ≡ false

  none_empty : {A : Type 0} (xs : List A) → All (λ x. ⊥) xs → xs ≡ []
  none_empty [] h = refl
  none_empty (x ∷ xs) h = absurd (head h)

  quiet_still : (call q).status ≡ 1 → Still
  unfolding check16 check17 quiet_answer pending_of
  quiet_still one =
      let A = ((call_rows q).row_1.0 one).0 in
      let still = ((call_rows q).row_1.0 one).1 in
      let olds = every (λ r. short_of q.lower r.time) q.old && every (λ r. short_of q.lower r.time) q.out in
      let news = every (λ r. beyond q.lower r.time && short_of q.upper r.time) q.new in
      record {
        no_new =
            none_empty q.new
            (all_imp (λ r h. clash (beyond q.upper r.time) (quiet_held q still r.time h.1) (not-true (beyond q.upper r.time) (and_r (beyond q.lower r.time) _ h.0)))
            (all_both (every_all _ q.new (and_r olds news (and_l (olds && news) _ A.holds_16))) (every_all (λ r. is_held q r.time) q.new (and_l _ _ A.holds_17))));
        no_fixes = ap (λ (a : Answer). a.fixes) (call-quiet q one);
        unseen = λ k t short.
            any_none (λ x. below x t) (pending_of k q.pending)
            (all_map (λ (p : ℕ × ℕ). p.1) (all_keep (λ (p : ℕ × ℕ). eqb k p.0)
            (all_imp (λ (p : ℕ × ℕ) h. by-test (below p.1 t) (λ b. clash (beyond q.upper t) (beyond_up q.upper p.1 t (below_true p.1 t b) (quiet_held q still p.1 h)) short) (λ b. b))
            (every_all (λ (p : ℕ × ℕ). is_held q p.1) q.pending (and_r (every (λ r. is_held q r.time) q.new) _ A.holds_17)))));
      }

  unchanged_still : (call q).status ≡ 2 → Still
  unfolding unchanged pending_of refused
  unchanged_still two =
      let e = ((call_rows q).row_2.0 two).2 in
      record {
        no_new = empty_is q.new (and_l (is_empty q.new) _ e);
        no_fixes = ap (λ (a : Answer). a.fixes) (call-refused q (omega arith));
        unseen = λ k t short. rw (empty_is q.pending (and_r (is_empty q.new) _ e));
      }

  still_seen : Still → (k t : ℕ) → Right q.mode (edits_of k q.old) (edits_of k q.out) t → Right q.mode (edits_of k all_input) (edits_of k all_output) t
  unfolding with_fixes
  still_seen S k t r =
      right_as q.mode t t
      (ap (λ rs. seen t (edits_of k rs)) (sym (append-nil q.old) ∙ ap (λ rs. q.old ++ rs) (sym S.no_new)))
      (ap (λ rs. seen t (edits_of k rs)) (sym (append-nil q.out) ∙ ap (λ fs. q.out ++ map (λ (f : Fix). f.row) fs) (sym S.no_fixes))) r

  -- ---- every accepted call
  -- the three accepted statuses
  by_status : {C : Type 0} → accepted (call q) ≡ true → ((call q).status ≡ 0 → C) → (Still → C) → C
  unfolding accepted
  by_status a f g =
      by-test (eqb (call q).status 0) (λ c. f (eqb-true (call q).status 0 c))
      (λ c. by-test (eqb (call q).status 1) (λ d. g (quiet_still (eqb-true (call q).status 1 d)))
      (λ d. g (unchanged_still (two (eqb-false (call q).status 0 c) (eqb-false (call q).status 1 d)))))
    where
      two : ((call q).status ≡ 0 → ⊥) → ((call q).status ≡ 1 → ⊥) → (call q).status ≡ 2
      two f g = omega (arith, leb-true (call q).status 2 a, f, g)

  still_untouched : Still → (k t : ℕ) → beyond q.upper t ≡ false → touched q k t ≡ false
  unfolding touched times_of
  still_untouched S k t short = rw S.no_new (S.unseen k t short)

  pub call_settled : accepted (call q) ≡ true → (k t : ℕ) → beyond q.upper t ≡ false → touched q k t ≡ true → Right q.mode (edits_of k (q.old ++ q.new)) (edits_of k (with_fixes q.out (call q))) t
  call_settled a k t short e = by_status a (λ zero. worked_settled zero k t short e) (λ S. clash (touched q k t) e (still_untouched S k t short))

  pub call_right : accepted (call q) ≡ true → Before q → (t : ℕ) → beyond q.upper t ≡ false → RightAt q.mode (q.old ++ q.new) (with_fixes q.out (call q)) t
  call_right a B t short = record {
    each_key = λ k. by_status a (λ zero. worked_right zero B k t short) (λ S. still_seen S k t (B.right k t short (S.unseen k t short)));
  }

  pub call_correct : accepted (call q) ≡ true → AllCorrect q (q.old ++ q.new) (map (λ (f : Fix). f.row) (call q).fixes)
  unfolding with_fixes
  call_correct a = record {
    short = by_status a (λ zero. rw (call-worked q zero).fixes_are (all_map (λ (f : Fix). f.row) (all_imp (λ f P. P.short) (fixes-placed q (works zero).accepted)))) (λ S. rw S.no_fixes nil);
    rooted = by_status a (λ zero. rw (call-worked q zero).fixes_are (all_map (λ (f : Fix). f.row) (all_imp (λ f P. P.above) (fixes-placed q (works zero).accepted)))) (λ S. rw S.no_fixes nil);
    right = λ k t short e. call_settled a k t short e;
  }

  pub call_only : accepted (call q) ≡ true → (x : List Row) → AllCorrect q (q.old ++ q.new) x → consolidate rank_before (ranked x) ≡ consolidate rank_before (ranked (map (λ (f : Fix). f.row) (call q).fixes))
  call_only a x C = only_records C (call_correct a)
