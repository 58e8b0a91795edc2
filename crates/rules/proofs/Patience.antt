-- Patience, over runs of calls: a pending time is in the next list of every accepted call whose upper it is beyond; in the first whose upper
-- it is short of it is a moment of its key, settled in the round numbered by its place among that key's moments, and right after that round.
--
-- settle_right: after a moment's round the output is right at it
-- quiet_held: in a quiet call no time that check 17 passes is short of upper
-- patient_call: one accepted call
-- patience: a run of calls
use Prim.Native.Nat.{ℕ, zero, suc, ◌<◌}
use mathlib.Core.Bool.{true, false}
use mathlib.Core.List.{List, [], ◌∷◌, ◌++◌, append_assoc, append-nil}
use mathlib.Core.Logic.{⊎_elim}
use mathlib.Core.Path.{◌≡◌, refl, sym, ◌∙◌, ap}
use native.Mathlib.Omega.{arith}
use lib.Dec.{eqb, ltb}
use lib.ListN.{length, take, get_or}
use borrow.Author.Tests.{eqb-true, eqb-false, leb-true}
use Rattle.grid.specs.Lists.{any, every, is_empty, ascending}
use Rattle.grid.specs.Times.{below}
use Rattle.grid.specs.Frontiers.{beyond}
use Rattle.grid.proofs.Tests.{by-test, clash, and_r, or_cases}
use Rattle.grid.proofs.Lists.{All, cons, nil, all_imp, all_r, all_keep, all_map, none_all, any_none, every_all, all_at}
use Rattle.grid.proofs.Times.{below_true}
use Rattle.grid.proofs.Frontiers.{beyond_up}
use Rattle.rules.specs.Histories.{Edit}
use Rattle.rules.specs.Retire.{round_at, settle, corrections}
use Rattle.rules.specs.Call.{Request, check15, is_held, check17, quiet, unchanged, together, edits_of, times_of, pending_of, work, work_all, too_many, pended_all, quiet_answer, call}
use Rattle.rules.specs.Right.{Right}
use Rattle.rules.specs.Runs.{accepted, lists, Run, ends, goes_on, passes_over, work_of, Settled, Waits, no_more, unheard, listed, settled}
use Rattle.rules.proofs.Retire.{fix_at, fix_right}
use Rattle.rules.proofs.Fixes.{settle-times}
use Rattle.rules.proofs.Joins.{join_of, join_moment, roots_pended}
use Rattle.rules.proofs.Statuses.{Accepted, Works, call_rows, call_limits, call-worked, call-quiet}
use Rattle.rules.proofs.Keys.{changed_whole, changed_pending, pending_of_lem, pended_listed}
use Rattle.rules.proofs.Work.{pending_ascends}

-- ---- a key's rounds
pub settle_right : (mode : ℕ) (input output : List Edit) (ts : List ℕ) (place : ℕ) → place < length ts → Right mode input (output ++ corrections (take (suc place) (settle mode input output ts))) (get_or ts place 0)
unfolding settle corrections fix_at round_at
settle_right mode input output [] place h = absurd (omega arith)
settle_right mode input output (t ∷ ts) zero h = rw append-nil (fix_right mode input output t)
settle_right mode input output (t ∷ ts) (suc place) h = rw (← append_assoc) (settle_right mode input (output ++ fix_at mode input output t) ts place (omega arith))

-- ---- one call
-- in a quiet call a time that check 17 passes is beyond upper, since every held time is
pub quiet_held : (q : Request) → quiet q ≡ true → (t : ℕ) → is_held q t ≡ true → beyond q.upper t ≡ true
unfolding is_held quiet beyond
quiet_held q e t h = ⊎_elim (λ far. far) held (or_cases (beyond q.upper t) (beyond q.held t) h)
  where
    held : beyond q.held t ≡ true → beyond q.upper t ≡ true
    held b =
        by-test (beyond q.upper t) (λ c. c)
        (λ c. clash (beyond q.held t) b
        (any_none (λ u. below u t) q.held
        (all_imp (λ u far. by-test (below u t) (λ d. clash (beyond q.upper t) (beyond_up q.upper u t (below_true u t d) far) c) (λ d. d)) (every_all (beyond q.upper) q.held e))))

-- where an element of a list stands
pub record Place (t : ℕ) (ts : List ℕ) : Type 0 where
  pub place : ℕ
  pub within : place < length ts
  pub there : get_or ts place 0 ≡ t

place_of : (t : ℕ) (ts : List ℕ) → any (eqb t) ts ≡ true → Place t ts
place_of t [] e = clash false e refl
place_of t (u ∷ us) e =
    by-test (eqb t u)
    (λ c. record { place = 0; within = omega arith; there = sym (eqb-true t u c) })
    (λ c. let r = place_of t us (rw c at e) in record { place = suc r.place; within = omega (arith, r.within); there = r.there })

module _ (q : Request) (k t : ℕ) (here : lists q.pending k t ≡ true) where
  root : any (eqb t) (pending_of k q.pending) ≡ true
  root = sym (pending_of_lem k t q.pending) ∙ here

  -- a call that works
  module _ (W : Works q) (few : too_many (work_all q) ≡ false) where
    whole : (work_of q k).found.over ≡ false
    whole = changed_whole q k few (changed_pending q k t here)

    rises : ascending ltb (pending_of k q.pending) ≡ true
    unfolding check15
    rises = pending_ascends k q.pending W.accepted.holds_15

    seeds_or : All (λ x. beyond q.upper x ≡ true → any (eqb x) (work_of q k).found.pended ≡ true) (pending_of k q.pending)
    unfolding work_of work
    seeds_or = all_r (times_of k q.new) (pending_of k q.pending) (roots_pended q.upper (times_of k q.new) (pending_of k q.pending) _ _ rises whole)

    stays : beyond q.upper t ≡ true → lists (pended_all (work_all q)) k t ≡ true
    stays far = pended_listed q k t (changed_pending q k t here) (all_at t (pending_of k q.pending) seeds_or root far)

    root_in : any (eqb t) (times_of k q.new ++ pending_of k q.pending) ≡ true
    root_in =
        by-test (any (eqb t) (times_of k q.new ++ pending_of k q.pending)) (λ c. c)
        (λ c. clash (any (eqb t) (pending_of k q.pending)) root (any_none (eqb t) (pending_of k q.pending) (all_r (times_of k q.new) _ (none_all (eqb t) _ c))))

    its_place : beyond q.upper t ≡ false → Place t (work_of q k).found.moments
    unfolding work_of work join_of
    its_place short = place_of t (work_of q k).found.moments (join_moment q.upper (times_of k q.new) (pending_of k q.pending) _ _ rises whole t [] (cons root_in nil) short)

    comes : beyond q.upper t ≡ false → Settled q k t
    unfolding work_of work
    comes short =
        let r = its_place short in
        let input = edits_of k (together q.old q.new) in
        record {
          place = r.place;
          within = r.within;
          moment = r.there;
          round = ap (λ ts. get_or ts r.place 0) (settle-times q.mode input (edits_of k q.out) (work_of q k).found.moments) ∙ r.there;
          right = rw r.there at (settle_right q.mode input (edits_of k q.out) (work_of q k).found.moments r.place r.within);
        }

  quiet_far : Accepted q → quiet q ≡ true → beyond q.upper t ≡ true
  unfolding check17 pending_of
  quiet_far A e =
      quiet_held q e t
      (all_at t (pending_of k q.pending)
      (all_map (λ (p : ℕ × ℕ). p.1) (all_keep (λ (p : ℕ × ℕ). eqb k p.0) (every_all (λ (p : ℕ × ℕ). is_held q p.1) q.pending (and_r (every (λ r. is_held q r.time) q.new) _ A.holds_17)))) root)

  unchanged_none : unchanged q ≡ true → ⊥
  unfolding unchanged lists
  unchanged_none e = go q.pending here (and_r (is_empty q.new) (is_empty q.pending) e)
    where
      go : (ps : List (ℕ × ℕ)) → lists ps k t ≡ true → is_empty ps ≡ true → ⊥
      go [] h c = clash false h refl
      go (p ∷ ps) h c = clash false c refl

  pub record Patient : Type 0 where
    pub waits : beyond q.upper t ≡ true → lists (call q).pending k t ≡ true
    pub comes_up : beyond q.upper t ≡ false → Settled q k t

  pub patient_call : accepted (call q) ≡ true → Patient
  unfolding accepted quiet_answer
  patient_call a =
      by-test (eqb (call q).status 0)
      (λ c. let W = (call_limits q).row_0.0 (eqb-true (call q).status 0 c) in
      record {
        waits = λ far. rw (call-worked q (eqb-true (call q).status 0 c)).pending_is (stays W.0 W.1 far);
        comes_up = λ short. comes W.0 W.1 short;
      })
      (λ c. by-test (eqb (call q).status 1)
      (λ d. let one = eqb-true (call q).status 1 d in
      let Q = (call_rows q).row_1.0 one in
      record {
        waits = λ far. copied one;
        comes_up = λ short. clash (beyond q.upper t) (quiet_far Q.0 Q.1) short;
      })
      (λ d. absurd (unchanged_none ((call_rows q).row_2.0 (two (eqb-false (call q).status 0 c) (eqb-false (call q).status 1 d))).2)))
    where
      copied : (call q).status ≡ 1 → lists (call q).pending k t ≡ true
      copied one = rw (call-quiet q one) here

      two : ((call q).status ≡ 0 → ⊥) → ((call q).status ≡ 1 → ⊥) → (call q).status ≡ 2
      two f g = omega (arith, leb-true (call q).status 2 a, f, g)

-- ---- runs of calls
pub patience : {ps : List (ℕ × ℕ)} {lower : List ℕ} {qs : List Request} → Run ps lower qs → (k t : ℕ) → lists ps k t ≡ true → Waits k t qs
patience ends k t h = no_more
patience (passes_over q refused r) k t h = unheard refused (patience r k t h)
patience (goes_on q taken r) k t h =
    let P = patient_call q k t h taken in
    by-test (beyond q.upper t)
    (λ far. listed taken far (P.waits far) (patience r k t (P.waits far)))
    (λ short. settled taken short (P.comes_up short))
