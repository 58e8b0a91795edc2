-- The table of statuses: each status is given exactly when its row holds and no row that wins over it does, and its results are as the table
-- says.
--
-- first-row, first_none: the number of the first test that fails. without: no test has the number
-- call_one_of: a status is 0, 1, 2 or 11 to 19
-- Accepted: checks 11 to 17 hold. Works: that, and neither quiet nor unchanged. fixes_found: the corrections then
-- Rows, verdict-rows, call_rows: the rows 11 to 17, 1 and 2, of a verdict and of a call. verdict_none: none of them
-- Limits, call_limits: the rows 18, 19 and 0, of a call
-- Worked, call-worked: the results at 0. call-quiet: at 1. call-refused: at 2 and at 11 to 19
use Prim.Native.Nat.{ℕ, ◌<◌}
use mathlib.Core.Bool.{Bool, true, false, cond, ◌||◌, not}
use mathlib.Core.List.{List, [], ◌∷◌, ◌++◌, map}
use mathlib.Core.Logic.{◌↔◌}
use mathlib.Core.Path.{◌≡◌, refl, sym, ◌∙◌, subst}
use native.Mathlib.Omega.{arith}
use lib.Dec.{eqb}
use lib.ListN.{take, drop}
use borrow.Author.Tests.{eqb-true, eqb-false, eq-eqb, ne_eqb, not-true, not-false}
use Rattle.grid.specs.Lists.{any, every}
use Rattle.grid.proofs.Tests.{by-test, clash, and_l, and_r, or_l, or_r}
use Rattle.grid.proofs.Lists.{every_all, all_at}
use Rattle.grid.specs.Frontiers.{minimal}
use Rattle.rules.specs.Tiles.{tiles}
use Rattle.rules.specs.Retire.{crossings}
use Rattle.rules.specs.Call.{Request, Answer, Fix, check11, check12, check13, check14, check15, check16, check17, quiet, unchanged, first_failed, verdict, work_all, fixes_all, pended_all, crossed_of, too_many, too_large, refused, worked, quiet_answer, call}
use Rattle.rules.specs.Memory.{after}

-- ---- the first test that fails
-- no test of the list has the number n
abbrev pub without : ℕ → List (ℕ × Bool) → Bool
without n ps = every (λ p. not (eqb n p.0)) ps

first_without : (n : ℕ) (ps : List (ℕ × Bool)) → 0 < n → without n ps ≡ true → first_failed ps ≡ n → ⊥
first_without n [] h w e = omega arith
first_without n (p ∷ ps) h w e =
    by-test p.1
    (λ t. first_without n ps h (and_r (not (eqb n p.0)) (without n ps) w) (rw t at e))
    (λ t. let k : p.0 ≡ n = rw t at e in eqb-false n p.0 (not-true (eqb n p.0) (and_l _ (without n ps) w)) (sym k))

-- a number is the answer exactly if its test fails and the tests before it hold
pub first-row :
    (before : List (ℕ × Bool)) (n : ℕ) (b : Bool) (after : List (ℕ × Bool)) → 0 < n → without n before ≡ true → without n after ≡ true
    → (first_failed (before ++ ((n, b) ∷ after)) ≡ n) ↔ ((every (λ p. p.1) before ≡ true) × (b ≡ false))
first-row [] n b after h u v = (λ e. (refl, by-test b (λ t. absurd (first_without n after h v (rw t at e))) (λ t. t)), λ k. rw k.1)
first-row (p ∷ before) n b after h u v =
    by-test p.1 (λ t. rw t (first-row before n b after h (and_r (not (eqb n p.0)) (without n before) u) v))
    (λ t. rw t (
      λ e. absurd (eqb-false n p.0 (not-true (eqb n p.0) (and_l _ (without n before) u)) (sym e)),
      λ k. clash false k.0 refl,
    ))

-- no number is the answer exactly if every test holds
pub first_none : (ps : List (ℕ × Bool)) → without 0 ps ≡ true → (first_failed ps ≡ 0) ↔ (every (λ p. p.1) ps ≡ true)
first_none [] w = (λ e. refl, λ k. refl)
first_none (p ∷ ps) w =
    by-test p.1 (λ t. rw t (first_none ps (and_r (not (eqb 0 p.0)) (without 0 ps) w)))
    (λ t. rw t (
      λ e. absurd (eqb-false 0 p.0 (not-true (eqb 0 p.0) (and_l _ (without 0 ps) w)) (sym e)),
      λ k. clash false k refl,
    ))

or_wider : (a b c : Bool) → (a || c) ≡ true → (a || (b || c)) ≡ true
or_wider true b c e = refl
or_wider false b c e = or_r b c e

first_one_of : (ps : List (ℕ × Bool)) → any (eqb (first_failed ps)) (0 ∷ map (λ p. p.0) ps) ≡ true
first_one_of [] = refl
first_one_of (p ∷ ps) =
    let One : ℕ → Type 0 = λ n. any (eqb n) (0 ∷ p.0 ∷ map (λ q. q.0) ps) ≡ true in
    by-test p.1
    (λ t. let e : first_failed ps ≡ first_failed (p ∷ ps) = rw t refl in
    subst One e (or_wider (eqb (first_failed ps) 0) (eqb (first_failed ps) p.0) _ (first_one_of ps)))
    (λ t. let e : p.0 ≡ first_failed (p ∷ ps) = rw t refl in
    subst One e (or_r (eqb p.0 0) _ (or_l (eqb p.0 p.0) _ (eq-eqb p.0 p.0 refl))))

first-append : (ps qs : List (ℕ × Bool)) → without 0 ps ≡ true → first_failed (ps ++ qs) ≡ cond (eqb (first_failed ps) 0) (first_failed qs) (first_failed ps)
first-append [] qs w = refl
first-append (p ∷ ps) qs w =
    by-test p.1 (λ t. rw t (first-append ps qs (and_r (not (eqb 0 p.0)) (without 0 ps) w)))
    (λ t. rw (t, ne_eqb p.0 0 (λ e. eqb-false 0 p.0 (not-true (eqb 0 p.0) (and_l _ (without 0 ps) w)) (sym e))))

-- ---- the table
-- each status and the test that fails if its row holds, in the order in which they win: 11 to 17, then 1 and 2, then 18 and 19
abbrev checks : Request → List (ℕ × Bool)
checks q =
    (11, check11 q) ∷ (12, check12 q) ∷ (13, check13 q) ∷ (14, check14 q) ∷ (15, check15 q) ∷ (16, check16 q) ∷ (17, check17 q) ∷ []

abbrev rests : Request → List (ℕ × Bool)
rests q = (1, not (quiet q)) ∷ (2, not (unchanged q)) ∷ []

-- the corrections of a worked call
abbrev pub fixes_found : Request → List Fix
fixes_found q = fixes_all q (tiles q.lower q.upper q.held) (work_all q)

abbrev limits : Request → List (ℕ × Bool)
limits q = (18, not (too_many (work_all q))) ∷ (19, not (too_large (fixes_found q))) ∷ []

verdict-first : (q : Request) → verdict q ≡ first_failed (checks q ++ rests q)
unfolding verdict
verdict-first q = refl

worked-first : (q : Request) → (worked q).status ≡ first_failed (limits q)
unfolding worked refused
worked-first q =
    by-test (too_many (work_all q)) (λ e. rw e)
    (λ e. by-test (too_large (fixes_found q)) (λ e'. rw (e, e')) (λ e'. rw (e, e')))

call-verdict : (q : Request) → (call q).status ≡ cond (eqb (verdict q) 0) (worked q).status (verdict q)
unfolding call quiet_answer refused
call-verdict q =
    by-test (eqb (verdict q) 0) (λ e. rw e)
    (λ e. by-test (eqb (verdict q) 1) (λ e'. rw (e, e') (sym (eqb-true (verdict q) 1 e'))) (λ e'. rw (e, e')))

call-first : (q : Request) → (call q).status ≡ first_failed (checks q ++ (rests q ++ limits q))
call-first q = call-verdict q ∙ rw (worked-first q, verdict-first q) (sym (first-append (checks q ++ rests q) (limits q) refl))

pub call_one_of : (q : Request) → any (eqb (call q).status) (0 ∷ 11 ∷ 12 ∷ 13 ∷ 14 ∷ 15 ∷ 16 ∷ 17 ∷ 1 ∷ 2 ∷ 18 ∷ 19 ∷ []) ≡ true
call_one_of q = rw (call-first q) (first_one_of (checks q ++ (rests q ++ limits q)))

-- every one of these tests holds
abbrev pub hold : List Bool → Type 0
hold bs = every (λ b. b) bs ≡ true

pub record Accepted (q : Request) : Type 0 where
  pub holds_11 : check11 q ≡ true
  pub holds_12 : check12 q ≡ true
  pub holds_13 : check13 q ≡ true
  pub holds_14 : check14 q ≡ true
  pub holds_15 : check15 q ≡ true
  pub holds_16 : check16 q ≡ true
  pub holds_17 : check17 q ≡ true

accepted_checks : (q : Request) (more : List (ℕ × Bool)) → (every (λ p. p.1) (checks q ++ more) ≡ true) ↔ (Accepted q × (every (λ p. p.1) more ≡ true))
accepted_checks q more = (apart, λ k. together k.0 k.1)
  where
    apart : every (λ p. p.1) (checks q ++ more) ≡ true → Accepted q × (every (λ p. p.1) more ≡ true)
    apart e =
        let e12 = and_r (check11 q) _ e in
        let e13 = and_r (check12 q) _ e12 in
        let e14 = and_r (check13 q) _ e13 in
        let e15 = and_r (check14 q) _ e14 in
        let e16 = and_r (check15 q) _ e15 in
        let e17 = and_r (check16 q) _ e16 in (
          record {
            holds_11 = and_l _ _ e;
            holds_12 = and_l _ _ e12;
            holds_13 = and_l _ _ e13;
            holds_14 = and_l _ _ e14;
            holds_15 = and_l _ _ e15;
            holds_16 = and_l _ _ e16;
            holds_17 = and_l _ _ e17;
          },
          and_r (check17 q) _ e17,
        )

    together : Accepted q → every (λ p. p.1) more ≡ true → every (λ p. p.1) (checks q ++ more) ≡ true
    together a e = rw (a.holds_11, a.holds_12, a.holds_13, a.holds_14, a.holds_15, a.holds_16, a.holds_17) e

-- the rows 11 to 17, then 1, then 2, of a status
pub record Rows (q : Request) (status : ℕ) : Type 0 where
  pub row_11 : (status ≡ 11) ↔ (check11 q ≡ false)
  pub row_12 : (status ≡ 12) ↔ (hold (check11 q ∷ []) × (check12 q ≡ false))
  pub row_13 : (status ≡ 13) ↔ (hold (check11 q ∷ check12 q ∷ []) × (check13 q ≡ false))
  pub row_14 : (status ≡ 14) ↔ (hold (check11 q ∷ check12 q ∷ check13 q ∷ []) × (check14 q ≡ false))
  pub row_15 : (status ≡ 15) ↔ (hold (check11 q ∷ check12 q ∷ check13 q ∷ check14 q ∷ []) × (check15 q ≡ false))
  pub row_16 : (status ≡ 16) ↔ (hold (check11 q ∷ check12 q ∷ check13 q ∷ check14 q ∷ check15 q ∷ []) × (check16 q ≡ false))
  pub row_17 : (status ≡ 17) ↔ (hold (check11 q ∷ check12 q ∷ check13 q ∷ check14 q ∷ check15 q ∷ check16 q ∷ []) × (check17 q ≡ false))
  pub row_1 : (status ≡ 1) ↔ (Accepted q × (quiet q ≡ true))
  pub row_2 : (status ≡ 2) ↔ (Accepted q × (quiet q ≡ false) × (unchanged q ≡ true))

-- accepted, and neither quiet nor unchanged
pub record Works (q : Request) : Type 0 where
  pub accepted : Accepted q
  pub not-quiet : quiet q ≡ false
  pub not-unchanged : unchanged q ≡ false

-- the rows 18, 19 and 0
pub record Limits (q : Request) (status : ℕ) : Type 0 where
  pub row_18 : (status ≡ 18) ↔ (Works q × (too_many (work_all q) ≡ true))
  pub row_19 : (status ≡ 19) ↔ (Works q × (too_many (work_all q) ≡ false) × (too_large (fixes_found q) ≡ true))
  pub row_0 : (status ≡ 0) ↔ (Works q × (too_many (work_all q) ≡ false) × (too_large (fixes_found q) ≡ false))

-- the numbers of Rows
abbrev early : List ℕ
early = 11 ∷ 12 ∷ 13 ∷ 14 ∷ 15 ∷ 16 ∷ 17 ∷ 1 ∷ 2 ∷ []

module _ (q : Request) where
  later-row :
      (more : List (ℕ × Bool)) (n : ℕ) (b : Bool) (after : List (ℕ × Bool)) → 0 < n → without n (checks q ++ more) ≡ true → without n after ≡ true
      → (first_failed ((checks q ++ more) ++ ((n, not b) ∷ after)) ≡ n) ↔ (Accepted q × (every (λ p. p.1) more ≡ true) × (b ≡ true))
  later-row more n b after h u v =
      let r = first-row (checks q ++ more) n (not b) after h u v in
      let a = accepted_checks q more in
      (λ e. ((a.0 (r.0 e).0).0, (a.0 (r.0 e).0).1, not-false b (r.0 e).1), λ k. r.1 (a.1 (k.0, k.1), rw k.2))

  -- whatever else may fail after them
  rows_of : (after : List (ℕ × Bool)) → every (λ n. without n after) early ≡ true → Rows q (first_failed (checks q ++ (rests q ++ after)))
  rows_of after w = record {
    row_11 = let r = first-row (take 0 (checks q)) 11 (check11 q) (drop 1 (checks q) ++ (rests q ++ after)) (omega arith) refl (fresh 11 refl) in (λ e. (r.0 e).1, λ k. r.1 (refl, k));
    row_12 = first-row (take 1 (checks q)) 12 (check12 q) (drop 2 (checks q) ++ (rests q ++ after)) (omega arith) refl (fresh 12 refl);
    row_13 = first-row (take 2 (checks q)) 13 (check13 q) (drop 3 (checks q) ++ (rests q ++ after)) (omega arith) refl (fresh 13 refl);
    row_14 = first-row (take 3 (checks q)) 14 (check14 q) (drop 4 (checks q) ++ (rests q ++ after)) (omega arith) refl (fresh 14 refl);
    row_15 = first-row (take 4 (checks q)) 15 (check15 q) (drop 5 (checks q) ++ (rests q ++ after)) (omega arith) refl (fresh 15 refl);
    row_16 = first-row (take 5 (checks q)) 16 (check16 q) (drop 6 (checks q) ++ (rests q ++ after)) (omega arith) refl (fresh 16 refl);
    row_17 = first-row (take 6 (checks q)) 17 (check17 q) (drop 7 (checks q) ++ (rests q ++ after)) (omega arith) refl (fresh 17 refl);
    row_1 = let r = later-row [] 1 (quiet q) (drop 1 (rests q) ++ after) (omega arith) refl (fresh 1 refl) in (λ e. ((r.0 e).0, (r.0 e).2), λ k. r.1 (k.0, refl, k.1));
    row_2 =
        let r = later-row (take 1 (rests q)) 2 (unchanged q) after (omega arith) refl (fresh 2 refl) in
        (λ e. ((r.0 e).0, not-true (quiet q) (and_l _ _ (r.0 e).1), (r.0 e).2), λ k. r.1 (k.0, rw k.1, k.2));
  }
    where
      fresh : (n : ℕ) → any (eqb n) early ≡ true → without n after ≡ true
      fresh n e = all_at n early (every_all (λ n. without n after) early w) e

  pub verdict-rows : Rows q (verdict q)
  verdict-rows = rw (verdict-first q) (rows_of [] refl)

  pub call_rows : Rows q (call q).status
  call_rows = rw (call-first q) (rows_of (limits q) refl)

  works_checks : (more : List (ℕ × Bool)) → (every (λ p. p.1) (checks q ++ (rests q ++ more)) ≡ true) ↔ (Works q × (every (λ p. p.1) more ≡ true))
  works_checks more =
      let a = accepted_checks q (rests q ++ more) in (
        λ e. let k = a.0 e in
            let r = and_r (not (quiet q)) _ k.1 in
            (record { accepted = k.0; not-quiet = not-true (quiet q) (and_l _ _ k.1); not-unchanged = not-true (unchanged q) (and_l _ _ r) }, and_r (not (unchanged q)) _ r),
        λ k. a.1 (k.0.accepted, rw (k.0.not-quiet, k.0.not-unchanged) k.1),
      )

  -- no row of 11 to 17, 1 or 2
  pub verdict_none : (verdict q ≡ 0) ↔ Works q
  verdict_none =
      let r = first_none (checks q ++ rests q) refl in
      let a = works_checks [] in
      rw (verdict-first q) (λ e. (a.0 (r.0 e)).0, λ k. r.1 (a.1 (k, refl)))

  pub call_limits : Limits q (call q).status
  call_limits = rw (call-first q) (record { row_18 = row_18; row_19 = row_19; row_0 = row_0 })
    where
      row_18 : (first_failed (checks q ++ (rests q ++ limits q)) ≡ 18) ↔ (Works q × (too_many (work_all q) ≡ true))
      row_18 =
          let r = first-row (checks q ++ rests q) 18 (not (too_many (work_all q))) (drop 1 (limits q)) (omega arith) refl refl in
          let a = works_checks [] in
          (λ e. ((a.0 (r.0 e).0).0, not-false _ (r.0 e).1), λ k. r.1 (a.1 (k.0, refl), rw k.1))

      row_19 : (first_failed (checks q ++ (rests q ++ limits q)) ≡ 19) ↔ (Works q × (too_many (work_all q) ≡ false) × (too_large (fixes_found q) ≡ true))
      row_19 =
          let r = first-row (checks q ++ (rests q ++ take 1 (limits q))) 19 (not (too_large (fixes_found q))) [] (omega arith) refl refl in
          let a = works_checks (take 1 (limits q)) in
          (λ e. ((a.0 (r.0 e).0).0, not-true _ (and_l _ _ (a.0 (r.0 e).0).1), not-false _ (r.0 e).1), λ k. r.1 (a.1 (k.0, rw k.1), rw k.2))

      row_0 : (first_failed (checks q ++ (rests q ++ limits q)) ≡ 0) ↔ (Works q × (too_many (work_all q) ≡ false) × (too_large (fixes_found q) ≡ false))
      row_0 =
          let r = first_none (checks q ++ (rests q ++ limits q)) refl in
          let a = works_checks (limits q) in (
            λ e. let k = a.0 (r.0 e) in
                (k.0, not-true _ (and_l _ _ k.1), not-true _ (and_l _ _ (and_r (not (too_many (work_all q))) _ k.1))),
            λ k. r.1 (a.1 (k.0, rw (k.1, k.2))),
          )

-- ---- the results
-- "as below"
pub record Worked (q : Request) (a : Answer) : Type 0 where
  pub crossings_are : a.crossings ≡ crossings q.width (map crossed_of (work_all q))
  pub tiles_are : a.tiles ≡ tiles q.lower q.upper q.held
  pub fixes_are : a.fixes ≡ fixes_found q
  pub pending_is : a.pending ≡ pended_all (work_all q)
  pub frontier_is : a.frontier ≡ minimal (map (λ p. p.1) (pended_all (work_all q)))

module _ (q : Request) where
  abbrev done : Answer
  done = record {
    status = 0;
    crossings = crossings q.width (map crossed_of (work_all q));
    tiles = tiles q.lower q.upper q.held;
    fixes = fixes_found q;
    pending = pended_all (work_all q);
    frontier = minimal (map (λ p. p.1) (pended_all (work_all q)));
  }

  by_answer : (C : Answer → Type 0) → C done → C (quiet_answer q) → ((n : ℕ) → 1 < n → C (refused n)) → C (call q)
  unfolding call worked
  by_answer C w k r =
      by-test (eqb (verdict q) 0)
      (λ e. rw e
      (by-test (too_many (work_all q)) (λ m. rw m (r 18 (omega arith)))
      (λ m. rw m (by-test (too_large (fixes_found q)) (λ l. rw l (r 19 (omega arith))) (λ l. rw l w)))))
      (λ e. rw e
      (by-test (eqb (verdict q) 1) (λ o. rw o k)
      (λ o. rw o (r (verdict q) (omega (arith, eqb-false (verdict q) 0 e, eqb-false (verdict q) 1 o))))))

  pub call-worked : (call q).status ≡ 0 → Worked q (call q)
  unfolding quiet_answer refused
  call-worked =
      by_answer (λ a. a.status ≡ 0 → Worked q a)
      (λ e. record { crossings_are = refl; tiles_are = refl; fixes_are = refl; pending_is = refl; frontier_is = refl })
      (λ e. absurd (omega arith)) (λ n h e. absurd (omega arith))

  -- "no tiles, no corrections; pending copied; next frontier = held; crossings 0"
  pub call-quiet : (call q).status ≡ 1 → call q ≡ quiet_answer q
  unfolding refused
  call-quiet = by_answer (λ a. a.status ≡ 1 → a ≡ quiet_answer q) (λ e. absurd (omega arith)) (λ e. refl) (λ n h e. absurd (omega arith))

  -- at 2 and at 11 to 19: "all results empty"
  pub call-refused : 1 < (call q).status → call q ≡ refused (call q).status
  unfolding quiet_answer refused
  call-refused = by_answer (λ a. 1 < a.status → a ≡ refused a.status) (λ e. absurd (omega arith)) (λ e. absurd (omega arith)) (λ n h e. refl)
