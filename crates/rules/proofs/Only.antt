-- A key's corrections are the only ones: what is seen of edits at every time short of upper tells their consolidated list, for the first entry
-- of the consolidated difference of two lists of edits would be seen alone at its own time.
--
-- tallies_tell: tallies by tests of which the one of k passes k and nothing later than k tell all tallies
-- seen_tally, seen_only: edits short of upper of which the same is seen at each time short of upper have the same tallies, and consolidate
-- to the same list
-- Corrects: a key's corrections are short of upper and at or above a root, and with them its output is right at each such time
-- only_tally, only_right: two such corrections have the same tallies, and consolidate to the same list
-- settle_corrects: the corrections of document 01's moments are so. only_settled: they are the only ones
-- AllCorrect: the same of the corrections of a request, as records. only_records: two such lists of records consolidate to the same list
use Prim.Native.Nat.{ℕ}
use mathlib.Core.Bool.{Bool, true, false, cond, ◌&&◌, not}
use mathlib.Core.List.{List, [], ◌∷◌, ◌++◌, map}
use mathlib.Core.Path.{◌≡◌, refl, sym, ◌∙◌, ap}
use native.Mathlib.Omega.{arith}
use lib.Dec.{eqb, ltb}
use lib.IntN.{ℤ, pos, ◌+ℤ◌, neg_ℤ, +ℤ_comm, +ℤ_idr, +ℤ_invl, +ℤ_invr}
use borrow.Author.Tests.{eqb-true, eq-eqb, le-ltb}
use Rattle.grid.specs.Lists.{keep, ascending}
use Rattle.grid.specs.Times.{below}
use Rattle.grid.specs.Frontiers.{beyond}
use Rattle.grid.specs.Consolidate.{is_zero, consolidate}
use Rattle.grid.specs.Records.{Row, Rank, rank, rank_before}
use Rattle.grid.proofs.Tests.{by-test, clash, and_i, and_l, and_r, and-false}
use Rattle.grid.proofs.Lists.{All, nil, cons, head, all_of, all_append, all_imp, all_map, all_keep, keep_all}
use Rattle.grid.proofs.Times.{below_true, true_below, below_refl, below_le}
use Rattle.grid.proofs.Frontiers.{beyond_up}
use Rattle.grid.proofs.Sums.{sum-append, sum_ext, sum-map, sum-neg, sum_keep}
use Rattle.grid.proofs.Consolidate.{Strict, strict_ltb, strict_lex, share, tally, tally_consolidate, Canon, none, more, canon_consolidate, all_consolidate, consolidate_ext, cancel_l}
use Rattle.rules.specs.Histories.{Edit, time_of, earlier}
use Rattle.rules.specs.Discover.{discover}
use Rattle.rules.specs.Retire.{seen, settle, corrections}
use Rattle.rules.specs.Call.{Request, edits_of, times_of, pending_of}
use Rattle.rules.specs.Right.{Right, touched}
use Rattle.rules.proofs.Histories.{visible, strict_earlier}
use Rattle.rules.proofs.Retire.{tally_seen, none_visible, visible_append, corrections-times}
use Rattle.rules.proofs.Settling.{live_short}
use Rattle.rules.proofs.Right.{settled}
use Rattle.rules.proofs.Work.{edits-append}
use Rattle.rules.proofs.Moments.{moments_above, found_listed}

-- ---- the difference of two lists
neg_share : (b : Bool) (d : ℤ) → cond b (neg_ℤ d) (pos 0) ≡ neg_ℤ (cond b d (pos 0))
neg_share true d = refl
neg_share false d = refl

opposite : (a b : ℤ) → a +ℤ neg_ℤ b ≡ pos 0 → a ≡ b
opposite a b e = cancel_l (neg_ℤ b) a b (+ℤ_comm (neg_ℤ b) a ∙ e ∙ sym (+ℤ_invl b))

module _ {A : Type 0} where
  abbrev reversed : List (A × ℤ) → List (A × ℤ)
  reversed es = map (λ (e : A × ℤ). (e.0, neg_ℤ e.1)) es

  tally_difference : (p : A → Bool) (c d : List (A × ℤ)) → tally p (c ++ reversed d) ≡ tally p c +ℤ neg_ℤ (tally p d)
  tally_difference p c d =
      sum-append (share p) c (reversed d)
      ∙ ap (λ z. tally p c +ℤ z) (sum-map (share p) (λ (e : A × ℤ). (e.0, neg_ℤ e.1)) d ∙ sum_ext _ _ (λ (e : A × ℤ). neg_share (p e.0) e.1) d ∙ sum-neg (share p) d)

-- ---- the first entry is seen alone
module _ {A : Type 0} {lt : A → A → Bool} (S : Strict lt) (sees : A → A → Bool) (sees-self : (k : A) → sees k k ≡ true) (sees-none : (k j : A) → lt k j ≡ true → sees k j ≡ false) where
  none_seen : (k : A) {es : List (A × ℤ)} → All (λ (e : A × ℤ). lt k e.0 ≡ true) es → tally (sees k) es ≡ pos 0
  none_seen k nil = refl
  none_seen k (cons {x = e} l h) = rw (sees-none k e.0 l, none_seen k h)

  module _ (D : A → Type 0) where
    nothing : {z : List (A × ℤ)} → Canon lt z → All (λ (e : A × ℤ). D e.0) z → ((k : A) → D k → tally (sees k) z ≡ pos 0) → z ≡ []
    nothing none s h = refl
    nothing (more {y = y} {r = r} n u c) s h =
        let alone : tally (sees y.0) (y ∷ r) ≡ y.1 = rw (sees-self y.0, none_seen y.0 u) (+ℤ_idr y.1) in
        clash (is_zero y.1) (rw (sym alone ∙ h y.0 (head s))) n

    pub tallies_tell : (c d : List (A × ℤ)) → All (λ (e : A × ℤ). D e.0) c → All (λ (e : A × ℤ). D e.0) d → ((k : A) → D k → tally (sees k) c ≡ tally (sees k) d) → (q : A → Bool) → tally q c ≡ tally q d
    tallies_tell c d sc sd h q = opposite (tally q c) (tally q d) (sym (tally_difference q c d) ∙ sym (tally_consolidate S q (c ++ reversed d)) ∙ ap (tally q) empty)
      where
        zero : (k : A) → D k → tally (sees k) (consolidate lt (c ++ reversed d)) ≡ pos 0
        zero k b =
            tally_consolidate S (sees k) (c ++ reversed d) ∙ tally_difference (sees k) c d
            ∙ ap (λ z. z +ℤ neg_ℤ (tally (sees k) d)) (h k b) ∙ +ℤ_invr (tally (sees k) d)

        empty : consolidate lt (c ++ reversed d) ≡ []
        empty = nothing (canon_consolidate S (c ++ reversed d)) (all_consolidate S D (all_append sc (all_map (λ (e : A × ℤ). (e.0, neg_ℤ e.1)) sd))) zero

-- ---- what is seen tells the edits
abbrev seen_from : ℕ × ℕ → ℕ × ℕ → Bool
seen_from k = visible k.0 (eqb k.1)

self_seen : (k : ℕ × ℕ) → seen_from k k ≡ true
self_seen k = and_i _ _ (true_below k.0 k.0 (below_refl k.0)) (eq-eqb k.1 k.1 refl)

later_hidden : (k j : ℕ × ℕ) → earlier k j ≡ true → seen_from k j ≡ false
later_hidden k j e =
    by-test (below j.0 k.0)
    (λ b. by-test (eqb k.1 j.1)
    (λ q. let h = below_le j.0 k.0 (below_true j.0 k.0 b) in
    clash (earlier k j) e (rw (le-ltb k.0 j.0 h, le-ltb k.1 j.1 (omega (arith, eqb-true k.1 j.1 q))) (and-false (not (ltb j.0 k.0)))))
    (λ q. rw (b, q)))
    (λ b. rw b)

module _ (upper : List ℕ) where
  visible_tell : (c d : List Edit) → All (λ e. beyond upper (time_of e) ≡ false) c → All (λ e. beyond upper (time_of e) ≡ false) d → ((t : ℕ) → beyond upper t ≡ false → (p : ℕ → Bool) → tally (visible t p) c ≡ tally (visible t p) d) → (q : ℕ × ℕ → Bool) → tally q c ≡ tally q d
  unfolding time_of
  visible_tell c d sc sd h = tallies_tell strict_earlier seen_from self_seen later_hidden (λ k. beyond upper k.0 ≡ false) c d sc sd (λ k b. h k.0 b (eqb k.1))

  module _ (c d : List Edit) (short-c : All (λ e. beyond upper (time_of e) ≡ false) c) (short-d : All (λ e. beyond upper (time_of e) ≡ false) d) (same : (t : ℕ) → beyond upper t ≡ false → seen t c ≡ seen t d) where
    pub seen_tally : (q : ℕ × ℕ → Bool) → tally q c ≡ tally q d
    seen_tally = visible_tell c d short-c short-d (λ t e p. sym (tally_seen t p c) ∙ ap (tally p) (same t e) ∙ tally_seen t p d)

    pub seen_only : {lt : ℕ × ℕ → ℕ × ℕ → Bool} → Strict lt → consolidate lt c ≡ consolidate lt d
    seen_only S = consolidate_ext S c d seen_tally

-- ---- the corrections of a key
-- The roots are the key's seeds and pending times: a time is touched if it is beyond them, as `touched` says of a request.
pub record Corrects (mode : ℕ) (input output : List Edit) (upper roots : List ℕ) (c : List Edit) : Type 0 where
  pub short : All (λ e. beyond upper (time_of e) ≡ false) c
  pub rooted : All (λ e. beyond roots (time_of e) ≡ true) c
  pub right : (t : ℕ) → beyond upper t ≡ false → beyond roots t ≡ true → Right mode input (output ++ c) t

module _ {mode : ℕ} {input output : List Edit} {upper roots : List ℕ} where
  -- what is at or above a root is not seen where no root is
  unseen : {c : List Edit} → Corrects mode input output upper roots c → (t : ℕ) → beyond roots t ≡ false → (p : ℕ → Bool) → tally (visible t p) c ≡ pos 0
  unfolding time_of
  unseen C t e p = none_visible t p (all_imp (λ (x : Edit) r u. clash (beyond roots t) (beyond_up roots x.0.0 t u r) e) C.rooted)

  module _ {c d : List Edit} (C : Corrects mode input output upper roots c) (D : Corrects mode input output upper roots d) where
    alike : (t : ℕ) → beyond upper t ≡ false → (p : ℕ → Bool) → tally (visible t p) c ≡ tally (visible t p) d
    alike t s p =
        by-test (beyond roots t)
        (λ e. cancel_l (tally (visible t p) output) (tally (visible t p) c) (tally (visible t p) d)
        (sym (visible_append t p output c) ∙ sym (tally_seen t p (output ++ c))
        ∙ ap (tally p) ((C.right t s e).is_reduction ∙ sym (D.right t s e).is_reduction)
        ∙ tally_seen t p (output ++ d) ∙ visible_append t p output d))
        (λ e. unseen C t e p ∙ sym (unseen D t e p))

    pub only_tally : (q : ℕ × ℕ → Bool) → tally q c ≡ tally q d
    only_tally = visible_tell upper c d C.short D.short alike

    pub only_right : {lt : ℕ × ℕ → ℕ × ℕ → Bool} → Strict lt → consolidate lt c ≡ consolidate lt d
    only_right S = consolidate_ext S c d only_tally

-- ---- document 01's own corrections
-- the pending list ascends by check 15
module _ (mode : ℕ) (upper seeds pending : List ℕ) (input output : List Edit) (rises : ascending ltb pending ≡ true) (whole : (discover upper seeds pending input (map time_of output)).over ≡ false) where
  pub settle_corrects : Corrects mode input output upper (seeds ++ pending) (corrections (settle mode input output (discover upper seeds pending input (map time_of output)).moments))
  unfolding time_of beyond
  settle_corrects = record {
    short = corrections-times mode input output (found_listed upper seeds pending input (map time_of output) rises).moments_short;
    rooted = corrections-times mode input output (moments_above upper seeds pending input (map time_of output));
    right = λ t s e. settled mode upper seeds pending input output (live_short upper) rises whole t s e;
  }

  pub only_settled : {c : List Edit} {lt : ℕ × ℕ → ℕ × ℕ → Bool} → Strict lt → Corrects mode input output upper (seeds ++ pending) c → consolidate lt c ≡ consolidate lt (corrections (settle mode input output (discover upper seeds pending input (map time_of output)).moments))
  only_settled S C = only_right C settle_corrects S

-- ---- the corrections of a request
pub record AllCorrect (q : Request) (input : List Row) (x : List Row) : Type 0 where
  pub short : All (λ r. beyond q.upper r.time ≡ false) x
  pub rooted : All (λ r. touched q r.key r.time ≡ true) x
  pub right : (k t : ℕ) → beyond q.upper t ≡ false → touched q k t ≡ true → Right q.mode (edits_of k input) (edits_of k (q.out ++ x)) t

-- the entries that a list of records adds up, by what a run ascends by
abbrev pub ranked : List Row → List (Rank × ℤ)
ranked rs = map (λ (r : Row). (rank r, r.diff)) rs

abbrev same_rank : Rank → Rank → Bool
same_rank k j = eqb k.0 j.0 && (eqb k.1.0 j.1.0 && eqb k.1.1 j.1.1)

strict_rank : Strict rank_before
unfolding rank_before
strict_rank = strict_lex strict_ltb (strict_lex strict_ltb strict_ltb)

self_rank : (k : Rank) → same_rank k k ≡ true
self_rank k = and_i _ _ (eq-eqb k.0 k.0 refl) (and_i _ _ (eq-eqb k.1.0 k.1.0 refl) (eq-eqb k.1.1 k.1.1 refl))

later-rank : (k j : Rank) → rank_before k j ≡ true → same_rank k j ≡ false
later-rank k j l = by-test (same_rank k j) (λ e. clash (rank_before k j) l (rw (← same e) (strict_rank.irreflexive k))) (λ e. e)
  where
    same : same_rank k j ≡ true → k ≡ j
    same e =
        let key = eqb-true k.0 j.0 (and_l (eqb k.0 j.0) _ e) in
        let rest = and_r (eqb k.0 j.0) _ e in
        let value = eqb-true k.1.0 j.1.0 (and_l (eqb k.1.0 j.1.0) _ rest) in
        let time = eqb-true k.1.1 j.1.1 (and_r (eqb k.1.0 j.1.0) _ rest) in
        λ i. (key i, (value i, time i))

cond_and : (a b : Bool) (d : ℤ) → cond (a && b) d (pos 0) ≡ cond a (cond b d (pos 0)) (pos 0)
cond_and true b d = refl
cond_and false b d = refl

-- the records of a rank are edits of its key
abbrev same_edit : Rank → ℕ × ℕ → Bool
same_edit k e = eqb k.1.0 e.1 && eqb k.1.1 e.0

tally_ranked : (k : Rank) (rs : List Row) → tally (same_rank k) (ranked rs) ≡ tally (same_edit k) (edits_of k.0 rs)
unfolding edits_of rank
tally_ranked k rs =
    sum-map (share (same_rank k)) (λ (r : Row). (rank r, r.diff)) rs
    ∙ sum_ext _ _ (λ (r : Row). cond_and (eqb k.0 r.key) (eqb k.1.0 r.value && eqb k.1.1 r.time) r.diff) rs
    ∙ sym (sum_keep _ (λ (r : Row). eqb k.0 r.key) rs)
    ∙ sym (sum-map (share (same_edit k)) (λ (r : Row). ((r.time, r.value), r.diff)) (keep (λ (r : Row). eqb k.0 r.key) rs))

roots_touched : (q : Request) (k t : ℕ) → beyond (times_of k q.new ++ pending_of k q.pending) t ≡ touched q k t
unfolding touched beyond
roots_touched q k t = refl

module _ {q : Request} {input : List Row} where
  key_short : {x : List Row} → AllCorrect q input x → (k : ℕ) → All (λ e. beyond q.upper (time_of e) ≡ false) (edits_of k x)
  unfolding edits_of time_of
  key_short C k = all_map (λ (r : Row). ((r.time, r.value), r.diff)) (all_keep (λ (r : Row). eqb k r.key) C.short)

  key_rooted : {x : List Row} → AllCorrect q input x → (k : ℕ) → All (λ e. beyond (times_of k q.new ++ pending_of k q.pending) (time_of e) ≡ true) (edits_of k x)
  unfolding edits_of time_of
  key_rooted C k =
      all_map (λ (r : Row). ((r.time, r.value), r.diff))
      (keep_all (λ (r : Row). eqb k r.key) (all_imp (λ (r : Row) t e. rw (roots_touched q k r.time, eqb-true k r.key e) t) C.rooted))

  key_corrects : {x : List Row} → AllCorrect q input x → (k : ℕ) → Corrects q.mode (edits_of k input) (edits_of k q.out) q.upper (times_of k q.new ++ pending_of k q.pending) (edits_of k x)
  key_corrects {x} C k = record { short = key_short C k; rooted = key_rooted C k; right = λ t s e. rw (edits-append k q.out x) at (C.right k t s (rw (roots_touched q k t) at e)) }

  pub only_records : {x y : List Row} → AllCorrect q input x → AllCorrect q input y → consolidate rank_before (ranked x) ≡ consolidate rank_before (ranked y)
  only_records {x} {y} C D =
      consolidate_ext strict_rank (ranked x) (ranked y)
      (tallies_tell strict_rank same_rank self_rank later-rank (λ k. k ≡ k) (ranked x) (ranked y) (all_of (λ e. refl) (ranked x)) (all_of (λ e. refl) (ranked y))
      (λ k b. tally_ranked k x ∙ only_tally (key_corrects C k.0) (key_corrects D k.0) (same_edit k) ∙ sym (tally_ranked k y)))
