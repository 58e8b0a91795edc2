-- What a whole call holds of one key: its edits in a run that was sorted or put together, its corrections among all corrections.
--
-- tally_edits_of: the tallies of a key's edits are sums over the run
-- tally_together: old and new input together have the tallies of the two
-- tally_fixes_all: a key's edits among all corrections have the tallies of the corrections that were made for it
-- sum_own: over keys that strictly ascend, a sum that only one key adds to
-- tally_fixes_found: so these are the tallies of the key's own corrections, if it changed, and none if it did not
-- changed_whole: no limit was passed for a changed key. changed_pending: a key with a pending entry is one
-- unchanged_seeds, unchanged-edits, unchanged_pending: a key that is none has neither seeds nor pending times
-- pending_of_lem, pended_listed: the entries of a key in a pending list are its times
use Prim.Native.Nat.{ℕ, ◌<◌}
use mathlib.Core.Bool.{Bool, true, false, cond, ◌&&◌, ◌||◌}
use mathlib.Core.List.{List, [], ◌∷◌, ◌++◌, map}
use mathlib.Core.Path.{◌≡◌, refl, sym, ◌∙◌, ap, ap₂}
use native.Mathlib.Omega.{arith}
use lib.Dec.{eqb, ltb}
use lib.IntN.{ℤ, pos, ◌+ℤ◌, +ℤ_idl, +ℤ_idr}
use borrow.Author.Tests.{eqb-true, eq-eqb, ne_eqb, ltb-true}
use Rattle.grid.specs.Lists.{any, keep, ascending, flat}
use Rattle.grid.specs.Records.{Row}
use Rattle.grid.proofs.Tests.{by-test, clash, or_l, or_r, or_false_l, or_assoc}
use Rattle.grid.proofs.Lists.{keep_none, all_at, All, nil, cons, all_imp, all_l, all_r, map_all, none_all, any_none, puts_all}
use Rattle.grid.proofs.Sums.{sum, sum-append, sum_sort, sum_ext, sum-map, sum_keep, sum-zero}
use Rattle.grid.proofs.Consolidate.{strict_ltb, share, tally}
use Rattle.grid.proofs.Ascending.{ascending_above, ascending_rest, ascending_puts}
use Rattle.rules.specs.Tiles.{Tile}
use Rattle.rules.specs.Retire.{Round, dated, corrections}
use Rattle.rules.specs.Call.{Request, Fix, Done, together, edits_of, times_of, pending_of, changed, work, work_all, too_many, fixes_of, fixes_all, pended_all}
use Rattle.rules.specs.Runs.{lists, work_of}

module _ (p : ℕ × ℕ → Bool) (k : ℕ) where
  -- what a record adds to the tally of the key's edits
  abbrev adds : Row → ℤ
  adds r = cond (eqb k r.key) (cond (p (r.time, r.value)) r.diff (pos 0)) (pos 0)

  pub tally_edits_of : (rs : List Row) → tally p (edits_of k rs) ≡ sum adds rs
  unfolding edits_of
  tally_edits_of rs = sum-map (share p) (λ (r : Row). ((r.time, r.value), r.diff)) (keep (λ r. eqb k r.key) rs) ∙ sum_keep _ (λ (r : Row). eqb k r.key) rs

  pub tally_together : (old new : List Row) → tally p (edits_of k (together old new)) ≡ tally p (edits_of k old) +ℤ tally p (edits_of k new)
  unfolding together
  tally_together old new =
      tally_edits_of (together old new) ∙ sum_sort adds _ (old ++ new) ∙ sum-append adds old new
      ∙ ap₂ ◌+ℤ◌ (sym (tally_edits_of old)) (sym (tally_edits_of new))

  -- the corrections of a key that was worked on
  abbrev its : Done → ℤ
  its d = cond (eqb k d.key) (tally p (corrections d.rounds)) (pos 0)

  abbrev adds_fix : Fix → ℤ
  adds_fix f = adds f.row

  sum-flat : {A B : Type 0} (g : B → ℤ) (f : A → List B) (xs : List A) → sum g (flat f xs) ≡ sum (λ x. sum g (f x)) xs
  sum-flat g f [] = refl
  sum-flat g f (x ∷ xs) = sum-append g (f x) (flat f xs) ∙ ap (λ z. sum g (f x) +ℤ z) (sum-flat g f xs)

  under : {A : Type 0} (b : Bool) (g : A → ℤ) (xs : List A) → sum (λ x. cond b (g x) (pos 0)) xs ≡ cond b (sum g xs) (pos 0)
  under true g xs = refl
  under false g xs = sum-zero xs

  tally_fixes_of : (q : Request) (ts : List Tile) (d : Done) → sum adds_fix (fixes_of q ts d) ≡ its d
  unfolding fixes_of corrections dated
  tally_fixes_of q ts d =
      sum-flat adds_fix _ d.rounds
      ∙ sum_ext _ _ (λ (r : Round). sum-map adds_fix _ r.fixes ∙ under (eqb k d.key) (λ (c : ℕ × ℤ). cond (p (r.time, c.0)) c.1 (pos 0)) r.fixes) d.rounds
      ∙ under (eqb k d.key) (λ (r : Round). sum (λ (c : ℕ × ℤ). cond (p (r.time, c.0)) c.1 (pos 0)) r.fixes) d.rounds
      ∙ ap (λ z. cond (eqb k d.key) z (pos 0)) (sym (sum-flat (share p) _ d.rounds ∙ sum_ext _ _ (λ (r : Round). sum-map (share p) _ r.fixes) d.rounds))

  pub tally_fixes_all : (q : Request) (ts : List Tile) (ds : List Done) → tally p (edits_of k (map (λ (f : Fix). f.row) (fixes_all q ts ds))) ≡ sum its ds
  unfolding fixes_all
  tally_fixes_all q ts ds =
      tally_edits_of _ ∙ sum-map adds (λ (f : Fix). f.row) (fixes_all q ts ds) ∙ sum_sort adds_fix _ (flat (fixes_of q ts) ds)
      ∙ sum-flat adds_fix (fixes_of q ts) ds ∙ sum_ext _ _ (tally_fixes_of q ts) ds

-- ---- keys that strictly ascend
module _ (k : ℕ) (g : ℕ → ℤ) where
  sum_others : {ks : List ℕ} → All (λ j. k < j) ks → sum (λ j. cond (eqb k j) (g j) (pos 0)) ks ≡ pos 0
  sum_others nil = refl
  sum_others (cons {x = j} h hs) = rw (ne_eqb k j (λ e. omega arith), sum_others hs)

  pub sum_own : (ks : List ℕ) → ascending ltb ks ≡ true → sum (λ j. cond (eqb k j) (g j) (pos 0)) ks ≡ cond (any (eqb k) ks) (g k) (pos 0)
  sum_own [] e = refl
  sum_own (j ∷ js) e =
      by-test (eqb k j)
      (λ t. let q = eqb-true k j t in rw (t, sum_others (rw (← q) at (all_imp (λ y h. ltb-true j y h) (ascending_above ltb strict_ltb j js e))), ← q) (+ℤ_idr (g k)))
      (λ t. rw (t, sum_own js (ascending_rest ltb j js e)) (+ℤ_idl _))

module _ (q : Request) (k : ℕ) where
  changed_ascends : ascending ltb (changed q) ≡ true
  unfolding changed
  changed_ascends = ascending_puts (map (λ r. r.key) q.new ++ map (λ p. p.0) q.pending) [] refl

  pub tally_fixes_found : (p : ℕ × ℕ → Bool) (ts : List Tile) → tally p (edits_of k (map (λ (f : Fix). f.row) (fixes_all q ts (work_all q)))) ≡ cond (any (eqb k) (changed q)) (tally p (corrections (work_of q k).rounds)) (pos 0)
  unfolding work_all work_of work
  tally_fixes_found p ts =
      tally_fixes_all p k q ts (work_all q)
      ∙ sum-map (its p k) (work q (together q.old q.new)) (changed q)
      ∙ sum_own k (λ j. tally p (corrections (work_of q j).rounds)) (changed q) changed_ascends

  -- a fact of no changed key is one of no new record and of no pending entry
  unchanged_all : any (eqb k) (changed q) ≡ false → All (λ (r : Row). eqb k r.key ≡ false) q.new × All (λ (e : ℕ × ℕ). eqb k e.0 ≡ false) q.pending
  unfolding changed
  unchanged_all e =
      let h = (puts_all (map (λ r. r.key) q.new ++ map (λ (p : ℕ × ℕ). p.0) q.pending) [] (none_all (eqb k) (changed q) e)).0 in
      (map_all (λ (r : Row). r.key) q.new (all_l (map (λ r. r.key) q.new) _ h), map_all (λ (p : ℕ × ℕ). p.0) q.pending (all_r (map (λ r. r.key) q.new) _ h))

  -- where 18 is not the answer, no limit was passed for a changed key
  pub changed_whole : too_many (work_all q) ≡ false → any (eqb k) (changed q) ≡ true → (work_of q k).found.over ≡ false
  unfolding too_many work_all work_of
  changed_whole few c =
      all_at k (changed q)
      (map_all (work q (together q.old q.new)) (changed q) (none_all (λ (d : Done). d.found.over) (work_all q) (or_false_l _ _ (or_false_l _ _ few)))) c

  pub changed_pending : (t : ℕ) → lists q.pending k t ≡ true → any (eqb k) (changed q) ≡ true
  unfolding lists
  changed_pending t e =
      by-test (any (eqb k) (changed q)) (λ c. c)
      (λ c. clash (any (λ p. eqb k p.0 && eqb t p.1) q.pending) e (any_none _ q.pending (all_imp (λ (p : ℕ × ℕ) h. rw h) (unchanged_all c).1)))

module _ (q : Request) (k : ℕ) (e : any (eqb k) (changed q) ≡ false) where
  pub unchanged_seeds : times_of k q.new ≡ []
  unfolding times_of
  unchanged_seeds = ap (map (λ (r : Row). r.time)) (keep_none (λ (r : Row). eqb k r.key) (unchanged_all q k e).0)

  pub unchanged-edits : edits_of k q.new ≡ []
  unfolding edits_of
  unchanged-edits = ap (map (λ (r : Row). ((r.time, r.value), r.diff))) (keep_none (λ (r : Row). eqb k r.key) (unchanged_all q k e).0)

  pub unchanged_pending : pending_of k q.pending ≡ []
  unfolding pending_of
  unchanged_pending = ap (map (λ (p : ℕ × ℕ). p.1)) (keep_none (λ (p : ℕ × ℕ). eqb k p.0) (unchanged_all q k e).1)

-- ---- entries of a pending list
pub pending_of_lem : (k t : ℕ) (ps : List (ℕ × ℕ)) → lists ps k t ≡ any (eqb t) (pending_of k ps)
unfolding lists pending_of
pending_of_lem k t [] = refl
pending_of_lem k t (p ∷ ps) = by-test (eqb k p.0) (λ e. rw (e, pending_of_lem k t ps)) (λ e. rw (e, pending_of_lem k t ps))

lists-append : (ps rs : List (ℕ × ℕ)) (k t : ℕ) → lists (ps ++ rs) k t ≡ (lists ps k t || lists rs k t)
unfolding lists
lists-append [] rs k t = refl
lists-append (p ∷ ps) rs k t = rw (lists-append ps rs k t) (or_assoc (eqb k p.0 && eqb t p.1) (lists ps k t) (lists rs k t))

lists_own : (k t : ℕ) (ts : List ℕ) → lists (map (λ u. (k, u)) ts) k t ≡ any (eqb t) ts
unfolding lists
lists_own k t [] = refl
lists_own k t (u ∷ us) = rw (eq-eqb k k refl, lists_own k t us)

module _ (q : Request) (k t : ℕ) where
  listed_in : (ks : List ℕ) → any (eqb k) ks ≡ true → any (eqb t) (work_of q k).found.pended ≡ true → lists (pended_all (map (work q (together q.old q.new)) ks)) k t ≡ true
  unfolding pended_all work_of work
  listed_in [] e h = clash false e refl
  listed_in (j ∷ js) e h =
      by-test (eqb k j)
      (λ c. rw (← eqb-true k j c, lists-append) (or_l _ _ (lists_own k t (work_of q k).found.pended ∙ h)))
      (λ c. rw lists-append (or_r (lists (map (λ u. (j, u)) (work_of q j).found.pended) k t) _ (listed_in js (rw c at e) h)))

  pub pended_listed : any (eqb k) (changed q) ≡ true → any (eqb t) (work_of q k).found.pended ≡ true → lists (pended_all (work_all q)) k t ≡ true
  unfolding work_all
  pended_listed e h = listed_in (changed q) e h
