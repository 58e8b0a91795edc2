-- What a checked run, and the input of a call, give of each key: the keys ascend, a key's part ascends by value, the diffs are within 2^31.
--
-- Ranked: a run whose records may stand in their order; several may be of one (key, value, time)
-- ranked_run, ranked_together: a checked run is such a run, and so is the input of a call
-- ranked_keys, ranked_values: its keys ascend, and the values of each key's part do. pending_keys_lem: the keys of a pending list ascend
-- run-diffs, together-diffs: what the diffs of a checked run, and of the input, are at most
-- modest_light: so the diffs of two runs are bounded in all
-- changed_is: the changed keys of a request, from the columns of its new run and its pending list
use Prim.Native.Nat.{ℕ, ◌*◌, ◌≤◌}
use mathlib.Core.Bool.{true, not}
use mathlib.Core.List.{List, [], ◌∷◌, ◌++◌, map}
use mathlib.Core.Path.{◌≡◌, sym, ◌∙◌}
use lib.Dec.{eqb, leb, ltb}
use lib.IntN.{ℤ, nat_abs}
use lib.ListN.{length}
use borrow.Author.Tests.{eqb-true, ltb-false, le-leb, le-ltb, leb-true, not-true}
use native.Mathlib.Omega.{arith}
use Rattle.grid.specs.Lists.{keep, ascending}
use Rattle.grid.specs.Consolidate.{lex}
use Rattle.grid.specs.Times.{puts}
use Rattle.grid.specs.Records.{Row, rows, pairs, rank, rank_before, before, in_range, good_diff, good_run}
use Rattle.grid.proofs.Tests.{by-test, clash, and_l, and_r, or_false_l, or_false_r}
use Rattle.grid.proofs.Lists.{All, nil, cons, all_imp, all_append, all_map, all_sort, keep_all, every_all}
use Rattle.grid.proofs.Consolidate.{Strict, strict_lex, strict_ltb}
use Rattle.grid.proofs.Ascending.{ascending_above, ascending_rest}
use Rattle.grid.proofs.Sort.{Ranking, ranking_strict, Sorted, none, more, sorted_sort}
use Rattle.grid.proofs.Operations.{pairs_keys}
use Rattle.consolidation.specs.Entries.{mass, most_mass}
use Rattle.rules.specs.Call.{Request, together, changed}
use Rattle.keys.specs.Spans.{Level}
use Rattle.keys.proofs.Spans.{key_of, value_of, diff_of, rows_keys}

abbrev pub Ranked : List Row → Type 0
Ranked rs = Sorted (λ r s. not (before s r)) rs

strict_rank : Strict rank_before
unfolding rank_before
strict_rank = strict_lex strict_ltb (strict_lex strict_ltb strict_ltb)

ranking_rows : Ranking (λ r s. not (before s r))
unfolding before
ranking_rows = record {
  transitive = λ a b c p q. (ranking_strict strict_rank).transitive (rank a) (rank b) (rank c) p q;
  total = λ a b p. (ranking_strict strict_rank).total (rank a) (rank b) p;
}

-- ---- a checked run, and the input
run-above : (r : Row) (rs : List Row) → ascending before (r ∷ rs) ≡ true → All (λ s. before r s ≡ true) rs
unfolding before
run-above r [] e = nil
run-above r (s ∷ rs) e =
    let l = and_l (before r s) (ascending before (s ∷ rs)) e in
    cons l (all_imp (λ (x : Row) h. strict_rank.transitive (rank r) (rank s) (rank x) l h) (run-above s rs (and_r (before r s) (ascending before (s ∷ rs)) e)))

not_after : (r s : Row) → before r s ≡ true → not (before s r) ≡ true
unfolding before
not_after r s h =
    by-test (before s r) (λ e. clash (rank_before (rank r) (rank r)) (strict_rank.transitive (rank r) (rank s) (rank r) h e) (strict_rank.irreflexive (rank r))) (λ e. rw e)

ranked_ascending : (rs : List Row) → ascending before rs ≡ true → Ranked rs
ranked_ascending [] e = none
ranked_ascending (r ∷ rs) e = more (all_imp (λ s h. not_after r s h) (run-above r rs e)) (ranked_ascending rs (ascending_rest before r rs e))

pub ranked_run : (rs : List Row) → good_run rs ≡ true → Ranked rs
unfolding good_run
ranked_run rs e = ranked_ascending rs (and_l (ascending before rs) _ e)

pub ranked_together : (old new : List Row) → Ranked (together old new)
unfolding together
ranked_together old new = sorted_sort ranking_rows (old ++ new)

-- ---- keys and values
key_le : (r s : Row) → not (before s r) ≡ true → r.key ≤ s.key
unfolding before rank_before rank
key_le r s e = ltb-false s.key r.key (or_false_l (ltb s.key r.key) _ (not-true _ e))

value_le : (r s : Row) → r.key ≡ s.key → not (before s r) ≡ true → r.value ≤ s.value
unfolding before rank_before rank
value_le r s q e =
    let f = or_false_r (ltb s.key r.key) _ (not-true _ e) in
    ltb-false s.value r.value (or_false_l (ltb s.value r.value) _ (rw (le-ltb r.key s.key (omega arith)) at f))

pub ranked_keys : {rs : List Row} → Ranked rs → Sorted leb (map key_of rs)
ranked_keys none = none
ranked_keys (more {x = r} h s) = more (all_map key_of (all_imp (λ x t. le-leb r.key x.key (key_le r x t)) h)) (ranked_keys s)

pub ranked_values : (k : ℕ) {rs : List Row} → Ranked rs → Sorted leb (map value_of (keep (λ x. eqb k x.key) rs))
ranked_values k none = none
ranked_values k (more {x = r} {xs = rs} h s) =
    by-test (eqb k r.key)
    (λ e. rw e (more
    (all_map value_of (keep_all (λ x. eqb k x.key) (all_imp (λ (x : Row) t f. le-leb r.value x.value (value_le r x (sym (eqb-true k r.key e) ∙ eqb-true k x.key f) t)) h)))
    (ranked_values k s)))
    (λ e. rw e (ranked_values k s))

pub pending_keys_lem : (ps : List (ℕ × ℕ)) → ascending (lex ltb ltb) ps ≡ true → Sorted leb (map (λ (p : ℕ × ℕ). p.0) ps)
pending_keys_lem [] e = none
pending_keys_lem (p ∷ ps) e =
    more
    (all_map (λ (x : ℕ × ℕ). x.0) (all_imp (λ (x : ℕ × ℕ) t. le-leb p.0 x.0 (first x t)) (ascending_above (lex ltb ltb) strict p ps e)))
    (pending_keys_lem ps (ascending_rest (lex ltb ltb) p ps e))
  where
    strict : Strict (lex ltb ltb)
    strict = strict_lex strict_ltb strict_ltb

    first : (x : ℕ × ℕ) → lex ltb ltb p x ≡ true → p.0 ≤ x.0
    first x t =
        by-test (ltb x.0 p.0)
        (λ f. clash (lex ltb ltb p p) (strict.transitive p x p t (rw f)) (strict.irreflexive p))
        (λ f. ltb-false x.0 p.0 f)

-- ---- diffs
abbrev pub Modest : ℤ → Type 0
Modest d = nat_abs d ≤ 2147483648

run-modest : (rs : List Row) → good_run rs ≡ true → All (λ r. Modest (diff_of r)) rs
unfolding good_run good_diff in_range
run-modest rs e = all_imp (λ (r : Row) h. leb-true (nat_abs r.diff) 2147483648 (and_l (leb (nat_abs r.diff) 2147483648) _ h)) (every_all (λ r. good_diff r.diff) rs (and_r (ascending before rs) _ e))

pub run-diffs : (rs : List Row) → good_run rs ≡ true → All Modest (map diff_of rs)
run-diffs rs e = all_map diff_of (run-modest rs e)

pub together-diffs : (old new : List Row) → good_run old ≡ true → good_run new ≡ true → All Modest (map diff_of (together old new))
unfolding together
together-diffs old new e f = all_map diff_of (all_sort (λ r s. not (before s r)) (all_append (run-modest old e) (run-modest new f)))

mass-modest : {ds : List ℤ} → All Modest ds → mass ds ≤ length ds * 2147483648
unfolding mass
mass-modest nil = omega arith
mass-modest (cons {x = d} h a) = omega (arith, h, mass-modest a)

-- the records of two runs
pub modest_light : {ds : List ℤ} → All Modest ds → length ds ≤ 8192 → mass ds ≤ most_mass
modest_light a h = omega (arith, mass-modest a)

-- ---- changed keys
pub changed_is : (q : Request) {ks vs ts : List ℕ} {ds : List ℤ} (pk pt : List ℕ) → q.new ≡ rows ks vs ts ds → Level ks vs ts ds → q.pending ≡ pairs pk pt → length pt ≡ length pk
    → changed q ≡ puts (ks ++ pk) []
unfolding changed
changed_is q pk pt n l p e = rw (n, p, rows_keys l, pairs_keys pk pt e)
