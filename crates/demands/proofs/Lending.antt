-- How long work memory must be for one call.
--
-- head_last, head_same, head_other: at a key where a stretch of equal keys ends, there is one more of them from it on than past it; at others, as many
-- heads_end: past all keys there is none
-- heads_long: a column has at most as many stretches as keys
-- changed_few: the changed keys are at most as many as the stretches of both columns
-- published_suffices: memory that is long enough for every call is long enough for one
use Prim.Native.Nat.{ℕ, ◌+◌, ◌≤◌, ◌<◌}
use native.Mathlib.Omega.{arith}
use mathlib.Core.Bool.{true, false, ◌&&◌}
use mathlib.Core.List.{List, [], ◌∷◌, ◌++◌}
use mathlib.Core.Path.{◌≡◌, refl, sym, ◌∙◌, ap}
use lib.Dec.{eqb, ltb, leb}
use lib.ListN.{length, drop, get_or, drop_of_length-le}
use borrow.Author.Tests.{eq-eqb, ne_eqb, eqb-true, le-ltb, leb-true, le-leb}
use Rattle.grid.specs.Records.{most_records}
use Rattle.grid.specs.Times.{put, puts}
use Rattle.grid.proofs.Tests.{by-test, and_l, and_r, and_i}
use Rattle.grid.proofs.Operations.{put-length, puts-append}
use Rattle.grid.proofs.Loops.{drop_more}
use Rattle.rules.specs.Memory.{Memory, Lent, numbers_size, long_enough, roomy}
use Rattle.demands.specs.Lending.{published, heads, column_needed, moments_needed, needed}

-- ---- stretches of equal keys
heads_one : (k : ℕ) → heads (k ∷ []) ≡ 1
unfolding heads
heads_one k = refl

heads_none : heads [] ≡ 0
unfolding heads
heads_none = refl

heads-same : (k l : ℕ) (ks : List ℕ) → eqb k l ≡ true → heads (k ∷ l ∷ ks) ≡ 0 + heads (l ∷ ks)
unfolding heads
heads-same k l ks e = rw e

heads_other : (k l : ℕ) (ks : List ℕ) → eqb k l ≡ false → heads (k ∷ l ∷ ks) ≡ 1 + heads (l ∷ ks)
unfolding heads
heads_other k l ks e = rw e

module _ (ks : List ℕ) (i : ℕ) where
  pub head_last : i + 1 ≡ length ks → heads (drop i ks) ≡ 1 + heads (drop (i + 1) ks)
  head_last e = rw (drop_more ks i 0 (omega arith), drop_of_length-le ks (let h : length ks ≤ i + 1 = omega arith in h), heads_one, heads_none)

  module _ (h : i + 1 < length ks) where
    abbrev two : drop i ks ≡ get_or ks i 0 ∷ get_or ks (i + 1) 0 ∷ drop (i + 1 + 1) ks
    two = drop_more ks i 0 (omega arith) ∙ ap (λ rest. get_or ks i 0 ∷ rest) (drop_more ks (i + 1) 0 h)

    pub head_same : get_or ks i 0 ≡ get_or ks (i + 1) 0 → heads (drop i ks) ≡ 0 + heads (drop (i + 1) ks)
    head_same e = ap heads two ∙ heads-same (get_or ks i 0) (get_or ks (i + 1) 0) (drop (i + 1 + 1) ks) (eq-eqb _ _ e) ∙ sym (ap (λ l. 0 + heads l) (drop_more ks (i + 1) 0 h))

    pub head_other : (get_or ks i 0 ≡ get_or ks (i + 1) 0 → ⊥) → heads (drop i ks) ≡ 1 + heads (drop (i + 1) ks)
    head_other e = ap heads two ∙ heads_other (get_or ks i 0) (get_or ks (i + 1) 0) (drop (i + 1 + 1) ks) (ne_eqb _ _ e) ∙ sym (ap (λ l. 1 + heads l) (drop_more ks (i + 1) 0 h))

pub heads_end : (ks : List ℕ) (i : ℕ) {n a : ℕ} → length ks ≤ i → n + heads (drop i ks) ≡ a → n ≡ a
heads_end ks i h e = let e' = rw (drop_of_length-le ks h, heads_none) at e in omega arith

heads_more : (k : ℕ) (ks : List ℕ) → heads (k ∷ ks) ≤ 1 + heads ks
heads_more k [] = omega (arith, heads_one k)
heads_more k (l ∷ ks) = by-test (eqb k l) (λ e. omega (arith, heads-same k l ks e)) (λ e. omega (arith, heads_other k l ks e))

pub heads_long : (ks : List ℕ) → heads ks ≤ length ks
heads_long [] = omega (arith, heads_none)
heads_long (k ∷ ks) = omega (arith, heads_more k ks, heads_long ks)

-- ---- changed keys
put_same : (k : ℕ) (us : List ℕ) → put k (k ∷ us) ≡ k ∷ us
put_same k us = rw (le-ltb k k (omega arith), eq-eqb k k refl)

-- a key that was just put is there already
put_again : (k : ℕ) (us : List ℕ) → put k (put k us) ≡ put k us
put_again k [] = put_same k []
put_again k (u ∷ us) =
    by-test (ltb k u) (λ e. rw e (put_same k (u ∷ us)))
    (λ e. by-test (eqb k u) (λ e'. rw (e, e', e, e')) (λ e'. rw (e, e', e, e', put_again k us)))

puts-heads : (ks us : List ℕ) → length (puts ks us) ≤ heads ks + length us
puts-heads [] us = omega (arith, heads_none)
puts-heads (k ∷ []) us = omega (arith, put-length k us, heads_one k)
puts-heads (k ∷ l ∷ ks) us =
    by-test (eqb k l)
    (λ e. rw (heads-same k l ks e, eqb-true k l e, put_again l (puts ks us)) (omega (arith, puts-heads (l ∷ ks) us)))
    (λ e. omega (arith, heads_other k l ks e, put-length k (puts (l ∷ ks) us), puts-heads (l ∷ ks) us))

pub changed_few : (ks ps : List ℕ) → length (puts (ks ++ ps) []) ≤ heads ks + heads ps
changed_few ks ps = rw (puts-append ks ps []) (omega (arith, puts-heads ks (puts ps []), puts-heads ps []))

-- ---- sizes
column_most : (old new : ℕ) → column_needed old new ≤ 8192
unfolding column_needed
column_most old new = omega arith

moments_most : (width old : ℕ) (new pending : List ℕ) → moments_needed width old new pending ≤ 65537
unfolding moments_needed
moments_most width old new pending = omega (arith, column_most old (length new))

data Within : List ℕ → List ℕ → Type 0 where
  none : Within [] []
  more : {n n' : ℕ} {ns ns' : List ℕ} → n' ≤ n → Within ns ns' → Within (n ∷ ns) (n' ∷ ns')

still_long : {A : Type 0} {ns ns' : List ℕ} → Within ns ns' → (ss : List (List A)) → long_enough ns ss ≡ true → long_enough ns' ss ≡ true
still_long none ss e = refl
still_long (more h w) [] e = e
still_long (more {n} {n'} {ns} {ns'} h w) (s ∷ ss) e =
    and_i (leb n' (length s)) (long_enough ns' ss)
    (le-leb n' (length s) (omega (arith, leb-true n (length s) (and_l (leb n (length s)) (long_enough ns ss) e))))
    (still_long w ss (and_r (leb n (length s)) (long_enough ns ss) e))

pub published_suffices : (l : Lent) (m : Memory) → roomy published m ≡ true → roomy (needed l) m ≡ true
unfolding roomy needed
published_suffices l m e =
    let column = column_most (length l.old.keys) (length l.new.keys) in
    let moments = moments_most l.width (length l.old.keys) l.new.keys l.pending_keys in
    let results = leb numbers_size (length m.numbers) && leb most_records (length m.diffs) in
    let numbers = long_enough published.work m.work in
    let diffs = long_enough published.work_diffs m.work_diffs in
    let e' = and_l (results && numbers) diffs e in
    and_i (results && long_enough (needed l).work m.work) (long_enough (needed l).work_diffs m.work_diffs)
    (and_i results (long_enough (needed l).work m.work)
    (and_l results numbers e')
    (still_long (more moments (more column (more column (more column (more column (more column none)))))) m.work (and_r results numbers e')))
    (still_long (more column (more column none)) m.work_diffs (and_r (results && numbers) diffs e))
