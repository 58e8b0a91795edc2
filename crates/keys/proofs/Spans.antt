-- A key's part of a run is the part that has this key.
--
-- reaches_start, reaches_on: a search may begin at 0; and, for a greater key, where the part of the last one ends
-- spans_within: the part lies within the run. keep_part: it holds the entries that have the key
-- values_part, edits-part, pending_part: so do the parts of the columns of a run, and of a pending list
-- times_of_lem: a key's times in a run are those of the pairs of its keys and times
use Prim.Native.Nat.{ℕ, ◌+◌, ◌-◌, ◌≤◌, ◌<◌}
use native.Mathlib.Omega.{arith}
use mathlib.Core.Bool.{Bool, true}
use mathlib.Core.List.{List, [], ◌∷◌, ◌++◌, map, append-nil}
use mathlib.Core.Path.{◌≡◌, refl, sym, ◌∙◌, ap}
use lib.Dec.{eqb, leb, ltb}
use lib.IntN.{ℤ}
use lib.ListN.{length, take, drop, length-drop, take-append-drop}
use lib.Seq.{drop-drop, take-add}
use borrow.Author.Tests.{eqb-true, ne_eqb, ltb-true, ltb-false, leb-true}
use Rattle.grid.specs.Lists.{keep, front, past}
use Rattle.grid.specs.Records.{Row, rows, pairs}
use Rattle.grid.proofs.Tests.{by-test}
use Rattle.grid.proofs.Lists.{All, nil, cons, all_imp, all_append, map_all, keep_none, keep_each}
use Rattle.grid.proofs.Sort.{Sorted, none, more, sorted_drop}
use Rattle.grid.proofs.Operations.{no_length, keep_append, front_fits, map-take, map-drop, pairs_keys, pairs-times}
use Rattle.rules.specs.Histories.{Edit}
use Rattle.rules.specs.Call.{edits_of, times_of, pending_of}
use Rattle.rules.proofs.Order.{Rising, empty, then, past_above, front_passes}
use Rattle.histories.proofs.Steps.{front_take, past_drop}
use Rattle.edits.specs.Edits.{edits}
use Rattle.backends.specs.Segments.{part}
use Rattle.backends.proofs.Columns.{less}
use Rattle.keys.specs.Spans.{Reaches, Spans, Within, Level}
use Rattle.keys.specs.declared.Span.{Span}

pub sorted_rising : {l : List ℕ} → Sorted leb l → Rising l
sorted_rising none = empty
sorted_rising (more {x = x} h s) = then (all_imp (λ y t. leb-true x y t) h) (sorted_rising s)

-- past the keys below k, no key is below k
past_least : (k : ℕ) {l : List ℕ} → Sorted leb l → All (λ x. k ≤ x) (past (λ x. ltb x k) l)
past_least k none = nil
past_least k (more {x = x} h s) =
    by-test (ltb x k) (λ e. rw e (past_least k s))
    (λ e. let q : k ≤ x = ltb-false x k e in rw e (cons {x = x} q (all_imp (λ y t. omega (arith, leb-true x y t)) h)))

pub reaches_start : {keys : List ℕ} (k : ℕ) → Sorted leb keys → Reaches keys 0 k
reaches_start k s = record { ascends = s; within = omega arith; passed = nil }

module _ {keys : List ℕ} {start k : ℕ} {s : Span} (r : Reaches keys start k) (e : Spans keys start k s) where
  before-part : All (λ x. x < k) (take s.from keys)
  before-part =
      let p : ℕ → Bool = (λ x. ltb x k) in
      rw (e.from_is, take-add start (length (front p (drop start keys))) keys, ← front_take p (drop start keys))
      (all_append r.passed (all_imp (λ x t. ltb-true x k t) (front_passes p (drop start keys))))

  count_is : s.to - s.from ≡ length (front (eqb k) (drop s.from keys))
  count_is = omega (arith, e.to_is)

  in_part : All (λ x. eqb k x ≡ true) (part s.from s.to keys)
  in_part = rw (count_is, ← front_take (eqb k) (drop s.from keys)) (front_passes (eqb k) (drop s.from keys))

  after-part : All (λ x. k < x) (drop s.to keys)
  after-part =
      let p : ℕ → Bool = (λ x. ltb x k) in
      let here : past p (drop start keys) ≡ drop s.from keys = past_drop p (drop start keys) ∙ drop-drop _ start keys ∙ ap (λ n. drop n keys) (sym e.from_is) in
      let there : past (eqb k) (drop s.from keys) ≡ drop s.to keys = past_drop (eqb k) (drop s.from keys) ∙ drop-drop _ s.from keys ∙ ap (λ n. drop n keys) (sym e.to_is) in
      rw (← there) (past_above k (sorted_rising (sorted_drop s.from r.ascends)) (rw (← here) (past_least k (sorted_drop start r.ascends))))

  pub spans_within : Within (length keys) s
  spans_within =
      let w : start ≤ length keys = r.within in
      let f : length (front (λ x. ltb x k) (drop start keys)) ≤ length keys - start = rw length-drop at (front_fits (λ x. ltb x k) (drop start keys)) in
      let g : length (front (eqb k) (drop s.from keys)) ≤ length keys - s.from = rw length-drop at (front_fits (eqb k) (drop s.from keys)) in
      record { ordered = omega (arith, e.to_is); inside = omega (arith, e.from_is, e.to_is) }

  whole_is : {A : Type 0} (l : List A) → take s.from l ++ (part s.from s.to l ++ drop s.to l) ≡ l
  whole_is l =
      let o : s.from + (s.to - s.from) ≡ s.to = omega (arith, spans_within.ordered) in
      ap (λ n. take s.from l ++ (part s.from s.to l ++ drop n l)) (sym o)
      ∙ ap (λ x. take s.from l ++ (part s.from s.to l ++ x)) (sym (drop-drop (s.to - s.from) s.from l))
      ∙ ap (λ x. take s.from l ++ x) (take-append-drop (s.to - s.from) (drop s.from l))
      ∙ take-append-drop s.from l

  -- a greater key is found from the end of the part on
  pub reaches_on : (k' : ℕ) → k < k' → Reaches keys s.to k'
  reaches_on k' h =
      let o : s.from + (s.to - s.from) ≡ s.to = omega (arith, spans_within.ordered) in
      record {
        ascends = r.ascends;
        within = spans_within.inside;
        passed =
            rw (← o, take-add s.from (s.to - s.from) keys)
            (all_append (all_imp (λ x t. omega arith) before-part) (all_imp (λ x t. omega (arith, eqb-true k x t)) in_part));
      }

-- ---- entries that have a key
module _ {A B : Type 0} (f : A → B) where
  pub map-part : (a b : ℕ) (l : List A) → map f (part a b l) ≡ part a b (map f l)
  map-part a b l = map-take f (b - a) (drop a l) ∙ ap (take (b - a)) (map-drop f a l)

module _ {A : Type 0} (key : A → ℕ) (l : List A) {keys : List ℕ} {start k : ℕ} {s : Span} (q : map key l ≡ keys) (r : Reaches keys start k) (e : Spans keys start k s) where
  pub keep_part : part s.from s.to l ≡ keep (λ x. eqb k (key x)) l
  keep_part =
      let p : A → Bool = (λ x. eqb k (key x)) in
      let a : keep p (take s.from l) ≡ [] = keep_none p (all_imp (λ (x : A) (h : key x < k). ne_eqb k (key x) (λ z. omega arith)) (map_all {P = λ x. x < k} key (take s.from l) (rw (map-take key s.from l, q) (before-part r e)))) in
      let b : keep p (part s.from s.to l) ≡ part s.from s.to l = keep_each p (map_all {P = λ x. eqb k x ≡ true} key (part s.from s.to l) (rw (map-part key s.from s.to l, q) (in_part r e))) in
      let c : keep p (drop s.to l) ≡ [] = keep_none p (all_imp (λ (x : A) (h : k < key x). ne_eqb k (key x) (λ z. omega arith)) (map_all {P = λ x. k < x} key (drop s.to l) (rw (map-drop key s.to l, q) (after-part r e)))) in
      sym (ap (keep p) (sym (whole_is r e l)) ∙ keep_append p (take s.from l) (part s.from s.to l ++ drop s.to l)
      ∙ ap (λ z. keep p (take s.from l) ++ z) (keep_append p (part s.from s.to l) (drop s.to l)) ∙ rw (a, b, c) (append-nil (part s.from s.to l)))

-- ---- the columns of a run
data Aligned : List ℕ → List ℕ → List ℕ → List ℤ → Type 0 where
  end : Aligned [] [] [] []
  on : {k v t : ℕ} {d : ℤ} {ks vs ts : List ℕ} {ds : List ℤ} → Aligned ks vs ts ds → Aligned (k ∷ ks) (v ∷ vs) (t ∷ ts) (d ∷ ds)

aligned : (ks vs ts : List ℕ) (ds : List ℤ) → length vs ≡ length ks → length ts ≡ length ks → length ds ≡ length ks → Aligned ks vs ts ds
aligned [] [] [] [] a b c = end
aligned [] (v ∷ vs) ts ds a b c = no_length (length vs) a
aligned [] [] (t ∷ ts) ds a b c = no_length (length ts) b
aligned [] [] [] (d ∷ ds) a b c = no_length (length ds) c
aligned (k ∷ ks) [] ts ds a b c = no_length (length ks) (sym a)
aligned (k ∷ ks) (v ∷ vs) [] ds a b c = no_length (length ks) (sym b)
aligned (k ∷ ks) (v ∷ vs) (t ∷ ts) [] a b c = no_length (length ks) (sym c)
aligned (k ∷ ks) (v ∷ vs) (t ∷ ts) (d ∷ ds) a b c = on (aligned ks vs ts ds (less a) (less b) (less c))

abbrev pub key_of : Row → ℕ
key_of r = r.key

abbrev pub value_of : Row → ℕ
value_of r = r.value

abbrev time_of : Row → ℕ
time_of r = r.time

abbrev pub diff_of : Row → ℤ
diff_of r = r.diff

abbrev edit_of : Row → Edit
edit_of r = ((r.time, r.value), r.diff)

keys_aligned : {ks vs ts : List ℕ} {ds : List ℤ} → Aligned ks vs ts ds → map key_of (rows ks vs ts ds) ≡ ks
keys_aligned end = refl
keys_aligned (on {k = k} a) = ap (λ r. k ∷ r) (keys_aligned a)

values_aligned : {ks vs ts : List ℕ} {ds : List ℤ} → Aligned ks vs ts ds → map value_of (rows ks vs ts ds) ≡ vs
values_aligned end = refl
values_aligned (on {v = v} a) = ap (λ r. v ∷ r) (values_aligned a)

times_aligned : {ks vs ts : List ℕ} {ds : List ℤ} → Aligned ks vs ts ds → map time_of (rows ks vs ts ds) ≡ ts
times_aligned end = refl
times_aligned (on {t = t} a) = ap (λ r. t ∷ r) (times_aligned a)

diffs_aligned : {ks vs ts : List ℕ} {ds : List ℤ} → Aligned ks vs ts ds → map diff_of (rows ks vs ts ds) ≡ ds
diffs_aligned end = refl
diffs_aligned (on {d = d} a) = ap (λ r. d ∷ r) (diffs_aligned a)

pending_aligned : (k : ℕ) {ks vs ts : List ℕ} {ds : List ℤ} → Aligned ks vs ts ds → times_of k (rows ks vs ts ds) ≡ pending_of k (pairs ks ts)
unfolding times_of pending_of
pending_aligned k end = refl
pending_aligned k (on {k = j} {t = t} a) = by-test (eqb k j) (λ e. rw e (ap (λ r. t ∷ r) (pending_aligned k a))) (λ e. rw e (pending_aligned k a))

edits-rows : (rs : List Row) → edits (map time_of rs) (map value_of rs) (map diff_of rs) ≡ map edit_of rs
unfolding edits
edits-rows [] = refl
edits-rows (r ∷ rs) = ap (λ es. edit_of r ∷ es) (edits-rows rs)

module _ {ks vs ts : List ℕ} {ds : List ℤ} (l : Level ks vs ts ds) where
  in_line : Aligned ks vs ts ds
  in_line = aligned ks vs ts ds l.values_long l.times_long l.diffs_long

  pub rows_keys : map key_of (rows ks vs ts ds) ≡ ks
  rows_keys = keys_aligned in_line

  pub rows-diffs : map diff_of (rows ks vs ts ds) ≡ ds
  rows-diffs = diffs_aligned in_line

  pub times_of_lem : (k : ℕ) → times_of k (rows ks vs ts ds) ≡ pending_of k (pairs ks ts)
  times_of_lem k = pending_aligned k in_line

  module _ {start k : ℕ} {s : Span} (r : Reaches ks start k) (e : Spans ks start k s) where
    rows-part : part s.from s.to (rows ks vs ts ds) ≡ keep (λ x. eqb k x.key) (rows ks vs ts ds)
    rows-part = keep_part key_of (rows ks vs ts ds) rows_keys r e

    column_part : {B : Type 0} (f : Row → B) {bs : List B} → map f (rows ks vs ts ds) ≡ bs → part s.from s.to bs ≡ map f (keep (λ x. eqb k x.key) (rows ks vs ts ds))
    column_part f q = ap (part s.from s.to) (sym q) ∙ sym (map-part f s.from s.to (rows ks vs ts ds)) ∙ ap (map f) rows-part

    pub values_part : part s.from s.to vs ≡ map value_of (keep (λ x. eqb k x.key) (rows ks vs ts ds))
    values_part = column_part value_of (values_aligned in_line)

    pub edits-part : edits (part s.from s.to ts) (part s.from s.to vs) (part s.from s.to ds) ≡ edits_of k (rows ks vs ts ds)
    unfolding edits_of
    edits-part =
        (λ i. edits (column_part time_of (times_aligned in_line) i) (values_part i) (column_part diff_of rows-diffs i))
        ∙ edits-rows (keep (λ x. eqb k x.key) (rows ks vs ts ds))

-- ---- the columns of a pending list
pub pending_part : (ks ts : List ℕ) → length ts ≡ length ks → {start k : ℕ} {s : Span} → Reaches ks start k → Spans ks start k s → part s.from s.to ts ≡ pending_of k (pairs ks ts)
unfolding pending_of
pending_part ks ts l {s = s} r e =
    ap (part s.from s.to) (sym (pairs-times ks ts l)) ∙ sym (map-part (λ (p : ℕ × ℕ). p.1) s.from s.to (pairs ks ts))
    ∙ ap (map (λ (p : ℕ × ℕ). p.1)) (keep_part (λ (p : ℕ × ℕ). p.0) (pairs ks ts) (pairs_keys ks ts l) r e)
