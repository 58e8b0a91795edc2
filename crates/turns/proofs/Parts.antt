-- The parts of a run's columns that a window's searches find hold the edits of its keys; they lie apart, and each is in order.
--
-- parts_are: the part of each key holds its edits. parts_apart: the parts do not overlap, and each ascends by value, with diffs that are
-- together no larger than those of the run's records
use Prim.Native.Nat.{ℕ, ◌*◌, ◌≤◌, ◌^◌}
use native.Mathlib.Omega.{arith}
use mathlib.Core.Bool.{true}
use mathlib.Core.List.{List, [], ◌∷◌, map, map-map}
use mathlib.Core.Path.{◌≡◌, refl, sym, ◌∙◌, ap, subst}
use lib.Dec.{eqb, ltb}
use lib.IntN.{ℤ, nat_abs}
use lib.ListN.{length, length-map}
use Rattle.grid.specs.Lists.{keep, ascending}
use Rattle.grid.specs.Records.{Row, rows}
use Rattle.grid.proofs.Lists.{All, head, all_keep, all_map, map_all, keep_length}
use Rattle.grid.proofs.Sizes.{mass, mass_most}
use Rattle.grid.proofs.Ascending.{ascending_rest}
use Rattle.rules.specs.Histories.{Edit, value_of}
use Rattle.rules.specs.Call.{edits_of}
use Rattle.backends.specs.Segments.{part}
use Rattle.backends.proofs.Columns.{less}
use Rattle.grid.proofs.Operations.{no_length}
use Rattle.keys.specs.Spans.{Reaches, Spans, Level}
use Rattle.keys.specs.declared.Span.{Span}
use Rattle.keys.proofs.Spans.{key_of, diff_of, rows_keys, rows-diffs, map-part, keep_part, spans_within}
use Rattle.keys.proofs.Ranked.{Ranked, Modest, ranked_values}
use Rattle.searches.specs.Searched.{from_at, span_at, spans_from, end_from}
use Rattle.finding.specs.Windowed.{spans_in}
use Rattle.finding.proofs.Keyed.{reaches_past}
use Rattle.moments.specs.Present.{edits}
use Rattle.moments.specs.Window.{parts_of, Apart, done, next, Orderly}
use Rattle.moments.proofs.Showing.{apart_past}
use Rattle.moments.proofs.Orderly.{apart_more}

-- ---- two columns, and the parts that they tell
abbrev froms_of : List Span → List ℕ
froms_of ss = map (λ (s : Span). s.from) ss

abbrev tos_of : List Span → List ℕ
tos_of ss = map (λ (s : Span). s.to) ss

froms_in : (fs es : List ℕ) → length fs ≡ length es → fs ≡ froms_of (spans_in fs es)
unfolding spans_in
froms_in [] es e = refl
froms_in (f ∷ fs) [] e = no_length (length fs) e
froms_in (f ∷ fs) (t ∷ es) e = ap (λ l. f ∷ l) (froms_in fs es (less e))

tos_in : (fs es : List ℕ) → length fs ≡ length es → es ≡ tos_of (spans_in fs es)
unfolding spans_in
tos_in [] [] e = refl
tos_in [] (t ∷ es) e = no_length (length es) (sym e)
tos_in (f ∷ fs) [] e = no_length (length fs) e
tos_in (f ∷ fs) (t ∷ es) e = ap (λ l. t ∷ l) (tos_in fs es (less e))

-- ---- a key's part of a run
spans_at : (run : List ℕ) (start k : ℕ) → Spans run start k (span_at run start k)
unfolding span_at from_at
spans_at run start k = record { from_is = refl; to_is = refl }

reaches_rest : {run : List ℕ} {start k : ℕ} {ks : List ℕ} → ascending ltb (k ∷ ks) ≡ true → All (Reaches run start) (k ∷ ks) → All (Reaches run (span_at run start k).to) ks
unfolding end_from
reaches_rest {k = k} {ks = ks} a r = reaches_past (k ∷ []) ks a r

abbrev edit_of : Row → Edit
edit_of r = ((r.time, r.value), r.diff)

edits-rows : (ks vs ts : List ℕ) (ds : List ℤ) → length vs ≡ length ks → length ts ≡ length ks → length ds ≡ length ks → edits vs ts ds ≡ map edit_of (rows ks vs ts ds)
unfolding edits
edits-rows [] [] ts ds a b c = refl
edits-rows [] (v ∷ vs) ts ds a b c = no_length (length vs) a
edits-rows (k ∷ ks) [] ts ds a b c = no_length (length ks) (sym a)
edits-rows (k ∷ ks) (v ∷ vs) [] ds a b c = no_length (length ks) (sym b)
edits-rows (k ∷ ks) (v ∷ vs) (t ∷ ts) [] a b c = no_length (length ks) (sym c)
edits-rows (k ∷ ks) (v ∷ vs) (t ∷ ts) (d ∷ ds) a b c = ap (λ l. ((t, v), d) ∷ l) (edits-rows ks vs ts ds (less a) (less b) (less c))

module _ {ks vs ts : List ℕ} {ds : List ℤ} (l : Level ks vs ts ds) where
  in_rows : edits vs ts ds ≡ map edit_of (rows ks vs ts ds)
  in_rows = edits-rows ks vs ts ds l.values_long l.times_long l.diffs_long

  rows_long : length (rows ks vs ts ds) ≡ length ks
  rows_long = sym (length-map (rows ks vs ts ds) key_of) ∙ ap length (rows_keys l)

  run_long : length (edits vs ts ds) ≡ length ks
  run_long = ap length in_rows ∙ length-map (rows ks vs ts ds) edit_of ∙ rows_long

  key_edits : {start k : ℕ} → Reaches ks start k → part (span_at ks start k).from (span_at ks start k).to (edits vs ts ds) ≡ edits_of k (rows ks vs ts ds)
  unfolding edits_of
  key_edits {start} {k} r =
      let s : Span = span_at ks start k in
      ap (part s.from s.to) in_rows ∙ sym (map-part edit_of s.from s.to (rows ks vs ts ds))
      ∙ ap (map edit_of) (keep_part key_of (rows ks vs ts ds) (rows_keys l) r (spans_at ks start k))

  parts_from : {start : ℕ} (keys : List ℕ) → ascending ltb keys ≡ true → All (Reaches ks start) keys
      → parts_of (froms_of (spans_from ks start keys)) (tos_of (spans_from ks start keys)) (edits vs ts ds) ≡ map (λ k. edits_of k (rows ks vs ts ds)) keys
  unfolding spans_from parts_of
  parts_from [] a r = refl
  parts_from {start} (k ∷ keys) a r =
      let e = key_edits (head r) in
      let ih = parts_from {start = (span_at ks start k).to} keys (ascending_rest ltb k keys a) (reaches_rest a r) in
      λ i. e i ∷ ih i

  pub parts_are : {start : ℕ} (fs es keys : List ℕ) → ascending ltb keys ≡ true → All (Reaches ks start) keys → spans_in fs es ≡ spans_from ks start keys → length fs ≡ length es
      → parts_of fs es (edits vs ts ds) ≡ map (λ k. edits_of k (rows ks vs ts ds)) keys
  parts_are fs es keys a r s n =
      (λ i. parts_of ((froms_in fs es n ∙ ap froms_of s) i) ((tos_in fs es n ∙ ap tos_of s) i) (edits vs ts ds)) ∙ parts_from keys a r

  -- ---- parts in order
  module _ (ranked : Ranked (rows ks vs ts ds)) (modest : All Modest ds) where
    key_orderly : (k : ℕ) → Orderly (length ks) (edits_of k (rows ks vs ts ds))
    unfolding edits_of value_of
    key_orderly k =
        let rs : List Row = keep (λ x. eqb k x.key) (rows ks vs ts ds) in
        let m : mass nat_abs (map edit_of rs) ≤ length (map edit_of rs) * 2 ^ 31 = mass_most nat_abs (2 ^ 31) (all_map edit_of (all_keep (λ x. eqb k x.key) (map_all {P = Modest} diff_of (rows ks vs ts ds) (rw (rows-diffs l) modest)))) in
        let n : length (map edit_of rs) ≡ length rs = length-map rs edit_of in
        let few : length rs ≤ length (rows ks vs ts ds) = keep_length (λ x. eqb k x.key) (rows ks vs ts ds) in
        record { ascends = rw (map-map value_of edit_of rs) (ranked_values k ranked); light = omega (arith, rows_long) }

    apart_from : {start : ℕ} (keys : List ℕ) → ascending ltb keys ≡ true → All (Reaches ks start) keys
        → Apart (Orderly (length ks)) (edits vs ts ds) start (froms_of (spans_from ks start keys)) (tos_of (spans_from ks start keys))
    unfolding spans_from
    apart_from [] a r = done
    apart_from {start} (k ∷ keys) a r =
        let s : Span = span_at ks start k in
        let w = spans_within (head r) (spans_at ks start k) in
        next {k = start} {f = s.from} (omega (arith, (spans_at ks start k).from_is)) w.ordered (rw run_long w.inside) (subst (Orderly (length ks)) (sym (key_edits (head r))) (key_orderly k))
        (apart_from {start = (span_at ks start k).to} keys (ascending_rest ltb k keys a) (reaches_rest a r))

    pub parts_apart : {n start : ℕ} {fs es : List ℕ} {keys : List ℕ} → length ks ≤ n → ascending ltb keys ≡ true → All (Reaches ks start) keys → spans_in fs es ≡ spans_from ks start keys → length fs ≡ length es
        → Apart (Orderly n) (edits vs ts ds) 0 fs es
    parts_apart {fs = fs} {es = es} {keys = keys} h a r s e =
        let p = froms_in fs es e ∙ ap froms_of s in
        let q = tos_in fs es e ∙ ap tos_of s in
        rw (p, q) (apart_past (omega arith) (apart_more h (apart_from keys a r)))
