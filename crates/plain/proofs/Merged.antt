-- A round's correction, merged into the key's output.
--
-- canon_sorted: the values of a canonical list ascend. merged_none: an output in order, with no correction, is as it was. merged-length: nothing is lost
-- merged_orderly: with a correction in range the output is in order, for as many records more as it has entries
-- back_asks: what the merge asks. back_room: what the copies ask. back_merged: what they leave
use Prim.Native.Nat.{ℕ, ◌+◌, ◌-◌, ◌*◌, ◌<◌, ◌≤◌, ◌^◌}
use native.Mathlib.Omega.{arith}
use mathlib.Core.Bool.{true}
use mathlib.Core.Path.{◌≡◌, sym, ◌∙◌, ap, subst}
use mathlib.Core.List.{List, [], ◌++◌, map, append-nil}
use lib.Dec.{leb, ltb}
use lib.IntN.{ℤ, nat_abs}
use lib.ListN.{length, take, drop, length-map, length-append, length-take}
use lib.Seq.{length-take-le, take-append_seam}
use borrow.Author.Tests.{ltb-true, le-leb}
use Rattle.grid.specs.Lists.{sort}
use Rattle.grid.proofs.Lists.{All, all_imp, all_map}
use Rattle.grid.proofs.Sort.{Sorted, none, more, sort_sorted, length_sort}
use Rattle.grid.proofs.Sizes.{mass, mass_most}
use Rattle.grid.proofs.Consolidate as consolidate
use Rattle.grid.proofs.Consolidate.{Canon}
use Rattle.rules.specs.Histories.{Edit, time_of, value_of}
use Rattle.rules.specs.Backends.{Sums}
use Rattle.rules.specs.Retire.{dated}
use Rattle.backends.specs.Columns.{entries, values_of, Column}
use Rattle.backends.proofs.Columns.{length-entries}
use Rattle.moments.specs.Present.{edits}
use Rattle.moments.specs.Window.{Orderly}
use Rattle.moments.proofs.Columns.{edits_values, edits-append, edits_of_columns, front_edits}
use Rattle.rounds.specs.Merges.{by_value, merged, Merges, Rows}
use Rattle.rounds.proofs.Mixing.{sorted_of, merged_sorted, merged-mass}
use Rattle.plain.specs.Plain.{MergesBack, MergedBack}

pub canon_sorted : {c : Sums} → Canon ltb c → Sorted leb (values_of c)
canon_sorted consolidate.none = none
canon_sorted (consolidate.more {y = y} n h c) = more (all_map {P = λ (v : ℕ). leb y.0 v ≡ true} (λ (z : ℕ × ℤ). z.0) (all_imp (λ z e. le-leb y.0 z.0 (let q : y.0 < z.0 = ltb-true y.0 z.0 e in omega arith)) h)) (canon_sorted c)

pub merged_none : {n : ℕ} (t : ℕ) (o : List Edit) → Orderly n o → merged o t [] ≡ o
unfolding merged dated
merged_none t o h = ap (sort by_value) (append-nil o) ∙ sort_sorted (sorted_of o h.ascends)

merged-length : (es : List Edit) (t : ℕ) (c : Sums) → length (merged es t c) ≡ length es + length c
unfolding merged dated
merged-length es t c = length_sort by_value (es ++ dated t c) ∙ length-append es (dated t c) ∙ ap (λ n. length es + n) (length-map c (λ (p : ℕ × ℤ). ((t, p.0), p.1)))

pub merged_orderly : {n m : ℕ} (o : List Edit) (t : ℕ) (c : Sums) → n + length c ≤ m → Orderly n o → All (λ (y : ℕ × ℤ). nat_abs y.1 ≤ 2 ^ 31) c → Orderly m (merged o t c)
merged_orderly {n} {m} o t c k h a = record {
  ascends = merged_sorted o t c;
  light = (
      let x : mass nat_abs (merged o t c) ≡ mass nat_abs o + mass nat_abs c = merged-mass o t c in
      let y : mass nat_abs o ≤ n * 2 ^ 31 = h.light in
      let z : mass nat_abs c ≤ length c * 2 ^ 31 = mass_most nat_abs (2 ^ 31) a in
      omega arith);
}

-- ---- the merge, and the copies
edits-over : (w : List Edit) (vs ts : List ℕ) (ds : List ℤ) → edits (map value_of w ++ vs) (map time_of w ++ ts) (map (λ (e : Edit). e.1) w ++ ds) ≡ w ++ edits vs ts ds
edits-over w vs ts ds =
    edits-append (map value_of w) (map time_of w) (map (λ (e : Edit). e.1) w) vs ts ds (length-map w time_of ∙ sym (length-map w value_of)) (length-map w (λ (e : Edit). e.1) ∙ sym (length-map w value_of))
    ∙ ap (λ l. l ++ edits vs ts ds) (edits_of_columns w)

front : {A : Type 0} {before new after : List A} {r : ℕ} → Column before 0 new after r → take (r - 0) after ≡ new
front {after = after} {r} c = let e : r - 0 ≡ r = omega arith in ap (λ i. take i after) e ∙ c.front

module _ {n : ℕ} {cv : List ℕ} {cd : List ℤ} {uv ut : List ℕ} {ud : List ℤ} {yv yt : List ℕ} {yd : List ℤ} (a : MergesBack n cv cd uv ut ud yv yt yd) where
  back_within : (n ≤ length uv) × ((n ≤ length ut) × (n ≤ length ud))
  back_within =
      let r : n + length cv ≤ length uv = a.room in
      let t : length ut ≡ length uv = a.long_ut in
      let d : length ud ≡ length uv = a.long_ud in
      (omega arith, (omega arith, omega arith))

  pub back_asks : Merges (take (n - 0) uv) (take (n - 0) ut) (take (n - 0) ud) cv cd yv yt yd 0
  back_asks =
      let r : n + length cv ≤ length uv = a.room in
      let y : length yv ≡ length uv = a.long_yv in
      let v : length (take (n - 0) uv) ≡ n - 0 = length-take-le (n - 0) uv (let h : n ≤ length uv = back_within.0 in omega arith) in
      let t : length (take (n - 0) ut) ≡ n - 0 = length-take-le (n - 0) ut (let h : n ≤ length ut = back_within.1.0 in omega arith) in
      let d : length (take (n - 0) ud) ≡ n - 0 = length-take-le (n - 0) ud (let h : n ≤ length ud = back_within.1.1 in omega arith) in
      record {
        same_ut = t ∙ sym v;
        same_ud = d ∙ sym v;
        same_cd = a.same_cd;
        same_yt = a.long_yt ∙ sym y;
        same_yd = a.long_yd ∙ sym y;
        room = omega arith;
        ascends_u = subst (Sorted leb) (ap (map value_of) (sym (front_edits n uv ut ud)) ∙ edits_values (take (n - 0) uv) (take (n - 0) ut) (take (n - 0) ud) (t ∙ sym v) (d ∙ sym v)) a.ascends_u;
        ascends_c = a.ascends_c;
      }

  module _ (t : ℕ) {yv' yt' : List ℕ} {yd' : List ℤ} {m : ℕ} (r₀ : Rows yv yt yd 0 (merged (edits (take (n - 0) uv) (take (n - 0) ut) (take (n - 0) ud)) t (entries cv cd)) yv' yt' yd' m) where
    abbrev w : List Edit
    w = merged (take n (edits uv ut ud)) t (entries cv cd)

    r : Rows yv yt yd 0 w yv' yt' yd' m
    r = subst (λ (es : List Edit). Rows yv yt yd 0 (merged es t (entries cv cd)) yv' yt' yd' m) (front_edits n uv ut ud) r₀

    count : m ≡ length w
    count = let e : m ≡ 0 + length (map value_of w) = r.values.end in let l : length (map value_of w) ≡ length w = length-map w value_of in omega arith

    long : length w ≤ length uv
    long =
        let l : length w ≡ length (take n (edits uv ut ud)) + length (entries cv cd) = merged-length (take n (edits uv ut ud)) t (entries cv cd) in
        let c : length (entries cv cd) ≡ length cv = length-entries cv cd a.same_cd in
        let s : length (take n (edits uv ut ud)) ≤ n = rw length-take (omega arith) in
        let k : n + length cv ≤ length uv = a.room in
        omega arith

    pub back_room : (length (take (m - 0) yv') ≤ length uv) × ((length (take (m - 0) yt') ≤ length ut) × (length (take (m - 0) yd') ≤ length ud))
    back_room =
        let l : length w ≤ length uv = long in
        let t : length ut ≡ length uv = a.long_ut in
        let d : length ud ≡ length uv = a.long_ud in
        let nv : length (take (m - 0) yv') ≡ length w = ap length (front r.values) ∙ length-map w value_of in
        let nt : length (take (m - 0) yt') ≡ length w = ap length (front r.times) ∙ length-map w time_of in
        let nd : length (take (m - 0) yd') ≡ length w = ap length (front r.diffs) ∙ length-map w (λ (e : Edit). e.1) in
        (omega arith, (omega arith, omega arith))

    pub back_merged : {uv' ut' : List ℕ} {ud' : List ℤ} → uv' ≡ take (m - 0) yv' ++ drop (length (take (m - 0) yv')) uv → ut' ≡ take (m - 0) yt' ++ drop (length (take (m - 0) yt')) ut
        → ud' ≡ take (m - 0) yd' ++ drop (length (take (m - 0) yd')) ud → MergedBack t (take n (edits uv ut ud)) (entries cv cd) uv' ut' ud' m
    back_merged {uv'} {ut'} {ud'} ev et ed =
        let vs = ev ∙ ap (λ l. l ++ drop (length (take (m - 0) yv')) uv) (front r.values) in
        let ts = et ∙ ap (λ l. l ++ drop (length (take (m - 0) yt')) ut) (front r.times) in
        let ds = ed ∙ ap (λ l. l ++ drop (length (take (m - 0) yd')) ud) (front r.diffs) in
        record {
          output_is = ap (λ i. take i (edits uv' ut' ud')) count ∙ ap (take (length w)) ((λ z. edits (vs z) (ts z) (ds z)) ∙ edits-over w (drop (length (take (m - 0) yv')) uv) (drop (length (take (m - 0) yt')) ut) (drop (length (take (m - 0) yd')) ud)) ∙ take-append_seam w _;
          count_is = count ∙ merged-length (take n (edits uv ut ud)) t (entries cv cd);
        }
