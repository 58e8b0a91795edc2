-- The merge of a key's correction into its output, and what it keeps.
--
-- Mixing: the edits before i of the segment and before j of the corrections are merged, and stand before k
-- mix_left, mix_right, mixing_end: the merge keeps that. here-*, in-*: the places that a turn reads and writes
-- merged_sorted: what is merged ascends by value. merged-mass: its diffs are together as large as those of the segment and of the corrections
use Prim.Native.Nat.{ℕ, zero, suc, ◌+◌, ◌<◌, ◌≤◌}
use native.Mathlib.Omega.{arith}
use mathlib.Core.Bool.{Bool, true, false}
use mathlib.Core.Path.{◌≡◌, refl, sym, ◌∙◌, ap, subst}
use mathlib.Core.List.{List, [], ◌∷◌, ◌++◌, map}
use lib.Dec.{ltb, leb}
use lib.IntN.{ℤ, pos, nat_abs}
use lib.ListN.{length, drop, get_or, set, length-map}
use borrow.Author.Tests.{ltb-true, ltb-false}
use Rattle.grid.specs.Lists.{insert, sort}
use Rattle.grid.proofs.Tests.{by-test, clash}
use Rattle.grid.proofs.Lists.{all_map, map_all}
use Rattle.grid.proofs.Sort.{Ranking, ranking_leb, Sorted, none, more, sorted_sort, merge, merge_sorted, left_first, merge_left, merge_right, merge_none, first_left, first_none}
use Rattle.grid.proofs.Sizes.{mass, mass-append, mass-map}
use Rattle.grid.proofs.Operations.{no_length, map-drop}
use Rattle.rules.specs.Histories.{Edit, time_of, value_of}
use Rattle.rules.specs.Backends.{Sums}
use Rattle.rules.specs.Retire.{dated}
use Rattle.backends.specs.Columns.{entries}
use Rattle.backends.proofs.Columns.{less, Writing, writing_more, writing_end}
use Rattle.moments.specs.Present.{edits}
use Rattle.rounds.specs.Merges.{by_value, merged, Merges, Rows}
use Rattle.moments.proofs.Columns.{e₀, edits-at, edits_values}

-- ---- the columns of edits
dated_values : (t : ℕ) (vs : List ℕ) (ds : List ℤ) → length ds ≡ length vs → map value_of (dated t (entries vs ds)) ≡ vs
unfolding dated entries value_of
dated_values t [] ds b = refl
dated_values t (v ∷ vs) [] b = no_length (length vs) (sym b)
dated_values t (v ∷ vs) (d ∷ ds) b = ap (λ l. v ∷ l) (dated_values t vs ds (less b))

dated-at : (t : ℕ) (vs : List ℕ) (ds : List ℤ) (i : ℕ) → length ds ≡ length vs → i < length vs → get_or (dated t (entries vs ds)) i e₀ ≡ ((t, get_or vs i 0), get_or ds i (pos 0))
unfolding dated entries
dated-at t [] ds i b h = absurd (omega arith)
dated-at t (v ∷ vs) [] i b h = no_length (length vs) (sym b)
dated-at t (v ∷ vs) (d ∷ ds) zero b h = refl
dated-at t (v ∷ vs) (d ∷ ds) (suc i) b h = dated-at t vs ds i (less b) (omega arith)

-- ---- the test of the merge reads the values alone
first_values : (xs ys : List Edit) → left_first by_value xs ys ≡ left_first leb (map value_of xs) (map value_of ys)
unfolding left_first
first_values [] ys = refl
first_values (x ∷ xs) [] = refl
first_values (x ∷ xs) (y ∷ ys) = refl

ranking_value : Ranking by_value
ranking_value = record {
  transitive = λ a b c p q. ranking_leb.transitive (value_of a) (value_of b) (value_of c) p q;
  total = λ a b p. ranking_leb.total (value_of a) (value_of b) p;
}

pub sorted_of : (es : List Edit) → Sorted leb (map value_of es) → Sorted by_value es
sorted_of [] s = none
sorted_of (e ∷ es) (more h s) = more (map_all value_of es h) (sorted_of es s)

sorted_values : {es : List Edit} → Sorted by_value es → Sorted leb (map value_of es)
sorted_values none = none
sorted_values (more h s) = more (all_map value_of h) (sorted_values s)

left_in : (a b : List ℕ) (i j : ℕ) → left_first leb (drop i a) (drop j b) ≡ true → i < length a
left_in a b i j e = by-test (ltb i (length a)) (λ h. ltb-true _ _ h) (λ h. clash (left_first leb (drop i a) (drop j b)) e (sym (first_none leb a b i j 0 (ltb-false _ _ h))))

right_in : (a b : List ℕ) (i j : ℕ) → i + j < length a + length b → j ≤ length b → left_first leb (drop i a) (drop j b) ≡ false → j < length b
right_in a b i j h k e =
    by-test (ltb j (length b)) (λ q. ltb-true _ _ q)
    (λ q. let l : length b ≤ j = ltb-false _ _ q in
    clash (left_first leb (drop i a) (drop j b)) (sym (first_left leb a b i j 0 (omega arith) l)) e)

module _ (uv ut : List ℕ) (ud : List ℤ) (cv : List ℕ) (cd : List ℤ) (t : ℕ) where
  -- what is still to be merged
  abbrev pub left : ℕ → ℕ → List Edit
  left i j = merge by_value (drop i (edits uv ut ud)) (drop j (dated t (entries cv cd)))

pub record Mixing (uv ut : List ℕ) (ud : List ℤ) (cv : List ℕ) (cd : List ℤ) (t at : ℕ) (yv₀ yt₀ : List ℕ) (yd₀ : List ℤ) (yv yt : List ℕ) (yd : List ℤ) (i j k : ℕ) : Type 0 where
  pub asks : Merges uv ut ud cv cd yv₀ yt₀ yd₀ at
  pub ia : i ≤ length uv
  pub jb : j ≤ length cv
  pub even : k ≡ at + i + j
  pub values : Writing yv₀ at (map value_of (left uv ut ud cv cd t 0 0)) yv k (map value_of (left uv ut ud cv cd t i j))
  pub times : Writing yt₀ at (map time_of (left uv ut ud cv cd t 0 0)) yt k (map time_of (left uv ut ud cv cd t i j))
  pub diffs : Writing yd₀ at (map (λ (e : Edit). e.1) (left uv ut ud cv cd t 0 0)) yd k (map (λ (e : Edit). e.1) (left uv ut ud cv cd t i j))

module _ {uv ut : List ℕ} {ud : List ℤ} {cv : List ℕ} {cd : List ℤ} {t at : ℕ} {yv₀ yt₀ : List ℕ} {yd₀ : List ℤ} {yv yt : List ℕ} {yd : List ℤ} {i j k : ℕ}
    (m : Mixing uv ut ud cv cd t at yv₀ yt₀ yd₀ yv yt yd i j k) where
  abbrev us : List Edit
  us = edits uv ut ud

  abbrev cs : List Edit
  cs = dated t (entries cv cd)

  values_u : map value_of us ≡ uv
  values_u = edits_values uv ut ud m.asks.same_ut m.asks.same_ud

  values_c : map value_of cs ≡ cv
  values_c = dated_values t cv cd m.asks.same_cd

  length_u : length us ≡ length uv
  length_u = sym (length-map us value_of) ∙ ap length values_u

  length_c : length cs ≡ length cv
  length_c = sym (length-map cs value_of) ∙ ap length values_c

  abbrev First : Bool → Type 0
  First b = left_first leb (drop i uv) (drop j cv) ≡ b

  told : {b : Bool} → First b → left_first by_value (drop i us) (drop j cs) ≡ b
  told e =
      let p = map-drop value_of i us ∙ ap (drop i) values_u in
      let q = map-drop value_of j cs ∙ ap (drop j) values_c in
      first_values (drop i us) (drop j cs) ∙ (λ z. left_first leb (p z) (q z)) ∙ e

  module _ (h : k < at + length uv + length cv) where
    pub here_v : k < length yv
    here_v = omega (arith, m.asks.room, m.values.same)

    pub here_t : k < length yt
    here_t = omega (arith, here_v, m.values.same, m.times.same, m.asks.same_yt)

    pub here_d : k < length yd
    here_d = omega (arith, here_v, m.values.same, m.diffs.same, m.asks.same_yd)

  pub in_left : First true → (i < length uv) × ((i < length ut) × (i < length ud))
  in_left e =
      let h : i < length uv = left_in uv cv i j e in
      let p : length ut ≡ length uv = m.asks.same_ut in
      let q : length ud ≡ length uv = m.asks.same_ud in
      (h, (omega arith, omega arith))

  pub in_right : k < at + length uv + length cv → First false → (j < length cv) × (j < length cd)
  in_right h e =
      let g : j < length cv = right_in uv cv i j (omega (arith, m.even)) m.jb e in
      let p : length cd ≡ length cv = m.asks.same_cd in
      (g, omega arith)

  write : (i' j' : ℕ) (x : Edit) → k < at + length uv + length cv → i' ≤ length uv → j' ≤ length cv → i' + j' ≡ i + j + 1
      → left uv ut ud cv cd t i j ≡ x ∷ left uv ut ud cv cd t i' j'
      → Mixing uv ut ud cv cd t at yv₀ yt₀ yd₀ (set yv k (value_of x)) (set yt k (time_of x)) (set yd k x.1) i' j' (k + 1)
  write i' j' x h a b g e =
      record {
        asks = m.asks;
        ia = a;
        jb = b;
        even = omega (arith, m.even);
        values = writing_more m.values (value_of x) (here_v h) (ap (map value_of) e);
        times = writing_more m.times (time_of x) (here_t h) (ap (map time_of) e);
        diffs = writing_more m.diffs x.1 (here_d h) (ap (map (λ (e : Edit). e.1)) e);
      }

  pub mix_left : (d : ℤ) → k < at + length uv + length cv → First true → d ≡ get_or ud i (pos 0)
      → Mixing uv ut ud cv cd t at yv₀ yt₀ yd₀ (set yv k (get_or uv i 0)) (set yt k (get_or ut i 0)) (set yd k d) (i + 1) j (k + 1)
  unfolding value_of time_of
  mix_left d h e q =
      let g : i < length uv = (in_left e).0 in
      let l : length us ≡ length uv = length_u in
      write (i + 1) j ((get_or ut i 0, get_or uv i 0), d) h (omega arith) m.jb (omega arith)
      (merge_left by_value us cs i j e₀ (omega arith) (told e)
      ∙ ap (λ x. x ∷ left uv ut ud cv cd t (i + 1) j) (edits-at uv ut ud i m.asks.same_ut m.asks.same_ud g ∙ ap (λ z. ((get_or ut i 0, get_or uv i 0), z)) (sym q)))

  pub mix_right : (d : ℤ) → k < at + length uv + length cv → First false → d ≡ get_or cd j (pos 0)
      → Mixing uv ut ud cv cd t at yv₀ yt₀ yd₀ (set yv k (get_or cv j 0)) (set yt k t) (set yd k d) i (j + 1) (k + 1)
  unfolding value_of time_of
  mix_right d h e q =
      let g : j < length cv = (in_right h e).0 in
      let l : length cs ≡ length cv = length_c in
      write i (j + 1) ((t, get_or cv j 0), d) h m.ia (omega arith) (omega arith)
      (merge_right by_value us cs i j e₀ (omega arith) (told e)
      ∙ ap (λ x. x ∷ left uv ut ud cv cd t i (j + 1)) (dated-at t cv cd j m.asks.same_cd g ∙ ap (λ z. ((t, get_or cv j 0), z)) (sym q)))

  whole_is : left uv ut ud cv cd t 0 0 ≡ merged us t (entries cv cd)
  unfolding merged
  whole_is =
      merge_sorted ranking_value
      (sorted_of us (subst (Sorted leb) (sym values_u) m.asks.ascends_u))
      (sorted_of cs (subst (Sorted leb) (sym values_c) m.asks.ascends_c))

  pub mixing_end : {r : ℕ} → at + length uv + length cv ≤ k → r ≡ k → Rows yv₀ yt₀ yd₀ at (merged us t (entries cv cd)) yv yt yd r
  mixing_end h z =
      let a : i ≤ length uv = m.ia in
      let b : j ≤ length cv = m.jb in
      let p : length us ≡ length uv = length_u in
      let q : length cs ≡ length cv = length_c in
      let e : left uv ut ud cv cd t i j ≡ [] = merge_none by_value us cs i j e₀ (omega (arith, m.even)) (omega (arith, m.even)) in
      rw z
      (subst (λ (l : List Edit). Rows yv₀ yt₀ yd₀ at l yv yt yd k) whole_is
      (record {
        values = writing_end m.values (ap (map value_of) e);
        times = writing_end m.times (ap (map time_of) e);
        diffs = writing_end m.diffs (ap (map (λ (e : Edit). e.1)) e);
      }))

-- ---- what a merge keeps
pub merged_sorted : (es : List Edit) (t : ℕ) (c : Sums) → Sorted leb (map value_of (merged es t c))
unfolding merged
merged_sorted es t c = sorted_values (sorted_sort ranking_value (es ++ dated t c))

-- ---- mass
module _ (le : Edit → Edit → Bool) where
  mass_insert : (e : Edit) (es : List Edit) → mass nat_abs (insert le e es) ≡ nat_abs e.1 + mass nat_abs es
  mass_insert e [] = refl
  mass_insert e (y ∷ es) =
      by-test (le e y) (λ q. rw q)
      (λ q. rw q (let h : mass nat_abs (insert le e es) ≡ nat_abs e.1 + mass nat_abs es = mass_insert e es in omega arith))

  mass_sort : (es : List Edit) → mass nat_abs (sort le es) ≡ mass nat_abs es
  mass_sort [] = refl
  mass_sort (e ∷ es) = mass_insert e (sort le es) ∙ ap (λ n. nat_abs e.1 + n) (mass_sort es)

pub merged-mass : (es : List Edit) (t : ℕ) (c : Sums) → mass nat_abs (merged es t c) ≡ mass nat_abs es + mass nat_abs c
unfolding merged dated
merged-mass es t c = mass_sort by_value (es ++ dated t c) ∙ mass-append nat_abs es (dated t c) ∙ ap (λ n. mass nat_abs es + n) (mass-map nat_abs (λ (p : ℕ × ℤ). ((t, p.0), p.1)) (λ y. refl) c)
