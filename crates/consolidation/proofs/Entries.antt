-- Entries by sorted places: what the columns hold there is the sort of what they hold.
--
-- squash_places: adding up by sorted places consolidates. places-consolidated: it consolidates all entries of the columns
-- mass_sort: a sort keeps the mass. places_all: a column, read at all its places. ready: what adding up asks.
use Prim.Native.Nat.{ℕ, zero, suc, ◌+◌}
use native.Mathlib.Omega.{arith}
use mathlib.Core.Bool.{Bool, true, false, ◌&&◌, ◌||◌, not}
use mathlib.Core.List.{List, [], ◌∷◌, map}
use mathlib.Core.Path.{◌≡◌, refl, sym, ◌∙◌, ap}
use lib.Dec.{eqb, ltb}
use lib.IntN.{ℤ, pos, nat_abs}
use lib.ListN.{length, get_or}
use borrow.Author.Tests.{eqb-true, eq-eqb}
use Rattle.grid.specs.Lists.{insert, sort}
use Rattle.grid.specs.Consolidate.{lex}
use Rattle.grid.proofs.Tests.{by-test, and_l, and_r, and_i}
use Rattle.grid.proofs.Lists.{All, nil, cons}
use Rattle.grid.proofs.Consolidate.{Strict, strict_ltb, strict_lex}
use Rattle.grid.proofs.Sort.{Sorted, none, more, sorted_is, sort_sorted, sorted_sort, sort_map, length_sort}
use Rattle.slices.specs.Places.{diff_entry, up_from, up_to}
use Rattle.sorting.specs.Halves.{Done}
use Rattle.rows.specs.Order.{row_at, row_before, may_precede}
use Rattle.rows.specs.Ranking.{ranking}
use Rattle.consolidation.specs.Entries.{entry_at, entries, consolidated, same_pair, mass, sorted_places, Lent, LentWork, Ready, Front}
use Rattle.consolidation.proofs.Squash.{Alike, not_after, squash, squash_consolidate, consolidate_sort}

strict_pair : Strict (lex ltb ltb)
strict_pair = strict_lex strict_ltb strict_ltb

alike-pair : Alike same_pair
unfolding same_pair
alike-pair = record {
  same_eq = λ p q e. (λ i. (eqb-true p.0 q.0 (and_l _ _ e) i, eqb-true p.1 q.1 (and_r (eqb p.0 q.0) _ e) i));
  same_refl = λ p. and_i _ _ (eq-eqb p.0 p.0 refl) (eq-eqb p.1 p.1 refl);
}

-- two columns decide, where the others are empty
nothing_more : (s t : Bool) → (s || (t && false)) ≡ s
nothing_more true t = refl
nothing_more false true = refl
nothing_more false false = refl

module _ (a b : List ℕ) (d : List ℤ) where
  by_pair : (i j : ℕ) → may_precede a b [] [] i j ≡ not_after (lex ltb ltb) (entry_at a b d i) (entry_at a b d j)
  unfolding may_precede row_before row_at
  by_pair i j =
      ap (λ t. not (ltb (get_or a j 0) (get_or a i 0) || (not (ltb (get_or a i 0) (get_or a j 0)) && t)))
      (nothing_more (ltb (get_or b j 0) (get_or b i 0)) (not (ltb (get_or b i 0) (get_or b j 0))))

  all_entries : (x : ℕ) {l : List ℕ} → All (λ y. may_precede a b [] [] x y ≡ true) l → All (λ e. not_after (lex ltb ltb) (entry_at a b d x) e ≡ true) (map (entry_at a b d) l)
  all_entries x nil = nil
  all_entries x (cons {x = y} p h) = cons (sym (by_pair x y) ∙ p) (all_entries x h)

  sorted_entries : {l : List ℕ} → Sorted (may_precede a b [] []) l → Sorted (not_after (lex ltb ltb)) (map (entry_at a b d) l)
  sorted_entries none = none
  sorted_entries (more {x = x} h s) = more (all_entries x h) (sorted_entries s)

  pub squash_places : (l : List ℕ) → sort (may_precede a b [] []) l ≡ l → squash same_pair (pos 0) (map (entry_at a b d) l) ≡ consolidated (map (entry_at a b d) l)
  squash_places l e = squash_consolidate strict_pair alike-pair (map (entry_at a b d) l) (sorted_entries (sorted_is (ranking a b [] []) l e))

-- ---- all places
module _ {A : Type 0} (x : A) (l : List A) (z : A) where
  shift : (k n : ℕ) → map (λ i. get_or (x ∷ l) i z) (up_from (suc k) n) ≡ map (λ i. get_or l i z) (up_from k n)
  unfolding up_from
  shift k zero = refl
  shift k (suc n) = ap (λ r. get_or l k z ∷ r) (shift (suc k) n)

pub places_all : {A : Type 0} (l : List A) (z : A) → map (λ i. get_or l i z) (up_to (length l)) ≡ l
unfolding up_from
places_all [] z = refl
places_all (x ∷ l) z = ap (λ r. x ∷ r) (shift x l z 0 (length l) ∙ places_all l z)

module _ (x y : ℕ) (z : ℤ) (a b : List ℕ) (d : List ℤ) where
  shift_entries : (k n : ℕ) → map (entry_at (x ∷ a) (y ∷ b) (z ∷ d)) (up_from (suc k) n) ≡ map (entry_at a b d) (up_from k n)
  unfolding up_from
  shift_entries k zero = refl
  shift_entries k (suc n) = ap (λ r. entry_at a b d k ∷ r) (shift_entries (suc k) n)

entries_all : (a b : List ℕ) (d : List ℤ) → length b ≡ length a → length d ≡ length a → map (entry_at a b d) (up_to (length a)) ≡ entries a b d
unfolding up_from
entries_all [] b d p q = refl
entries_all (x ∷ a) [] d p q = absurd (let k : 0 ≡ suc (length a) = p in omega arith)
entries_all (x ∷ a) (y ∷ b) [] p q = absurd (let k : 0 ≡ suc (length a) = q in omega arith)
entries_all (x ∷ a) (y ∷ b) (z ∷ d) p q =
    ap (λ r. ((x, y), z) ∷ r)
    (shift_entries x y z a b d 0 (length a)
    ∙ entries_all a b d (let k : suc (length b) ≡ suc (length a) = p in omega arith) (let k : suc (length d) ≡ suc (length a) = q in omega arith))

pub places-consolidated : (a b : List ℕ) (d : List ℤ) → length b ≡ length a → length d ≡ length a → consolidated (map (entry_at a b d) (sorted_places a b)) ≡ consolidated (entries a b d)
places-consolidated a b d p q =
    ap consolidated ((λ t. map (entry_at a b d) (sort (λ i j. by_pair a b d i j t) (up_to (length a)))) ∙ sym (sort_map (entry_at a b d) (not_after (lex ltb ltb)) (up_to (length a))))
    ∙ consolidate_sort strict_pair (not_after (lex ltb ltb)) (map (entry_at a b d) (up_to (length a)))
    ∙ ap consolidated (entries_all a b d p q)

-- ---- mass
module _ {A : Type 0} (f : A → ℤ) (le : A → A → Bool) where
  mass_insert : (x : A) (l : List A) → mass (map f (insert le x l)) ≡ nat_abs (f x) + mass (map f l)
  unfolding mass
  mass_insert x [] = refl
  mass_insert x (y ∷ l) =
      by-test (le x y) (λ e. rw e)
      (λ e. rw e (let h : mass (map f (insert le x l)) ≡ nat_abs (f x) + mass (map f l) = mass_insert x l in omega arith))

  pub mass_sort : (l : List A) → mass (map f (sort le l)) ≡ mass (map f l)
  unfolding mass
  mass_sort [] = refl
  mass_sort (x ∷ l) = mass_insert x (sort le l) ∙ ap (λ n. nat_abs (f x) + n) (mass_sort l)

mass-places : (a b : List ℕ) (d : List ℤ) → length d ≡ length a → mass (map (diff_entry d) (sorted_places a b)) ≡ mass d
mass-places a b d q =
    mass_sort (diff_entry d) (may_precede a b [] []) (up_to (length a)) ∙ ap (λ n. mass (map (diff_entry d) (up_to n))) (sym q) ∙ ap mass (places_all d (pos 0))

length-up_from : (k n : ℕ) → length (up_from k n) ≡ n
unfolding up_from
length-up_from k zero = refl
length-up_from k (suc n) = ap suc (length-up_from (suc k) n)

-- ---- what the calls hand on: `counted` is what count_up left, `sorted` and `work` what the sort left
module _ {a b : List ℕ} {d : List ℤ} {places firsts seconds : List ℕ} {diffs : List ℤ} (m : Lent a b d) (w : LentWork (length a) places firsts seconds diffs) where
  pub places_sorted : {counted sorted work : List ℕ} → counted ≡ up_to (length places) → Done (may_precede a b [] []) counted sorted work → sorted ≡ sorted_places a b
  places_sorted e s = s.sorted ∙ ap (sort (may_precede a b [] [])) (e ∙ ap up_to w.room_places)

  pub ready : {counted sorted work : List ℕ} → counted ≡ up_to (length places) → Done (may_precede a b [] []) counted sorted work → Ready a b d sorted work seconds diffs
  ready {sorted = sorted} {work = work} e s =
      let p : sorted ≡ sorted_places a b = places_sorted e s in
      let l : length sorted ≡ length a = ap length p ∙ length_sort (may_precede a b [] []) (up_to (length a)) ∙ length-up_from 0 (length a) in
      record {
        in_order = ap (sort (may_precede a b [] [])) p ∙ sort_sorted (sorted_sort (ranking a b [] []) (up_to (length a))) ∙ sym p;
        bounded = rw (p, mass-places a b d m.alike-diff) m.bounded;
        room_first = ap length s.work-same;
        room_second = w.room_second ∙ sym l;
        room_diff = w.room_diff ∙ sym l;
      }

  pub consolidated_front : {sorted firsts' seconds' : List ℕ} {diffs' : List ℤ} {r : ℕ} → sorted ≡ sorted_places a b
      → Front (consolidated (map (entry_at a b d) sorted)) (length sorted) r firsts' seconds' diffs' → Front (consolidated (entries a b d)) (length a) r firsts' seconds' diffs'
  consolidated_front {sorted = sorted} p f =
      let l : length sorted ≡ length a = ap length p ∙ length_sort (may_precede a b [] []) (up_to (length a)) ∙ length-up_from 0 (length a) in
      let c : consolidated (map (entry_at a b d) sorted) ≡ consolidated (entries a b d) = ap (λ s. consolidated (map (entry_at a b d) s)) p ∙ places-consolidated a b d m.alike-second m.alike-diff in
      rw (← l, ← c) f
