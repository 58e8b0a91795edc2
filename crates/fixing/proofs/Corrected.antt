-- A key's correction, appended to those so far.
--
-- column_within: where a column that was written ends. held_values, held_diffs, held_entries: what was written to the front of two columns
-- Large: whether a correction is too large. large_rows: of its records
-- rows_fixed: a key's correction as the records of its round. rows-length: how many they are. fixes_fit, fixes_small: one that is not too large has room, and is in range
-- over_fixed: what is promised of one that is too large. append_asks: what appending another asks. append_fixed: what that gives
use Prim.Native.Nat.{ℕ, ◌+◌, ◌-◌, ◌≤◌, ◌^◌}
use native.Mathlib.Omega.{arith}
use mathlib.Core.Bool.{Bool, true, false, not, ◌||◌}
use mathlib.Core.Path.{◌≡◌, refl, sym, ◌∙◌, ap, subst}
use mathlib.Core.List.{List, [], ◌∷◌, ◌++◌, map}
use lib.Dec.{ltb}
use lib.IntN.{ℤ, nat_abs}
use lib.ListN.{length, take, length-map, length-take}
use lib.Seq.{length-take-le}
use borrow.Author.Tests.{ltb-false, leb-true, not-false}
use Rattle.grid.specs.Lists.{any, every}
use Rattle.grid.specs.Records.{Row, in_range, rows}
use Rattle.grid.proofs.Tests.{by-test, or_false_l, or_false_r}
use Rattle.grid.proofs.Lists.{All, all_imp, map_all, every_all}
use Rattle.grid.proofs.Operations.{no_length}
use Rattle.rules.specs.Backends.{Sums}
use Rattle.backends.specs.Columns.{entries, values_of, diffs_of, Column, Appended}
use Rattle.backends.proofs.Columns.{less}
use Rattle.slots.specs.Slots.{rows_in, rows_too_large}
use Rattle.slots.proofs.Large.{large_fits}
use Rattle.fixing.specs.Fixes.{fix_row, fix_rows, RowsListed, Appends}
use Rattle.fixing.specs.Settle.{Fixes, FixedAt, OverAt}

-- ---- columns
pub column_within : {A : Type 0} {before new after : List A} {r : ℕ} → Column before 0 new after r → r ≤ length after
column_within {new = new} {after} {r} c =
    let n : length (take r after) ≡ length new = ap length c.front in
    let m : length (take r after) ≤ length after = rw length-take (omega arith) in
    let e : r ≡ 0 + length new = c.end in
    omega arith

entries_of : (w : Sums) → entries (values_of w) (diffs_of w) ≡ w
unfolding entries
entries_of [] = refl
entries_of (y ∷ w) = ap (λ l. y ∷ l) (entries_of w)

module _ {cv₀ : List ℕ} {cd₀ : List ℤ} {c : Sums} {cv : List ℕ} {cd : List ℤ} {r : ℕ} (a : Appended cv₀ cd₀ 0 c cv cd r) where
  held_end : r - 0 ≡ r
  held_end = omega arith

  pub held_values : take (r - 0) cv ≡ values_of c
  held_values = ap (λ i. take i cv) held_end ∙ a.values.front

  pub held_diffs : take (r - 0) cd ≡ diffs_of c
  held_diffs = ap (λ i. take i cd) held_end ∙ a.diffs.front

  pub held_entries : entries (take (r - 0) cv) (take (r - 0) cd) ≡ c
  held_entries = (λ z. entries (held_values z) (held_diffs z)) ∙ entries_of c

rows_of : (R : List Row) → rows (map (λ (x : Row). x.key) R) (map (λ (x : Row). x.value) R) (map (λ (x : Row). x.time) R) (map (λ (x : Row). x.diff) R) ≡ R
rows_of [] = refl
rows_of (x ∷ R) = ap (λ l. x ∷ l) (rows_of R)

rows-over : (R : List Row) (ks vs ts : List ℕ) (ds : List ℤ) → length vs ≡ length ks → length ts ≡ length ks → length ds ≡ length ks
    → rows (ks ++ map (λ (x : Row). x.key) R) (vs ++ map (λ (x : Row). x.value) R) (ts ++ map (λ (x : Row). x.time) R) (ds ++ map (λ (x : Row). x.diff) R) ≡ rows ks vs ts ds ++ R
rows-over R [] [] [] [] a b c = rows_of R
rows-over R [] (v ∷ vs) ts ds a b c = no_length (length vs) a
rows-over R [] [] (t ∷ ts) ds a b c = no_length (length ts) b
rows-over R [] [] [] (d ∷ ds) a b c = no_length (length ds) c
rows-over R (k ∷ ks) [] ts ds a b c = no_length (length ks) (sym a)
rows-over R (k ∷ ks) (v ∷ vs) [] ds a b c = no_length (length ks) (sym b)
rows-over R (k ∷ ks) (v ∷ vs) (t ∷ ts) [] a b c = no_length (length ks) (sym c)
rows-over R (k ∷ ks) (v ∷ vs) (t ∷ ts) (d ∷ ds) a b c = ap (λ l. record { key = k; value = v; time = t; diff = d } ∷ l) (rows-over R ks vs ts ds (less a) (less b) (less c))

-- ---- too large
fix-diffs : (k t : ℕ) (c : Sums) → map (λ (x : Row). x.diff) (fix_rows k t c) ≡ diffs_of c
unfolding fix_rows
fix-diffs k t [] = refl
fix-diffs k t (y ∷ c) = ap (λ l. y.1 ∷ l) (fix-diffs k t c)

any_out : (R : List Row) → any (λ (r : Row). not (in_range r.diff)) R ≡ not (every in_range (map (λ (x : Row). x.diff) R))
any_out [] = refl
any_out (x ∷ R) = by-test (in_range x.diff) (λ e. rw e (any_out R)) (λ e. rw e)

in_range_small : (d : ℤ) → in_range d ≡ true → nat_abs d ≤ 2 ^ 31
unfolding in_range
in_range_small d e = leb-true (nat_abs d) 2147483648 e

large_rows : (most n : ℕ) (R : List Row) (cd : List ℤ) → map (λ (x : Row). x.diff) R ≡ cd → (not (every in_range cd) || ltb most (n + length cd)) ≡ rows_too_large most n R
unfolding rows_too_large
large_rows most n R cd e =
    let l : length R ≡ length cd = sym (length-map R (λ (x : Row). x.diff)) ∙ ap length e in
    let q = sym e in
    let k = sym l in
    (λ z. not (every in_range (q z)) || ltb most (n + k z)) ∙ ap (λ b. b || ltb most (n + length R)) (sym (any_out R))

-- ---- not too large
pub rows_fixed : (k t : ℕ) (b : Bool) (c : Sums) → fix_rows k t c ≡ rows_in k (record { time = t; crossed = b; fixes = c })
unfolding fix_rows rows_in
rows_fixed k t b c = refl

pub rows-length : (k t : ℕ) (c : Sums) → length (fix_rows k t c) ≡ length c
unfolding fix_rows
rows-length k t c = length-map c (fix_row k t)

module _ (most n k t : ℕ) (c : Sums) (h : rows_too_large most n (fix_rows k t c) ≡ false) where
  pub fixes_fit : n + length c ≤ most
  fixes_fit =
      let l : length (fix_rows k t c) ≡ length c = rows-length k t c in
      let w : n + length (fix_rows k t c) ≤ most = large_fits n (fix_rows k t c) h in
      omega arith

  pub fixes_small : All (λ (y : ℕ × ℤ). nat_abs y.1 ≤ 2 ^ 31) c
  fixes_small =
      let few : (not (every in_range (diffs_of c)) || ltb most (n + length (diffs_of c))) ≡ false = large_rows most n (fix_rows k t c) (diffs_of c) (fix-diffs k t c) ∙ h in
      let e : every in_range (diffs_of c) ≡ true = not-false (every in_range (diffs_of c)) (or_false_l (not (every in_range (diffs_of c))) _ few) in
      map_all (λ (y : ℕ × ℤ). y.1) c (all_imp in_range_small (every_all in_range (diffs_of c) e))

-- ---- a key's round
module _ {most : ℕ} {iv : List ℕ} {id : List ℤ} {ov : List ℕ} {od : List ℤ} {cv : List ℕ} {cd : List ℤ} {fk fv ft : List ℕ} {fd : List ℤ} {n : ℕ} (x : Fixes most iv id ov od cv cd fk fv ft fd n)
    {c : Sums} {cv' : List ℕ} {cd' : List ℤ} {r : ℕ} (a : Appended cv cd 0 c cv' cd' r) where
  abbrev pub Large : Bool → Type 0
  Large b = b ≡ (not (every in_range (take (r - 0) cd')) || ltb most (n + length (take (r - 0) cd')))

  large_is : (k t : ℕ) (b : Bool) → Large b → b ≡ rows_too_large most n (fix_rows k t c)
  large_is k t b h = h ∙ large_rows most n (fix_rows k t c) (take (r - 0) cd') (fix-diffs k t c ∙ sym (held_diffs a))

  pub over_fixed : (k t : ℕ) → Large true → OverAt most k t c cv cd n cv' cd'
  over_fixed k t h = record { corrected = (r, a); large_is = sym (large_is k t true h) }

  module _ (few : Large false) where
    pub append_asks : Appends (take (r - 0) cv') (take (r - 0) cd') fk fv ft fd n
    append_asks =
        let lv : length (take (r - 0) cv') ≡ length c = ap length (held_values a) ∙ length-map c (λ (y : ℕ × ℤ). y.0) in
        let ld : length (take (r - 0) cd') ≡ length c = ap length (held_diffs a) ∙ length-map c (λ (y : ℕ × ℤ). y.1) in
        let w : n + length (take (r - 0) cd') ≤ most = ltb-false most (n + length (take (r - 0) cd')) (or_false_r (not (every in_range (take (r - 0) cd'))) (ltb most (n + length (take (r - 0) cd'))) (sym few)) in
        let k : length fk ≡ most = x.lent.long_k in
        record { same_c = ld ∙ sym lv; same_v = x.lent.long_v ∙ sym k; same_t = x.lent.long_t ∙ sym k; same_d = x.lent.long_d ∙ sym k; room = omega arith }

    pub append_fixed : (k t : ℕ) {fk' fv' ft' : List ℕ} {fd' : List ℤ} {m : ℕ} → RowsListed fk fv ft fd n (fix_rows k t (entries (take (r - 0) cv') (take (r - 0) cd'))) fk' fv' ft' fd' m
        → FixedAt most k t c cv cd n (record { count = r; fixes = m }) cv' cd' fk fv ft fd fk' fv' ft' fd'
    append_fixed k t {fk'} {fv'} {ft'} {fd'} {m} l₀ =
        let l : RowsListed fk fv ft fd n (fix_rows k t c) fk' fv' ft' fd' m = subst (λ (s : Sums). RowsListed fk fv ft fd n (fix_rows k t s) fk' fv' ft' fd' m) (held_entries a) l₀ in
        let w : n ≤ most = x.fits in
        let lk : length (take n fk) ≡ n = length-take-le n fk (let z : length fk ≡ most = x.lent.long_k in omega arith) in
        let lv : length (take n fv) ≡ n = length-take-le n fv (let z : length fv ≡ most = x.lent.long_v in omega arith) in
        let lt : length (take n ft) ≡ n = length-take-le n ft (let z : length ft ≡ most = x.lent.long_t in omega arith) in
        let ld : length (take n fd) ≡ n = length-take-le n fd (let z : length fd ≡ most = x.lent.long_d in omega arith) in
        record {
          corrected = a;
          listed = record {
            large_is = large_is k t false few;
            fixes_are = λ q. l.keys.end ∙ ap (λ i. n + i) (length-map (fix_rows k t c) (λ (y : Row). y.key));
            rows_are = λ q. (λ z. rows (l.keys.front z) (l.values.front z) (l.times.front z) (l.diffs.front z)) ∙ rows-over (fix_rows k t c) (take n fk) (take n fv) (take n ft) (take n fd) (lv ∙ sym lk) (lt ∙ sym lk) (ld ∙ sym lk);
          };
        }
