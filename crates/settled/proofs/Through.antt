-- A loop over the windows of a call.
--
-- windows-next: the window of the keys from p to e, and the windows from e on
-- Through most q p rows count: the windows of the keys before p are settled, and gave rows, not too large beside most, and count
-- through_start, through_more: before the first window, and past one more. through_rows, through_count: past the last one, these are all
-- through_large: a window that is too large beside those before it tells that all are
use Prim.Native.Nat.{ℕ, zero, suc, ◌+◌, ◌-◌, ◌<◌, ◌≤◌, min}
use native.Mathlib.Omega.{arith}
use mathlib.Core.Bool.{true, false, ◌||◌}
use mathlib.Core.List.{List, [], ◌∷◌, ◌++◌, map, append_assoc, append-nil}
use mathlib.Core.Path.{◌≡◌, refl, sym, ◌∙◌, ap, ap₂}
use lib.Dec.{leb}
use lib.ListN.{length, take, drop, length-drop, drop_of_length-le}
use lib.Seq.{take_all, drop-drop}
use borrow.Author.Tests.{leb-true, leb-false}
use Rattle.grid.specs.Records.{Row}
use Rattle.grid.proofs.Tests.{by-test, or_l, or_r}
use Rattle.rules.specs.Retire.{windows}
use Rattle.rules.specs.Call.{Request, changed}
use Rattle.backends.specs.Segments.{part}
use Rattle.slots.specs.Slots.{Slot, rows_too_large, window_rows, window_crossings}
use Rattle.slots.proofs.Large.{not_large, large_append}
use Rattle.settled.specs.Call.{slot_of, windows_of, rows_of, crossings_of}

-- ---- windows
module _ {A : Type 0} where
  module _ (width : ℕ) (wide : 1 ≤ width) where
    -- any number of windows is enough that is not less than the length
    windows_enough : (m n : ℕ) (xs : List A) → length xs ≤ m → length xs ≤ n → windows m width xs ≡ windows n width xs
    windows_enough zero zero xs a b = refl
    windows_enough zero (suc n) [] a b = refl
    windows_enough zero (suc n) (x ∷ xs) a b = absurd (omega arith)
    windows_enough (suc m) zero [] a b = refl
    windows_enough (suc m) zero (x ∷ xs) a b = absurd (omega arith)
    windows_enough (suc m) (suc n) [] a b = refl
    windows_enough (suc m) (suc n) (x ∷ xs) a b =
        let l = length-drop width (x ∷ xs) in
        ap (λ r. take width (x ∷ xs) ∷ r) (windows_enough m n (drop width (x ∷ xs)) (omega arith) (omega arith))

    windows-first : (xs : List A) → 0 < length xs → windows (length xs) width xs ≡ take width xs ∷ windows (length (drop width xs)) width (drop width xs)
    windows-first [] h = absurd (omega arith)
    windows-first (x ∷ xs) h =
        let l = length-drop width (x ∷ xs) in
        ap (λ r. take width (x ∷ xs) ∷ r) (windows_enough (length xs) (length (drop width (x ∷ xs))) (drop width (x ∷ xs)) (omega arith) (omega arith))

  module _ (width p e : ℕ) (xs : List A) (h : e ≡ min (p + width) (length xs)) (k : p < length xs) where
    take_until : take width (drop p xs) ≡ part p e xs
    take_until =
        by-test (leb (p + width) (length xs))
        (λ t. let j : width ≡ e - p = (let j' : p + width ≤ length xs = leb-true (p + width) (length xs) t in omega arith) in ap (λ n. take n (drop p xs)) j)
        (λ t. let j : length xs < p + width = leb-false (p + width) (length xs) t in
        let l = length-drop p xs in
        take_all width (drop p xs) (omega arith) ∙ sym (take_all (e - p) (drop p xs) (omega arith)))

    drop_until : drop width (drop p xs) ≡ drop e xs
    drop_until =
        by-test (leb (p + width) (length xs))
        (λ t. let j : p + width ≡ e = (let j' : p + width ≤ length xs = leb-true (p + width) (length xs) t in omega arith) in drop-drop width p xs ∙ ap (λ n. drop n xs) j)
        (λ t. let j : length xs < p + width = leb-false (p + width) (length xs) t in
        drop-drop width p xs ∙ drop_of_length-le xs {i = p + width} (omega arith) ∙ sym (drop_of_length-le xs {i = e} (omega arith)))

module _ (q : Request) (wide : 1 ≤ q.width) (p e : ℕ) (ks : List ℕ) (h : e ≡ min (p + q.width) (length ks)) (k : p < length ks) where
  pub windows-next : windows_of q (drop p ks) ≡ part p e ks ∷ windows_of q (drop e ks)
  unfolding windows_of
  windows-next =
      let l = length-drop p ks in
      windows-first q.width wide (drop p ks) (omega arith)
      ∙ ap₂ (λ w r. w ∷ windows (length r) q.width r) (take_until q.width p e ks h k) (drop_until q.width p e ks h k)

-- ---- the loop
pub record Through (most : ℕ) (q : Request) (p : ℕ) (rows : List Row) (count : ℕ) : Type 0 where
  pub within : p ≤ length (changed q)
  pub rows_are : rows ++ rows_of q (windows_of q (drop p (changed q))) ≡ rows_of q (windows_of q (changed q))
  pub rows_fit : rows_too_large most 0 rows ≡ false
  pub count_is : count + crossings_of q (windows_of q (drop p (changed q))) ≡ crossings_of q (windows_of q (changed q))

pub through_start : (most : ℕ) (q : Request) → Through most q 0 [] 0
through_start most q = record { within = omega arith; rows_are = refl; rows_fit = not_large 0 (omega arith); count_is = omega arith }

module _ {most : ℕ} {q : Request} {p : ℕ} {rows : List Row} {count : ℕ} (t : Through most q p rows count) where
  module _ (e : ℕ) (wide : 1 ≤ q.width) (h : e ≡ min (p + q.width) (length (changed q))) (k : p < length (changed q)) where
    -- the window from p to e
    abbrev slots : List Slot
    slots = map (slot_of q) (part p e (changed q))

    abbrev its_rows : List Row
    its_rows = window_rows q.mode slots

    abbrev later : List Row
    later = rows_of q (windows_of q (drop e (changed q)))

    rows_next : rows ++ (its_rows ++ later) ≡ rows_of q (windows_of q (changed q))
    unfolding rows_of
    rows_next = ap (λ ws. rows ++ rows_of q ws) (sym (windows-next q wide p e (changed q) h k)) ∙ t.rows_are

    count_next : count + (window_crossings q.mode slots + crossings_of q (windows_of q (drop e (changed q)))) ≡ crossings_of q (windows_of q (changed q))
    unfolding crossings_of
    count_next = ap (λ ws. count + crossings_of q ws) (sym (windows-next q wide p e (changed q) h k)) ∙ t.count_is

    large_next : (rs : List Row) → rows_too_large most 0 (rows ++ rs) ≡ (rows_too_large most 0 rows || rows_too_large most (length rows) rs)
    large_next rs = large_append most 0 rows rs ∙ ap (λ n. rows_too_large most 0 rows || rows_too_large most n rs) (let z : 0 + length rows ≡ length rows = omega arith in z)

    pub through_more : rows_too_large most (length rows) its_rows ≡ false → Through most q e (rows ++ its_rows) (count + window_crossings q.mode slots)
    through_more f = record {
      within = omega arith;
      rows_are = append_assoc rows its_rows later ∙ rows_next;
      rows_fit = large_next its_rows ∙ rw (t.rows_fit, f);
      count_is = (let c = count_next in omega arith);
    }

    pub through_large : rows_too_large most (length rows) its_rows ≡ true → rows_too_large most 0 (rows_of q (windows_of q (changed q))) ≡ true
    through_large f =
        ap (rows_too_large most 0) (sym rows_next) ∙ large_next (its_rows ++ later)
        ∙ or_r (rows_too_large most 0 rows) _ (large_append most (length rows) its_rows later ∙ or_l (rows_too_large most (length rows) its_rows) _ f)

  module _ (z : length (changed q) ≤ p) where
    pub through_rows : rows ≡ rows_of q (windows_of q (changed q))
    unfolding rows_of windows_of
    through_rows = sym (append-nil rows) ∙ ap (λ l. rows ++ rows_of q (windows_of q l)) (sym (drop_of_length-le (changed q) z)) ∙ t.rows_are

    pub through_count : count ≡ crossings_of q (windows_of q (changed q))
    unfolding crossings_of windows_of
    through_count =
        let n : count ≡ count + 0 = omega arith in
        n ∙ ap (λ l. count + crossings_of q (windows_of q l)) (sym (drop_of_length-le (changed q) z)) ∙ t.count_is
