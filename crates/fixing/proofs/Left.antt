-- The rounds of a key that are left.
--
-- listed: the corrections of the first n places of four columns. marked_from j: the marks of the rounds from the j-th on
-- Left most k all left j n r: of the rounds `all` of the key k those `left` are still to be settled, and j are past; n corrections were listed at first, r are now
-- left_start: at first all are. left_more: a round settled leaves those after it. left_over: with one whose correction is too large all are too large
-- left_end, left_marks: where none is left
use Prim.Native.Nat.{ℕ, zero, suc, ◌+◌, ◌<◌, ◌≤◌}
use native.Mathlib.Nat.{not-suc-le-zero, le_of_suc-le-suc}
use native.Mathlib.Omega.{arith}
use mathlib.Core.Bool.{Bool, true, false, ◌||◌}
use mathlib.Core.Path.{◌≡◌, refl, sym, ◌∙◌, ap}
use mathlib.Core.List.{List, [], ◌∷◌, ◌++◌, append-nil, append_assoc}
use lib.IntN.{ℤ}
use lib.ListN.{length, take, drop, length-append, length-set}
use Rattle.grid.specs.Lists.{flat}
use Rattle.grid.specs.Records.{Row, rows}
use Rattle.grid.proofs.Tests.{or_l}
use Rattle.rules.specs.Retire.{Round}
use Rattle.slots.specs.Slots.{rows_in, crossed_in, rows_too_large}
use Rattle.slots.proofs.Large.{not_large, large_append, large_fits}
use Rattle.marks.specs.Marks.{marked_at, marked}
use Rattle.fixing.specs.Settle.{Listed}

-- ---- marks
abbrev pub marked_from : ℕ → List Bool → List ℕ → List ℕ
marked_from j cs ms = take j ms ++ marked cs (drop j ms)

marks_more : (c : Bool) (cs : List Bool) (j : ℕ) (ms : List ℕ) → j < length ms → marked_from (suc j) cs (marked_at c j ms) ≡ marked_from j (c ∷ cs) ms
unfolding marked marked_at
marks_more c cs j [] h = absurd (not-suc-le-zero h)
marks_more true cs zero (m ∷ ms) h = refl
marks_more false cs zero (m ∷ ms) h = refl
marks_more true cs (suc j) (m ∷ ms) h = ap (λ l. m ∷ l) (marks_more true cs j ms (le_of_suc-le-suc h))
marks_more false cs (suc j) (m ∷ ms) h = ap (λ l. m ∷ l) (marks_more false cs j ms (le_of_suc-le-suc h))

marks_long : (c : Bool) (j : ℕ) (ms : List ℕ) → length (marked_at c j ms) ≡ length ms
unfolding marked_at
marks_long true j ms = length-set ms j 1
marks_long false j ms = refl

marks_none : (j : ℕ) (ms : List ℕ) → marked_from j [] ms ≡ ms
unfolding marked
marks_none zero ms = refl
marks_none (suc j) [] = refl
marks_none (suc j) (m ∷ ms) = ap (λ l. m ∷ l) (marks_none j ms)

-- ---- what is left
abbrev pub listed : List ℕ → List ℕ → List ℕ → List ℤ → ℕ → List Row
listed fk fv ft fd n = rows (take n fk) (take n fv) (take n ft) (take n fd)

pub record Left (most k : ℕ) (all left : List Round) (j n r : ℕ) (marks₀ marks fk₀ fv₀ ft₀ : List ℕ) (fd₀ : List ℤ) (fk fv ft : List ℕ) (fd : List ℤ) : Type 0 where
  pub large_is : rows_too_large most n (flat (rows_in k) all) ≡ rows_too_large most r (flat (rows_in k) left)
  pub fixes_are : r + length (flat (rows_in k) left) ≡ n + length (flat (rows_in k) all)
  pub rows_are : listed fk fv ft fd r ++ flat (rows_in k) left ≡ listed fk₀ fv₀ ft₀ fd₀ n ++ flat (rows_in k) all
  pub marks_are : marked_from j (crossed_in left) marks ≡ marked (crossed_in all) marks₀
  pub long_marks : length marks ≡ length marks₀
  pub fits : r ≤ most

pub left_start : {most k n : ℕ} {rs : List Round} {marks fk fv ft : List ℕ} {fd : List ℤ} → n ≤ most → Left most k rs rs 0 n n marks marks fk fv ft fd fk fv ft fd
left_start h = record { large_is = refl; fixes_are = refl; rows_are = refl; marks_are = refl; long_marks = refl; fits = h }

module _ {most k : ℕ} {all left : List Round} {j n r : ℕ} {marks₀ marks fk₀ fv₀ ft₀ : List ℕ} {fd₀ : List ℤ} {fk fv ft : List ℕ} {fd : List ℤ} where
  module _ {x : Round} (l : Left most k all (x ∷ left) j n r marks₀ marks fk₀ fv₀ ft₀ fd₀ fk fv ft fd) where
    abbrev R : List Row
    R = rows_in k x

    abbrev later : List Row
    later = flat (rows_in k) left

    split_large : rows_too_large most n (flat (rows_in k) all) ≡ (rows_too_large most r R || rows_too_large most (r + length R) later)
    split_large = l.large_is ∙ large_append most r R later

    pub left_over : rows_too_large most r (rows_in k x) ≡ true → rows_too_large most n (flat (rows_in k) all) ≡ true
    left_over e = split_large ∙ or_l _ _ e

    pub left_more : {left' : List Round} {r' : ℕ} {marks' fk' fv' ft' : List ℕ} {fd' : List ℤ} → Listed most (rows_in k x) r false r' fk fv ft fd fk' fv' ft' fd'
        → j < length marks → marks' ≡ marked_at x.crossed j marks → left ≡ left' → Left most k all left' (j + 1) n r' marks₀ marks' fk₀ fv₀ ft₀ fd₀ fk' fv' ft' fd'
    left_more {left'} {r'} {marks'} {fk'} {fv'} {ft'} {fd'} d h m e =
        let g : length (R ++ later) ≡ length R + length later = length-append R later in
        let s : flat (rows_in k) left' ≡ later = ap (flat (rows_in k)) (sym e) in
        let s' : length (flat (rows_in k) left') ≡ length later = ap length s in
        let a : r' ≡ r + length R = d.fixes_are refl in
        let b : r + length R ≤ most = large_fits r R (sym d.large_is) in
        record {
          large_is = split_large ∙ ap (λ b. b || rows_too_large most (r + length R) later) (sym d.large_is) ∙ (let a' = sym a in let b' = sym s in λ z. rows_too_large most (a' z) (b' z));
          fixes_are = omega (arith, l.fixes_are);
          rows_are = ap (λ t. listed fk' fv' ft' fd' r' ++ t) s ∙ ap (λ t. t ++ later) (d.rows_are refl) ∙ append_assoc (listed fk fv ft fd r) R later ∙ l.rows_are;
          marks_are = (let q : j + 1 ≡ suc j = omega arith in let e' = sym e in λ z. marked_from (q z) (crossed_in (e' z)) (m z)) ∙ marks_more x.crossed (crossed_in left) j marks h ∙ l.marks_are;
          long_marks = ap length m ∙ marks_long x.crossed j marks ∙ l.long_marks;
          fits = omega arith;
        }

  module _ (l : Left most k all left j n r marks₀ marks fk₀ fv₀ ft₀ fd₀ fk fv ft fd) (e : left ≡ []) where
    pub left_end : Listed most (flat (rows_in k) all) n false r fk₀ fv₀ ft₀ fd₀ fk fv ft fd
    left_end =
        let a : length (flat (rows_in k) left) ≡ 0 = ap (λ s. length (flat (rows_in k) s)) e in
        record {
          large_is = sym (l.large_is ∙ ap (λ s. rows_too_large most r (flat (rows_in k) s)) e ∙ not_large r l.fits);
          fixes_are = λ p. omega (arith, l.fixes_are);
          rows_are = λ p. sym (append-nil (listed fk fv ft fd r)) ∙ ap (λ s. listed fk fv ft fd r ++ flat (rows_in k) s) (sym e) ∙ l.rows_are;
        }

    pub left_marks : marks ≡ marked (crossed_in all) marks₀
    left_marks = sym (marks_none j marks) ∙ ap (λ s. marked_from j (crossed_in s) marks) (sym e) ∙ l.marks_are
