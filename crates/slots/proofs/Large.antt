-- Corrections that are too many, or out of range.
--
-- not_large: none are not too large. large_append: of corrections and later ones. large_fits: how many are not too large
use Prim.Native.Nat.{ℕ, ◌+◌, ◌≤◌}
use native.Mathlib.Omega.{arith}
use mathlib.Core.Bool.{Bool, true, false, not, ◌||◌}
use mathlib.Core.List.{List, [], ◌++◌}
use mathlib.Core.Path.{◌≡◌, refl, sym, ◌∙◌, ap₂}
use lib.Dec.{ltb}
use lib.ListN.{length, length-append}
use borrow.Author.Tests.{ltb-true, ltb-false, lt-ltb, le-ltb}
use Rattle.grid.specs.Lists.{any}
use Rattle.grid.specs.Records.{Row, in_range}
use Rattle.grid.proofs.Tests.{by-test, or_r, or_false_r}
use Rattle.grid.proofs.Operations.{any_append}
use Rattle.slots.specs.Slots.{rows_too_large}

abbrev out : Row → Bool
out r = not (in_range r.diff)

large_more : (a b : Bool) (m n k : ℕ) → m ≤ n → ((a || b) || ltb k n) ≡ ((a || ltb k m) || (b || ltb k n))
large_more true b m n k l = refl
large_more false true m n k l = sym (or_r (ltb k m) true refl)
large_more false false m n k l = by-test (ltb k m) (λ e. rw (e, lt-ltb k n (omega (arith, ltb-true k m e)))) (λ e. rw e)

pub not_large : {most : ℕ} (n : ℕ) → n ≤ most → rows_too_large most n [] ≡ false
unfolding rows_too_large
not_large {most} n h = le-ltb most (n + 0) (omega arith)

pub large_append : (most n : ℕ) (R S : List Row) → rows_too_large most n (R ++ S) ≡ (rows_too_large most n R || rows_too_large most (n + length R) S)
unfolding rows_too_large
large_append most n R S =
    let e : n + length (R ++ S) ≡ n + length R + length S = rw (length-append R S) (omega arith) in
    ap₂ (λ b m. b || ltb most m) (any_append out R S) e ∙ large_more (any out R) (any out S) (n + length R) (n + length R + length S) most (omega arith)

pub large_fits : {most : ℕ} (n : ℕ) (R : List Row) → rows_too_large most n R ≡ false → n + length R ≤ most
unfolding rows_too_large
large_fits {most} n R h = ltb-false most (n + length R) (or_false_r (any out R) (ltb most (n + length R)) h)
