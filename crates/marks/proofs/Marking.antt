-- Marks are set and counted.
--
-- marked_yes, marked_no: a round that is marked, and one that is not
-- marks_counted: the marks that are 1 are those that count
use Prim.Native.Nat.{ℕ, ◌+◌}
use native.Mathlib.Omega.{arith}
use mathlib.Core.Bool.{Bool, true, false, cond}
use mathlib.Core.Path.{◌≡◌, refl, sym}
use mathlib.Core.List.{List, ◌∷◌}
use lib.Dec.{eqb}
use lib.ListN.{set}
use borrow.Author.Tests.{eq-eqb, ne_eqb, eqb-true, eqb-false}
use Rattle.std.specs.Prelude.{count_by}
use Rattle.std.proofs.lemmas.List.Recursion.{is_count_by}
use Rattle.grid.proofs.Tests.{by-test}
use Rattle.marks.specs.Marks.{marked_at, count_of}

pub marked_yes : {c : Bool} (j : ℕ) (ms : List ℕ) → c ≡ true → set ms j 1 ≡ marked_at c j ms
unfolding marked_at
marked_yes j ms e = rw e

pub marked_no : {c : Bool} (j : ℕ) (ms : List ℕ) → c ≡ false → ms ≡ marked_at c j ms
unfolding marked_at
marked_no j ms e = rw e

marks_more : (m : ℕ) (ms : List ℕ) → count_of (m ∷ ms) ≡ cond (eqb m 1) (1 + count_of ms) (count_of ms)
unfolding count_of
marks_more m ms =
    by-test (eqb m 1) (λ e. let q : m ≡ 1 = eqb-true m 1 e in rw (e, eq-eqb 1 m (sym q)) (omega arith))
    (λ e. rw (e, ne_eqb 1 m (λ q. eqb-false m 1 e (sym q))))

pub marks_counted : (ms : List ℕ) → count_of ms ≡ count_by (λ m. eqb m 1) ms
unfolding count_of
marks_counted = is_count_by count_of (λ m. eqb m 1) refl marks_more
