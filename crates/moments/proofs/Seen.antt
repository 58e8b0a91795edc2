-- What is seen of a segment is what a crossing asks: a canonical list of modest sums.
--
-- seen_canon: it is canonical. seen-modest: of diffs that are together no larger than those of 8,192 records, each sum is modest
use Prim.Native.Nat.{ℕ, ◌*◌, ◌≤◌, ◌^◌}
use native.Mathlib.Omega.{arith}
use mathlib.Core.List.{List, [], ◌∷◌}
use lib.Dec.{ltb}
use lib.IntN.{ℤ, nat_abs}
use Rattle.grid.specs.Times.{below}
use Rattle.grid.proofs.Tests.{by-test}
use Rattle.grid.proofs.Lists.{All, all_imp, all_map}
use Rattle.grid.proofs.Sizes.{sizing_nat_abs, mass, mass_each, mass_consolidate}
use Rattle.grid.proofs.Consolidate.{Canon, strict_ltb, canon_consolidate}
use Rattle.rules.specs.Histories.{Edit, time_of}
use Rattle.rules.specs.Retire.{seen}
use Rattle.diffs.specs.Diffs.{modest}
use Rattle.backends.specs.Columns.{diffs_of}
use Rattle.moments.proofs.Shown.{shown}

pub seen_canon : (t : ℕ) (es : List Edit) → Canon ltb (seen t es)
unfolding seen shown
seen_canon t es = canon_consolidate strict_ltb (shown t es)

mass_shown : (t : ℕ) (es : List Edit) → mass nat_abs (shown t es) ≤ mass nat_abs es
unfolding shown
mass_shown t [] = omega arith
mass_shown t (e ∷ es) =
    let h : mass nat_abs (shown t es) ≤ mass nat_abs es = mass_shown t es in
    by-test (below (time_of e) t) (λ q. rw q (omega arith)) (λ q. rw q (omega arith))

pub seen-modest : (t : ℕ) (es : List Edit) → mass nat_abs es ≤ 8192 * 2 ^ 31 → All modest (diffs_of (seen t es))
unfolding seen shown
seen-modest t es l =
    let h : mass nat_abs (shown t es) ≤ mass nat_abs es = mass_shown t es in
    let k : mass nat_abs (seen t es) ≤ mass nat_abs (shown t es) = mass_consolidate nat_abs sizing_nat_abs ltb (shown t es) in
    all_map {P = modest} (λ (y : ℕ × ℤ). y.1) (all_imp (λ y q. omega arith) (mass_each nat_abs (seen t es)))
