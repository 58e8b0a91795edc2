use Rattle.std.proofs.Common.{◌≡◌, true, false, not, ◌&&◌, sym, ap, ◌∙◌}
use borrow.Author.Tests.{eq-eqb, ne_eqb}
use lib.Dec.{eqb}
use mir.Facts.{to_z-of_z}
use mir.Syntax.{w64}
use mir.Val.{of_z}
use Rattle.grid.specs.Consolidate.{is_zero}
use Rattle.grid.specs.Records.{in_range, good_diff}
use Rattle.grid.proofs.Signed.{zero_test}
use Rattle.grid.proofs.Tests.{and_true, and-false}
use Rattle.diffs.proofs.is_good_diff.Goals as goal

pub returns-then-d-ne0 : goal.returns-then-d-ne0
unfolding good_diff
returns-then-d-ne0 c =
    let d = c.args.d in
    let other : is_zero d ≡ false = sym (zero_test d c.ranges.d) ∙ ne_eqb _ _ c.if-d-ne0.true in
    c.is_in_range.ensures ∙ ap in_range (to_z-of_z c.ranges.d) ∙ and_true (in_range d) ∙ ap (λ b. in_range d && not b) (sym other)

pub returns-else-d-ne0 : goal.returns-else-d-ne0
unfolding good_diff
returns-else-d-ne0 c =
    let d = c.args.d in
    let same : eqb (of_z w64 d) 0 ≡ true = eq-eqb _ _ c.if-d-ne0.false in
    ap not same ∙ sym (and-false (in_range d)) ∙ ap (λ b. in_range d && not b) (sym same ∙ zero_test d c.ranges.d)
