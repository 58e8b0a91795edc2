use mathlib.Core.Path.{sym, ◌∙◌}
use Rattle.backends.proofs.Walk.{in_left, in_right, in_both, diff_small, stored_neg, stored_less, take_left, take_right, take_both, take_neither, pass_over, differing_end}
use Rattle.backends.proofs.correction.differ.Goals as goal
use Rattle.backends.proofs.correction.differ.Goals.{then-not-is_zero, else-not-is_zero}

pub bounds-iv-i : goal.bounds-iv-i
bounds-iv-i c = in_left c.loop-i.invariant (sym c.in-Input.ensures)

pub loop-i-preserved-in-Input : goal.loop-i-preserved-in-Input
loop-i-preserved-in-Input c = take_left c.loop-i.invariant c.loop-i-test.true (sym c.in-Input.ensures)

pub bounds-ov-j : goal.bounds-ov-j
bounds-ov-j c = (in_right c.loop-i.invariant c.loop-i-test.true (sym c.in-Output.ensures)).0

pub bounds-od-j : goal.bounds-od-j
bounds-od-j c = (in_right c.loop-i.invariant c.loop-i-test.true (sym c.in-Output.ensures)).1

pub negated-requires : goal.negated-requires
negated-requires c = diff_small c.loop-i.invariant (in_right c.loop-i.invariant c.loop-i-test.true (sym c.in-Output.ensures)).1

pub loop-i-preserved-in-Output : goal.loop-i-preserved-in-Output
loop-i-preserved-in-Output c =
    take_right c.loop-i.invariant _ (stored_neg c.loop-i.invariant (in_right c.loop-i.invariant c.loop-i-test.true (sym c.in-Output.ensures)).1 c.negated.type_inv c.negated.ensures) c.loop-i-test.true (sym c.in-Output.ensures)

pub bounds-od-j-in-Both : goal.bounds-od-j-in-Both
bounds-od-j-in-Both c = (in_both c.loop-i.invariant c.loop-i-test.true (sym c.in-Both.ensures)).1.1

pub one_less-e-requires : goal.one_less-e-requires
one_less-e-requires c = diff_small c.loop-i.invariant (in_both c.loop-i.invariant c.loop-i-test.true (sym c.in-Both.ensures)).1.1

pub bounds-iv-i-then-not-is_zero : goal.bounds-iv-i-then-not-is_zero
bounds-iv-i-then-not-is_zero c = (in_both c.loop-i.invariant c.loop-i-test.true (sym c.in-Both.ensures)).0

pub loop-i-preserved-in-Both : goal.loop-i-preserved-in-Both
loop-i-preserved-in-Both c =
    let b = sym c.in-Both.ensures in
    let h = (in_both c.loop-i.invariant c.loop-i-test.true b).1.1 in
    let d = stored_less c.loop-i.invariant h c.one_less-e.type_inv c.one_less-e.ensures in
    elim c.if-not-is_zero.branch [
      | then-not-is_zero w ↦ rw (w.cv-is, w.cd-is, w.k-is) (take_both c.loop-i.invariant _ d (sym c.is_zero.ensures ∙ w.if-not-is_zero.true) c.loop-i-test.true b)
      | else-not-is_zero w ↦ rw (w.cv-is, w.cd-is, w.k-is) (take_neither c.loop-i.invariant _ d (sym c.is_zero.ensures ∙ w.if-not-is_zero.false) c.loop-i-test.true b)
    ]

pub loop-i-preserved : goal.loop-i-preserved
loop-i-preserved c = pass_over c.loop-i.invariant (sym c.in-Unlisted.ensures)

pub returns : goal.returns
returns c = differing_end c.loop-i.invariant c.loop-i-test.false
