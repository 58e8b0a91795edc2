use Rattle.std.proofs.Common.{sym, ◌∙◌, arith}
use Rattle.consolidation.proofs.Adding.{next_fits, goes_on, drops, stores, adding_end}
use Rattle.consolidation.proofs.Entries.{squash_places}
use Rattle.consolidation.proofs.add_equals.Goals as goal
use Rattle.consolidation.proofs.add_equals.Goals.{then-ends_equals+then-sum-ne0, then-ends_equals+else-sum-ne0, else-ends_equals}

pub overflow_add-sum : goal.overflow_add-sum
overflow_add-sum c = next_fits c.loop-i.invariant (omega arith) c.entry_at-sum.type_inv c.entry_at-sum.ensures

pub loop-i-preserved : goal.loop-i-preserved
loop-i-preserved c =
    let m = c.loop-i.invariant in
    let ends = c.ends_equals.ensures in
    elim c.if-ends_equals.branch [
      | then-ends_equals+then-sum-ne0 w ↦
          rw (w.firsts-is, w.seconds-is, w.diffs-is, w.sum-is, w.k-is) (stores m (omega arith) c.entry_at-sum.type_inv c.entry_at-sum.ensures (sym ends ∙ w.if-ends_equals.true) w.if-sum-ne0.true w.store.ensures)
      | then-ends_equals+else-sum-ne0 w ↦
          rw (w.firsts-is, w.seconds-is, w.diffs-is, w.sum-is, w.k-is) (drops m (omega arith) c.entry_at-sum.type_inv c.entry_at-sum.ensures (sym ends ∙ w.if-ends_equals.true) w.if-sum-ne0.false)
      | else-ends_equals w ↦
          rw (w.firsts-is, w.seconds-is, w.diffs-is, w.sum-is, w.k-is) (goes_on m (omega arith) c.entry_at-sum.type_inv c.entry_at-sum.ensures (sym ends ∙ w.if-ends_equals.false))
    ]

pub returns : goal.returns
returns c = adding_end _ c.loop-i.invariant (omega arith) (squash_places c.args.a.now c.args.b.now c.args.d.now c.args.places.now c.requires.in_order)
