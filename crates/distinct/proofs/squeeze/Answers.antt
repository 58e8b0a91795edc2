use Rattle.std.proofs.Common.{sym, ◌∙◌, arith}
use Rattle.distinct.proofs.Removing.{squeezing_start, squeezing_keep, squeezing_skip}
use Rattle.distinct.proofs.squeeze.Goals as goal
use Rattle.distinct.proofs.squeeze.Goals.{then-ends_run, else-ends_run}

pub loop-i-init : goal.loop-i-init
loop-i-init c = squeezing_start c.args.s.now c.requires

pub loop-i-preserved : goal.loop-i-preserved
loop-i-preserved c =
    elim c.if-ends_run.branch [
      | then-ends_run w ↦ rw (w.s-is, w.k-is) (squeezing_keep c.loop-i.invariant (omega arith) (sym c.ends_run.ensures ∙ w.if-ends_run.true))
      | else-ends_run w ↦ rw (w.s-is, w.k-is) (squeezing_skip c.loop-i.invariant (omega arith) (sym c.ends_run.ensures ∙ w.if-ends_run.false))
    ]
