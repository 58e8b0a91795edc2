use native.Mathlib.Omega.{arith}
use Rattle.writing.proofs.Lines.{lines_start, lines_more, lines_none, pair_is}
use Rattle.print.proofs.Put.{writing_more, writing_end}
use Rattle.writing.specs.Answered.{pair_at}
use Rattle.form.specs.Show.{show_line, show_pair}
use Rattle.writing.proofs.put_pending.Goals as goal

pub loop-i-init : goal.loop-i-init
loop-i-init c = lines_start (λ p. show_line "pend=" (show_pair p)) (pair_at c.args.numbers.now) c.args.n _ _

pub loop-i-preserved : goal.loop-i-preserved
loop-i-preserved c = writing_more c.loop-i.invariant (lines_more (λ p. show_line "pend=" (show_pair p)) (pair_at c.args.numbers.now) c.loop-i.i c.args.n (omega arith) (pair_is c.args.numbers.now c.loop-i.i)) c.put_pending_line-at.ensures

pub returns : goal.returns
returns c = writing_end c.loop-i.invariant (lines_none (λ p. show_line "pend=" (show_pair p)) (pair_at c.args.numbers.now) c.loop-i.i c.args.n (omega arith))
