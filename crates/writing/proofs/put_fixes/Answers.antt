use lib.ListN.{get_or}
use lib.IntN.{pos}
use Rattle.grid.proofs.Signed.{back}
use native.Mathlib.Omega.{arith}
use Rattle.writing.proofs.Lines.{lines_start, lines_more, lines_none, fix_is}
use Rattle.print.proofs.Put.{writing_more, writing_end}
use Rattle.writing.specs.Answered.{fix_at}
use Rattle.form.specs.Show.{show_line, show_fix}
use Rattle.writing.proofs.put_fixes.Goals as goal

pub loop-i-init : goal.loop-i-init
loop-i-init c = lines_start (λ f. show_line "fix=" (show_fix f)) (fix_at c.args.numbers.now c.args.diffs.now) c.args.n _ _

pub loop-i-preserved : goal.loop-i-preserved
loop-i-preserved c = writing_more c.loop-i.invariant (lines_more (λ f. show_line "fix=" (show_fix f)) (fix_at c.args.numbers.now c.args.diffs.now) c.loop-i.i c.args.n (omega arith) (fix_is c.args.numbers.now c.args.diffs.now c.loop-i.i (back {z = get_or c.args.diffs.now c.loop-i.i (pos 0)} (omega arith)))) c.put_fix_line-at.ensures

pub returns : goal.returns
returns c = writing_end c.loop-i.invariant (lines_none (λ f. show_line "fix=" (show_fix f)) (fix_at c.args.numbers.now c.args.diffs.now) c.loop-i.i c.args.n (omega arith))
