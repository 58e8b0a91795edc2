use native.Mathlib.Omega.{arith}
use Rattle.writing.proofs.Lines.{fix_parts}
use Rattle.grid.proofs.Signed.{back}
use Rattle.print.proofs.Put.{put_is, put-append}
use Rattle.writing.proofs.put_fix_line.Goals as goal

pub returns : goal.returns
returns c = put_is (fix_parts c.args.tile c.args.key.0 c.args.value.0 c.args.time.0 (back {z = c.args.diff} (omega arith))) (put-append (put-append (put-append (put-append c.put_word-a.ensures c.put_decimal-b.ensures) c.put_mark-e.ensures) c.put_row-f.ensures) c.put_mark.ensures)
