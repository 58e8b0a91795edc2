use native.Mathlib.Omega.{arith}
use Rattle.grid.proofs.Signed.{back}
use Rattle.print.proofs.Put.{put_is, put-append, row_parts}
use Rattle.print.proofs.put_row.Goals as goal

pub returns : goal.returns
returns c = put_is (row_parts c.args.key.0 c.args.value.0 c.args.time.0 (back {z = c.args.diff} (omega arith))) (put-append (put-append (put-append c.put_key_value-a.ensures c.put_time-b.ensures) c.put_mark-e.ensures) c.put_signed.ensures)
