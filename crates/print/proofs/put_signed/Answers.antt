use Rattle.std.proofs.Common.{arith}
use Rattle.print.proofs.Numbers.{text_below, text_from}
use Rattle.print.proofs.Put.{put_is, put-append}
use Rattle.print.proofs.put_signed.Goals as goal

pub returns-then-d-lt0 : goal.returns-then-d-lt0
returns-then-d-lt0 c = put_is (text_below c.args.d (omega arith) c.if-d-lt0.true c.unsigned_abs.ensures.value) (put-append c.put_mark-k.ensures c.put_decimal.ensures)

pub returns-else-d-lt0 : goal.returns-else-d-lt0
returns-else-d-lt0 c = put_is (text_from c.args.d (omega arith) c.if-d-lt0.false c.unsigned_abs-else-d-lt0.ensures.value) c.put_decimal-else-d-lt0.ensures
