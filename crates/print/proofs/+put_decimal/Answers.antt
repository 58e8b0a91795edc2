use Rattle.std.proofs.Common.{arith}
use Rattle.print.proofs.Numbers.{decimal_one, decimal_more}
use Rattle.print.proofs.Put.{put_is, put-append}
use Rattle.print.proofs.+put_decimal.Goals as goal

pub returns-then-n-lt10 : goal.returns-then-n-lt10
returns-then-n-lt10 t c = put_is (decimal_one _ c.if-n-lt10.true) c.put_mark.ensures

pub returns-else-n-lt10 : goal.returns-else-n-lt10
returns-else-n-lt10 t c = put_is (decimal_more c.args.n (omega arith) (omega arith)) (put-append c.put_decimal-last.ensures c.put_mark-else-n-lt10.ensures)
