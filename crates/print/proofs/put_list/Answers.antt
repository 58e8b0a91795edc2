use Rattle.std.proofs.Common.{arith, length, ◌-◌}
use Rattle.print.proofs.Put.{put_is, put-append, list_none, list_some}
use Rattle.print.proofs.put_list.Goals as goal

pub returns-in-empty : goal.returns-in-empty
returns-in-empty c = put_is (list_none c.args.ts.now (omega arith)) c.put_mark.ensures

pub returns-in-len1-up : goal.returns-in-len1-up
returns-in-len1-up c = put_is (list_some c.args.ts.now (length c.args.ts.now - 1) (omega arith) (omega arith)) (put-append c.put_time-k.ensures c.put_more.ensures)
