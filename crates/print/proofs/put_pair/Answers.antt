use Rattle.print.proofs.Put.{put_is, put-append, pair_parts}
use Rattle.print.proofs.put_pair.Goals as goal

pub returns : goal.returns
returns c = put_is (pair_parts c.args.key.0 c.args.time.0) (put-append (put-append c.put_decimal-a.ensures c.put_mark-b.ensures) c.put_time.ensures)
