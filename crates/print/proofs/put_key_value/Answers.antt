use Rattle.print.proofs.Put.{put_is, put-append, key_value_parts}
use Rattle.print.proofs.put_key_value.Goals as goal

pub returns : goal.returns
returns c = put_is (key_value_parts c.args.key.0 c.args.value.0) (put-append (put-append (put-append c.put_decimal-a.ensures c.put_mark-b.ensures) c.put_decimal-e.ensures) c.put_mark.ensures)
