use Rattle.std.proofs.Common.{◌∙◌}
use Rattle.print.proofs.Put.{put_is, put-append, time_parts}
use Rattle.print.proofs.put_time.Goals as goal

pub returns : goal.returns
returns c = put_is (time_parts c.args.t.0 (c.from.ensures ∙ c.hi.ensures) (c.from-2.ensures ∙ c.lo.ensures)) (put-append (put-append c.put_decimal-a.ensures c.put_mark-b.ensures) c.put_decimal.ensures)
