use Rattle.print.proofs.Put.{put-append}
use Rattle.writing.proofs.put_number_line.Goals as goal

pub returns : goal.returns
returns c = put-append (put-append c.put_word-a.ensures c.put_decimal-b.ensures) c.put_mark.ensures
