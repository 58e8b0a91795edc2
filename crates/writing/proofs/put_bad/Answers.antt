use Rattle.writing.proofs.Lines.{bad_parts}
use Rattle.print.proofs.Put.{put_is, put-append}
use Rattle.writing.proofs.put_bad.Goals as goal

pub returns : goal.returns
returns c = put_is (bad_parts c.args.line) (put-append (put-append c.put_number_line-a.ensures c.put_number_line-b.ensures) c.put_word.ensures)
