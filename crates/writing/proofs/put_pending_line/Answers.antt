use Rattle.writing.proofs.Lines.{pending_parts}
use Rattle.print.proofs.Put.{put_is, put-append}
use Rattle.writing.proofs.put_pending_line.Goals as goal

pub returns : goal.returns
returns c = put_is (pending_parts c.args.key.0 c.args.time.0) (put-append (put-append c.put_word-a.ensures c.put_pair-b.ensures) c.put_mark.ensures)
