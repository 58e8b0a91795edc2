use Rattle.writing.proofs.Lines.{results-parts}
use Rattle.print.proofs.Put.{put_is, put-append}
use Rattle.writing.proofs.put_results.Goals as goal

pub returns : goal.returns
returns c = put_is (results-parts c.args.a c.args.numbers.now c.args.diffs.now) (put-append (put-append (put-append (put-append c.put_number_line-b.ensures c.put_tiles-e.ensures) c.put_fixes-f.ensures) c.put_pending-g.ensures) c.put_frontier.ensures)
