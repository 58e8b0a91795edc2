use lib.ListN.{length}
use Rattle.writing.proofs.Lines.{answer_short, answer_long, fits_from}
use Rattle.print.proofs.Put.{put_is, put-append}
use Rattle.writing.proofs.put_answer.Goals as goal

pub returns-then-a-gt2 : goal.returns-then-a-gt2
returns-then-a-gt2 c = put_is (answer_short c.args.a c.args.numbers.now c.args.diffs.now c.if-a-gt2.true) (put-append c.put_number_line-k.ensures c.put_word.ensures)

pub put_results-m-requires : goal.put_results-m-requires
put_results-m-requires c = fits_from c.args.a (length c.args.numbers.now) (length c.args.diffs.now) c.if-a-gt2.false c.requires

pub returns-else-a-gt2 : goal.returns-else-a-gt2
returns-else-a-gt2 c = put_is (answer_long c.args.a c.args.numbers.now c.args.diffs.now c.if-a-gt2.false) (put-append (put-append c.put_number_line-k.ensures c.put_results-m.ensures) c.put_word-else-a-gt2.ensures)
