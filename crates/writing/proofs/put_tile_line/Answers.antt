use Rattle.writing.proofs.Lines.{tile-line}
use Rattle.print.proofs.Put.{put_is, put-append}
use Rattle.writing.proofs.put_tile_line.Goals as goal

pub returns : goal.returns
returns c = put_is (tile-line c.args.numbers.now c.args.from) (put-append (put-append c.put_word-a.ensures c.put_tile-b.ensures) c.put_mark.ensures)
