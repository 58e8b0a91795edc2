use Rattle.writing.proofs.Lines.{tile_parts}
use Rattle.print.proofs.Put.{put_is, put-append}
use Rattle.writing.proofs.put_tile.Goals as goal

pub returns : goal.returns
returns c = put_is (tile_parts c.args.numbers.now c.args.from) (put-append (put-append (put-append (put-append c.put_bound-a.ensures c.put_mark-b.ensures) c.put_bound-e.ensures) c.put_mark-f.ensures) c.put_time.ensures)
