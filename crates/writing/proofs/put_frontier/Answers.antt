use Rattle.writing.proofs.Lines.{frontier_is}
use Rattle.print.proofs.Put.{put_is}
use Rattle.writing.proofs.put_frontier.Goals as goal

pub returns : goal.returns
returns c = put_is (frontier_is c.args.numbers.now c.args.n) c.put_list_line.ensures
