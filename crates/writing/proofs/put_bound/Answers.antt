use Rattle.writing.proofs.Lines.{bound_is}
use Rattle.print.proofs.Put.{put_is}
use Rattle.writing.proofs.put_bound.Goals as goal

pub returns : goal.returns
returns c = put_is (bound_is c.args.numbers.now c.args.from c.min-n.ensures) c.put_list.ensures
