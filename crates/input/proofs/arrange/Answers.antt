use Rattle.input.proofs.Forming.{arranged}
use Rattle.input.proofs.arrange.Goals as goal

pub returns : goal.returns
returns c = arranged c.args.n (record { keys = c.args.bothkeys.now; values = c.args.bothvalues.now; times = c.args.bothtimes.now; diffs = c.args.bothdiffs.now }) _ c.requires.0 _ c.order.ensures c.gather_front.ensures c.gather_front-2.ensures c.gather_front-3.ensures c.gather_front-4.ensures
