use Rattle.std.proofs.Common.{arith}
use Rattle.std.proofs.lemmas.Grind.{common_steps}
use Rattle.histories.proofs.Suffixes.{first_some, first_none}
use Rattle.histories.proofs.time_history.head_of.Goals as goal

pub returns : goal.returns
returns c = grind (arith, common_steps, first_some c.args.times.now c.args.at, first_none c.args.times.now c.args.at)
