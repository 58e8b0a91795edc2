use Rattle.emissions.proofs.Heads.{chosen-first, chosen-second}
use Rattle.emissions.proofs.head.head_first.Goals as goal

pub returns-then-first_steps : goal.returns-then-first_steps
returns-then-first_steps c = chosen-first c.args.first.now c.args.firstat c.args.second.now c.args.secondat c.first_steps.ensures c.if-first_steps.true

pub returns-else-first_steps : goal.returns-else-first_steps
returns-else-first_steps c = chosen-second c.args.first.now c.args.firstat c.args.second.now c.args.secondat c.first_steps.ensures c.if-first_steps.false
