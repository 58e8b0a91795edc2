use Rattle.answers.proofs.Telling.{nothing_tells}
use Rattle.answers.proofs.others.say_nothing.Goals as goal

pub returns-clause-tells : goal.returns-clause-tells
returns-clause-tells c = nothing_tells c.args.status c.requires.1 c.publish_nothing-c.ensures.told
