use Rattle.answers.proofs.Telling.{worked_tells}
use Rattle.answers.proofs.worked.say_worked.Goals as goal

pub returns-clause-tells : goal.returns-clause-tells
returns-clause-tells c = worked_tells c.args.c.crossings c.publish-n.ensures.told
