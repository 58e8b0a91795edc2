use Rattle.answers.proofs.Telling.{quiet_tells}
use Rattle.answers.proofs.others.say_quiet.Goals as goal

pub returns-clause-tells : goal.returns-clause-tells
returns-clause-tells c = quiet_tells c.publish_quiet-c.ensures.told
