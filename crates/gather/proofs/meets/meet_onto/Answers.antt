use Rattle.gather.proofs.Meeting.{onto_more, onto_last}
use Rattle.gather.proofs.meets.meet_onto.Goals as goal

pub returns-then-i-moments : goal.returns-then-i-moments
returns-then-i-moments c = onto_more c.args.i c.args.moments.now c.requires.1 c.if-i-moments.true c.meet.ensures

pub returns-else-i-moments : goal.returns-else-i-moments
returns-else-i-moments c = onto_last c.args.i c.args.moments.now c.requires.0 c.if-i-moments.false
