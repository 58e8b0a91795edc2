use Rattle.concluding.proofs.Answering.{answered-same, answered-mode}
use Rattle.working.proofs.either.answer.Goals as goal

pub returns-then-not-few-clause-answered : goal.returns-then-not-few-clause-answered
returns-then-not-few-clause-answered c = answered-mode (λ _. c.mode_of-mode.ensures.number_is) c.answer_fully.ensures.answered

pub returns-in-Some-clause-answered : goal.returns-in-Some-clause-answered
returns-in-Some-clause-answered c = answered-mode (λ _. c.mode_of-mode.ensures.number_is) (c.answer_briefly.ensures.tries.answered _ c.in-Some.is)

pub returns-in-None-clause-answered : goal.returns-in-None-clause-answered
returns-in-None-clause-answered c =
    answered-mode (λ _. c.mode_of-mode.ensures.number_is) (answered-same c.answer_briefly.ensures.same.long_numbers c.answer_briefly.ensures.same.long_diffs c.answer_fully-in-None.ensures.answered)
