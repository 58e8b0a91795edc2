use mathlib.Core.Path.{sym, ◌∙◌}
use Rattle.idle.proofs.Idling.{says_quiet, says_nothing, early_writes}
use Rattle.idle.proofs.say_idle.Goals as goal

pub say_quiet-requires : goal.say_quiet-requires
say_quiet-requires c = c.requires.idles.fits c.requires.status_bound

pub returns-then-number-eq1-clause-said : goal.returns-then-number-eq1-clause-said
returns-then-number-eq1-clause-said c = says_quiet (sym c.number.ensures ∙ c.if-number-eq1.true) c.say_quiet.ensures.tells

pub say_nothing-requires : goal.say_nothing-requires
say_nothing-requires c = let Q = c.requires.idles.fits c.requires.status_bound in (record { wide_numbers = Q.wide_numbers; wide_diffs = Q.wide_diffs }, early_writes _ c.requires.status_bound)

pub returns-clause-said : goal.returns-clause-said
returns-clause-said c = says_nothing (λ e. c.if-number-eq1.false (c.number.ensures ∙ e)) c.say_nothing.ensures.tells
