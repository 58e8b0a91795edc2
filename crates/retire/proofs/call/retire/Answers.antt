use mathlib.Core.Path.{sym, ◌∙◌}
use Rattle.retire.proofs.Checking.{begins, idle_asks, idle_retires}
use Rattle.retire.proofs.call.retire.Goals as goal

pub stay_idle-requires : goal.stay_idle-requires
stay_idle-requires c = idle_asks c.check-status.ensures

pub returns-then-number-ne0-clause-retires : goal.returns-then-number-ne0-clause-retires
returns-then-number-ne0-clause-retires c = idle_retires c.check-status.ensures (λ z. c.if-number-ne0.true (c.number.ensures ∙ z)) c.stay_idle.ensures.idled

pub work-requires : goal.work-requires
work-requires c = begins c.check-status.ensures (sym c.number.ensures ∙ c.if-number-ne0.false)
