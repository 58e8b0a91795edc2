use borrow.Author.Rules.{rules}
use mathlib.Core.Path.{◌≡◌, sym, ◌∙◌, ap}
use Rattle.std.specs.Prelude.{None}
use Rattle.times.specs.Meets.{optional}
use Rattle.discover.proofs.Turns.{over_stop, none_stop, steps_on, calm}
use Rattle.discover.proofs.walks.turn.Goals as goal

pub returns-then-is_over-clause-turned : goal.returns-then-is_over-clause-turned
returns-then-is_over-clause-turned c = over_stop _ _ _ _ _ _ _ _ _ _ _ (sym c.is_over.ensures ∙ c.if-is_over.true)

pub returns-in_err-n-clause-turned : goal.returns-in_err-n-clause-turned
returns-in_err-n-clause-turned c =
    let e : c.from_residual.result ≡ None = search rules in
    rw e (none_stop _ _ _ _ _ _ _ _ _ _ _ c.requires.kept.standing.input_alike (sym c.is_over.ensures ∙ c.if-is_over.false) c.next_time.result c.next_time.ensures (ap optional c.in_err-n.was))

pub step-requires-clause-calm : goal.step-requires-clause-calm
step-requires-clause-calm c = calm _ _ _ _ _ _ _ _ _ _ _ c.requires.short (sym c.is_over.ensures ∙ c.if-is_over.false)

pub returns-clause-turned : goal.returns-clause-turned
returns-clause-turned c = steps_on _ _ _ _ _ _ _ _ _ _ _ c.requires.kept.standing.input_alike (sym c.is_over.ensures ∙ c.if-is_over.false) c.next_time.result c.next_time.ensures (ap optional c.in_ok-n.was) c.step.ensures.steps
