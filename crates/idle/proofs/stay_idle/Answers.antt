use mathlib.Core.Path.{sym, ◌∙◌}
use Rattle.idle.proofs.Idling.{refusal_late, no_refusal, idle_refused, idle_done}
use Rattle.idle.proofs.stay_idle.Goals as goal

pub returns-then-is_refusal-clause-idled : goal.returns-then-is_refusal-clause-idled
returns-then-is_refusal-clause-idled c = idle_refused (refusal_late _ (sym c.is_refusal.ensures ∙ c.if-is_refusal.true)) c.requires.early

pub say_idle-requires : goal.say_idle-requires
say_idle-requires c = record { status_bound = no_refusal _ (sym c.is_refusal.ensures ∙ c.if-is_refusal.false) c.requires.early; idles = c.requires }

pub returns-clause-idled : goal.returns-clause-idled
returns-clause-idled c = idle_done (no_refusal _ (sym c.is_refusal.ensures ∙ c.if-is_refusal.false) c.requires.early) c.say_idle.ensures.said c.clear_work.ensures.numbers c.clear_work.ensures.diffs
