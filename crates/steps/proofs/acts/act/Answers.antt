use mathlib.Core.Path.{sym, ◌∙◌}
use Rattle.steps.proofs.Arms.{pended_keen, pended_dull, joined_only}
use Rattle.steps.proofs.acts.act.Goals as goal

pub returns-then-keen : goal.returns-then-keen
returns-then-keen c = pended_keen _ _ _ _ _ _ _ _ _ _ _ _ (sym c.is_beyond.ensures ∙ c.if-is_beyond.true) _ c.if-keen.true c.requires.waiting_set c.put_time.ensures

pub returns-else-keen : goal.returns-else-keen
returns-else-keen c = pended_dull _ _ _ _ _ _ _ _ _ _ _ _ (sym c.is_beyond.ensures ∙ c.if-is_beyond.true) c.if-keen.false c.requires.waiting_set c.requires.pended_set

pub returns-else-keen-2 : goal.returns-else-keen-2
returns-else-keen-2 c = joined_only _ _ _ _ _ _ _ _ _ _ _ _ _ _ (sym c.is_beyond.ensures ∙ c.if-is_beyond.false) c.if-keen-2.false c.join_both-c.ensures
