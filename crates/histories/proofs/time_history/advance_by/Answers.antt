use Rattle.histories.proofs.Advances.{advanced_ascending}
use mathlib.Core.Path.{sym, ◌∙◌}
use Rattle.histories.proofs.time_history.advance_by.Goals as goal

pub returns-then-is_ascending : goal.returns-then-is_ascending
returns-then-is_ascending c = advanced_ascending _ _ _ c.join_each.ensures (sym c.if-is_ascending.true ∙ c.is_ascending.ensures)
