use Rattle.edits.proofs.Buffers.{advances_left, advances_settled}
use mathlib.Core.Path.{sym, ◌∙◌}
use Rattle.edits.proofs.buffer.advance_by.Goals as goal

pub returns-then-is_consolidated : goal.returns-then-is_consolidated
returns-then-is_consolidated c = advances_left _ _ _ _ c.requires.0 c.join_each.ensures (sym c.if-is_consolidated.true ∙ c.is_consolidated.ensures)

pub returns-else-is_consolidated : goal.returns-else-is_consolidated
returns-else-is_consolidated c = advances_settled _ _ _ _ c.requires.0 c.join_each.ensures c.requires.1 (sym c.if-is_consolidated.false ∙ c.is_consolidated.ensures) c.consolidate.ensures.front c.consolidate.ensures.work_after
