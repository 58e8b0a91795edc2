use mathlib.Core.Path.{sym, ◌∙◌}
use Rattle.checks.proofs.Rows.{status_unequal, status_short, status_verdict}
use Rattle.checks.proofs.verdict.status_before_work.Goals as goal
use Rattle.checks.proofs.verdict.status_before_work.Goals.{else-are_level-via-then-are_level+else-is_room, else-are_level-via-else-are_level}

pub returns-then-is_room : goal.returns-then-is_room
returns-then-is_room c = status_verdict _ _ _ _ _ _ _ _ _ _ _ _ (sym c.are_level.ensures ∙ c.if-are_level.true) (sym c.is_room.ensures ∙ c.if-is_room.true) c.verdict.ensures

pub returns-else-are_level : goal.returns-else-are_level
returns-else-are_level c =
    elim c.else-are_level.branch [
      | else-are_level-via-then-are_level+else-is_room w ↦ status_short _ _ _ _ _ _ _ _ _ _ _ _ (sym c.are_level.ensures ∙ w.if-are_level.true) (sym w.is_room.ensures ∙ w.if-is_room.false)
      | else-are_level-via-else-are_level w ↦ status_unequal _ _ _ _ _ _ _ _ _ _ _ _ (sym c.are_level.ensures ∙ w.if-are_level.false)
    ]
