use Rattle.placing.specs.Parts.{laid_at, column_at, frontier_at, lists_laid}
use mathlib.Core.Path.{◌∙◌, ap}
use Rattle.placing.proofs.lists.publish_lists.Goals as goal

pub returns : goal.returns
unfolding lists_laid
returns c = c.put_column-3.ensures ∙ ap (laid_at frontier_at _) (c.put_column-2.ensures ∙ ap (laid_at (column_at 5) _) c.put_column.ensures)
