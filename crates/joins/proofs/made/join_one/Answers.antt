use Rattle.joins.proofs.Sets.{made-below, made-beyond, made_short}
use mathlib.Core.Path.{sym, ◌∙◌}
use Rattle.joins.proofs.made.join_one.Goals as goal

pub returns-then-below : goal.returns-then-below
returns-then-below c = (c.requires, made-below _ _ _ _ _ (sym c.below.ensures ∙ c.if-below.true))

pub returns-then-is_beyond : goal.returns-then-is_beyond
returns-then-is_beyond c = ((c.requires.0, c.put_time.ensures.set), made-beyond _ _ _ _ _ (sym c.below.ensures ∙ c.if-below.false) c.join-j.ensures (sym c.is_beyond.ensures ∙ c.if-is_beyond.true) c.put_time.ensures.grown)

pub returns-else-is_beyond : goal.returns-else-is_beyond
returns-else-is_beyond c = ((c.put_time-else-is_beyond.ensures.set, c.requires.1), made_short _ _ _ _ _ (sym c.below.ensures ∙ c.if-below.false) c.join-j.ensures (sym c.is_beyond.ensures ∙ c.if-is_beyond.false) c.put_time-else-is_beyond.ensures.grown)
