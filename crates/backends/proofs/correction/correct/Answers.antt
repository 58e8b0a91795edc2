use mathlib.Core.Path.{sym, ◌∙◌}
use Rattle.diffs.proofs.Signed.{told-zero, told_id}
use Rattle.backends.proofs.Wanted.{ready_none, ready_one, end_distinct, end_none, end_one}
use Rattle.backends.proofs.correction.correct.Goals as goal

pub returns-then-not-counts : goal.returns-then-not-counts
returns-then-not-counts c = end_distinct c.requires c.args.mode (sym c.counts.ensures ∙ c.if-not-counts.true) c.differ.ensures

pub differ-requires-then-is_zero : goal.differ-requires-then-is_zero
differ-requires-then-is_zero c = ready_none c.requires

pub differ-requires-else-is_zero : goal.differ-requires-else-is_zero
differ-requires-else-is_zero c = ready_one c.requires _ (told-zero c.total-count.type_inv c.total-count.ensures.0 c.is_zero.ensures c.if-is_zero.false)

pub returns-then-is_zero : goal.returns-then-is_zero
returns-then-is_zero c = end_none c.requires c.args.mode (sym c.counts.ensures ∙ c.if-not-counts.false) (told-zero c.total-count.type_inv c.total-count.ensures.0 c.is_zero.ensures c.if-is_zero.true) c.differ-then-is_zero.ensures

pub returns-else-is_zero : goal.returns-else-is_zero
returns-else-is_zero c = end_one c.requires c.args.mode _ (sym c.counts.ensures ∙ c.if-not-counts.false) (told-zero c.total-count.type_inv c.total-count.ensures.0 c.is_zero.ensures c.if-is_zero.false) (told_id c.total-count.type_inv c.total-count.ensures.0 c.count_id.ensures) c.differ-else-is_zero.ensures
