use Rattle.marks.proofs.Marking.{marked_yes, marked_no}
use Rattle.marks.proofs.mark.Goals as goal

pub returns-then-crossed : goal.returns-then-crossed
returns-then-crossed c = marked_yes _ _ c.if-crossed.true

pub returns-else-crossed : goal.returns-else-crossed
returns-else-crossed c = marked_no _ c.args.marks.now c.if-crossed.false
