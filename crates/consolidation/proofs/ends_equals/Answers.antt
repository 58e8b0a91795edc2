use Rattle.std.proofs.Common.{◌∙◌, arith}
use borrow.Author.Tests.{le-leb}
use Rattle.consolidation.proofs.Adding.{ends_more, ends_last}
use Rattle.consolidation.proofs.ends_equals.Goals as goal

pub returns-then-places-i : goal.returns-then-places-i
returns-then-places-i c = le-leb _ _ c.if-places-i.true ∙ ends_last c.args.a.now c.args.b.now c.args.places.now c.args.i (omega arith) c.if-places-i.true

pub returns-else-places-i : goal.returns-else-places-i
returns-else-places-i c = ends_more c.args.a.now c.args.b.now c.args.places.now c.args.i (omega arith) c.same_pair.ensures
