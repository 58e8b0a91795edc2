use Rattle.std.proofs.Common.{◌∙◌, arith}
use lib.Dec.{eqb}
use borrow.Author.Tests.{le-leb}
use Rattle.distinct.proofs.Removing.{ends_more, ends_last}
use Rattle.distinct.proofs.ends_run.Goals as goal

pub returns-then-s-i : goal.returns-then-s-i
returns-then-s-i c = le-leb _ _ c.if-s-i.true ∙ ends_last eqb c.args.s.now c.args.i 0 (omega arith) c.if-s-i.true

pub returns-else-s-i : goal.returns-else-s-i
returns-else-s-i c = ends_more eqb c.args.s.now c.args.i 0 (omega arith)
