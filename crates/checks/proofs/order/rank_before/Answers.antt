use lib.Dec.{ltb}
use mathlib.Core.Path.{◌∙◌}
use Rattle.grid.specs.Records.{rank_before}
use Rattle.grid.specs.Consolidate.{lex}
use Rattle.rows.proofs.Pairs.{lex-same, lex-first}
use Rattle.checks.proofs.order.rank_before.Goals as goal

pub returns-then-a-x : goal.returns-then-a-x
unfolding rank_before
returns-then-a-x c = c.pair_before.ensures ∙ lex-same (lex ltb ltb) c.args.a c.args.x (c.args.b, c.args.c) (c.args.y, c.args.z) c.if-a-x.true

pub returns-else-a-x : goal.returns-else-a-x
unfolding rank_before
returns-else-a-x c = lex-first (lex ltb ltb) c.args.a c.args.x (c.args.b, c.args.c) (c.args.y, c.args.z) c.if-a-x.false
