use mathlib.Core.Path.{◌∙◌}
use borrow.Author.Tests.{le-leb, le-ltb}
use Rattle.emissions.proofs.Heads.{heads_none, heads_other, heads_both}
use Rattle.emissions.proofs.head.first_steps.Goals as goal

pub returns-then-secondat-second : goal.returns-then-secondat-second
returns-then-secondat-second c = le-leb _ _ c.if-secondat-second.true ∙ heads_other _ _ _ _ c.if-firstat-first.true c.if-secondat-second.true

pub returns-else-secondat-second : goal.returns-else-secondat-second
returns-else-secondat-second c = heads_both _ _ _ _ c.if-firstat-first.true c.if-secondat-second.false

pub returns-else-firstat-first : goal.returns-else-firstat-first
returns-else-firstat-first c = le-ltb _ _ c.if-firstat-first.false ∙ heads_none _ _ c.args.second.now c.args.secondat c.if-firstat-first.false
