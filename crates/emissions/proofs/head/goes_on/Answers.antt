use mathlib.Core.Path.{refl, ◌∙◌}
use borrow.Author.Tests.{lt-leb}
use Rattle.emissions.proofs.Heads.{on_over, on_rest}
use Rattle.emissions.proofs.head.goes_on.Goals as goal

pub returns-then-s-le-MOST_EMISSIONS : goal.returns-then-s-le-MOST_EMISSIONS
returns-then-s-le-MOST_EMISSIONS c = on_rest c.args.first.now _ c.args.second.now _ c.requires.0 c.requires.1 c.args.s refl refl c.if-s-le-MOST_EMISSIONS.true c.head_first.ensures c.is_empty.ensures

pub returns-else-s-le-MOST_EMISSIONS : goal.returns-else-s-le-MOST_EMISSIONS
returns-else-s-le-MOST_EMISSIONS c = lt-leb _ _ c.if-s-le-MOST_EMISSIONS.false ∙ on_over _ _ _ c.if-s-le-MOST_EMISSIONS.false
