use Rattle.std.proofs.Common.{rules, ◌∙◌}
use Rattle.std.proofs.lemmas.Iterator.{YieldsList-from_slice}
use Rattle.std.proofs.lemmas.Iterator.Search.{all_from_yields_List}
use borrow.Author.Tests.{tests}
use Rattle.grid.proofs.Chains.{list_all_every}
use Rattle.wave.specs.Calls.{small_diff}
use Rattle.wave.proofs.checks.all_small.Goals as goal

pub returns : goal.returns
unfolding small_diff
returns c =
    all_from_yields_List small_diff _ _ _ c.all.ensures.ran (YieldsList-from_slice c.args.diffs.now cc) (λ x b q k. search (rules, tests))
    ∙ list_all_every small_diff c.args.diffs.now
