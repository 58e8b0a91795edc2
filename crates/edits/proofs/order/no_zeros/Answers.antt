use Rattle.std.proofs.Common.{rules, ◌∙◌}
use Rattle.std.proofs.lemmas.Iterator.{YieldsList-from_slice}
use Rattle.std.proofs.lemmas.Iterator.Search.{all_from_yields_List}
use mathlib.Core.Bool.{not}
use borrow.Author.Tests.{tests}
use Rattle.grid.specs.Consolidate.{is_zero}
use Rattle.grid.proofs.Chains.{list_all_every}
use Rattle.edits.proofs.order.no_zeros.Goals as goal

pub returns : goal.returns
returns c =
    all_from_yields_List (λ d. not (is_zero d)) _ _ _ c.all.ensures.ran (YieldsList-from_slice c.args.diffs.now cc) (λ x b q k. search (rules, tests))
    ∙ list_all_every (λ d. not (is_zero d)) c.args.diffs.now
