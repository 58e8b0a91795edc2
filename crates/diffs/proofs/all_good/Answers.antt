use Rattle.std.proofs.Common.{◌∙◌, rules}
use Rattle.std.proofs.lemmas.Iterator.{YieldsList-from_slice}
use Rattle.std.proofs.lemmas.Iterator.Search.{all_from_yields_List}
use borrow.Author.Tests.{tests}
use Rattle.grid.specs.Records.{good_diff}
use Rattle.grid.proofs.Chains.{list_all_every}
use Rattle.diffs.proofs.all_good.Goals as goal

pub returns : goal.returns
returns c = all_from_yields_List good_diff _ _ _ c.all.ensures.ran (YieldsList-from_slice c.args.ds.now cc) (λ x b q k. search (rules, tests)) ∙ list_all_every good_diff c.args.ds.now
