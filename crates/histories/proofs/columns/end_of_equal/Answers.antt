use Rattle.std.proofs.Common.{rules, ◌+◌, length, eqb, ap, ◌∙◌}
use Rattle.std.proofs.lemmas.Iterator.{YieldsList-from_slice}
use Rattle.std.proofs.lemmas.Iterator.Consumers.{count_from_yields_List}
use Rattle.std.proofs.lemmas.Iterator.Search.{YieldsList-from_take_while}
use borrow.Author.Tests.{tests}
use Rattle.grid.proofs.Chains.{take_while_front}
use Rattle.histories.proofs.columns.end_of_equal.Goals as goal

pub returns : goal.returns
returns c =
    rw c.rest.ensures at
    (ap (λ k. c.args.at + k)
    (count_from_yields_List _ _ c.count.ensures.ran
    (YieldsList-from_take_while _ (eqb c.args.n.0) (YieldsList-from_slice c.rest.result.now cc) c.take_while.ensures.closure c.take_while.ensures.done (λ x b q k. search (rules, tests)))
    ∙ ap length (take_while_front (eqb c.args.n.0) _)))
