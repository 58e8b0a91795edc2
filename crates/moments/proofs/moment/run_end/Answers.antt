use Rattle.std.proofs.Common.{rules, ◌+◌, eqb, ap, ◌∙◌, drop}
use Rattle.std.proofs.lemmas.Iterator.{YieldsList-from_slice}
use Rattle.std.proofs.lemmas.Iterator.Consumers.{count_from_yields_List}
use Rattle.std.proofs.lemmas.Iterator.Search.{YieldsList-from_take_while}
use Rattle.std.proofs.lemmas.List.{take_rest}
use borrow.Author.Tests.{tests}
use Rattle.moments.proofs.Summing.{run_taken}
use Rattle.moments.proofs.moment.run_end.Goals as goal

pub returns : goal.returns
returns c =
    ap (λ k. c.args.from + k)
    (count_from_yields_List _ _ c.count.ensures.ran
    (YieldsList-from_take_while _ (λ x. eqb x c.args.v) (YieldsList-from_slice (drop c.args.from c.args.values.now) (cc (take_rest c.args.values.now c.args.from))) c.take_while.ensures.closure c.take_while.ensures.done (λ x b q k. search (rules, tests)))
    ∙ run_taken c.args.v _)
