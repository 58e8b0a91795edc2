use Rattle.std.proofs.Common.{rules, ltb}
use Rattle.std.proofs.lemmas.List.Sorted.{answers_always}
use borrow.Author.Tests.{tests}
use Rattle.grid.proofs.Chains.{sorted_ascending}
use Rattle.histories.proofs.columns.is_ascending.Goals as goal

pub returns : goal.returns
returns c = sorted_ascending ltb c.args.s.now c.is_sorted_by.result (c.is_sorted_by.ensures.cases ltb (answers_always _ _ _ (λ f a r g h. search (rules, tests))))
