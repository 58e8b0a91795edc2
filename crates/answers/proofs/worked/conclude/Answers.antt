use Rattle.std.proofs.Common.{arith, refl, sym}
use lib.Seq.{length-take-le}
use Rattle.answers.proofs.Telling.{says_over, says_many, frontier_fits, says_large, ready, says_worked}
use Rattle.answers.proofs.worked.conclude.Goals as goal

pub returns-then-c-clause-tells : goal.returns-then-c-clause-tells
returns-then-c-clause-tells c = says_over c.requires c.if-c.true c.say_nothing.ensures.tells

pub returns-in_default-clause-tells : goal.returns-in_default-clause-tells
returns-in_default-clause-tells c = says_many c.requires c.if-c.false _ refl c.minimal_times.ensures c.in_default.is c.say_nothing-in_default.ensures.tells

pub returns-then-c-2-clause-tells : goal.returns-then-c-2-clause-tells
returns-then-c-2-clause-tells c = says_large c.requires c.if-c.false _ refl c.minimal_times.ensures c.in-Some.is c.if-c-2.true c.say_nothing-then-c-2.ensures.tells

pub slice_bounds-frontier-end : goal.slice_bounds-frontier-end
slice_bounds-frontier-end c = let k = frontier_fits c.requires c.if-c.false _ refl c.minimal_times.ensures c.in-Some.is in omega (arith, k, c.minimal_times.auto.out)

pub slice_bounds-say_worked-end : goal.slice_bounds-say_worked-end
slice_bounds-say_worked-end c =
    let k = frontier_fits c.requires c.if-c.false _ refl c.minimal_times.ensures c.in-Some.is in
    sym (length-take-le _ _ (omega (arith, k, c.minimal_times.auto.out)))

pub say_worked-requires : goal.say_worked-requires
say_worked-requires c = ready c.requires c.if-c.false _ refl c.minimal_times.ensures c.in-Some.is c.if-c-2.false

pub returns-clause-tells : goal.returns-clause-tells
returns-clause-tells c = says_worked c.requires c.if-c.false _ refl c.minimal_times.ensures c.in-Some.is c.if-c-2.false c.say_worked.ensures.tells
