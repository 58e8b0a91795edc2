use native.Mathlib.Omega.{arith}
use Rattle.tallies.proofs.Counting.{tallied_more}
use Rattle.tallies.proofs.count.tally_with.Goals as goal

pub overflow_add-result : goal.overflow_add-result
overflow_add-result c = let h = rw c.in-Some.is at c.requires.found_few in omega (arith, c.requires.before_few)

pub returns-then-n-most : goal.returns-then-n-most
returns-then-n-most c = rw c.in-Some.is (tallied_more c.in-Some.f _ _ (rw c.in-Some.is at c.requires) c.if-n-most.true)
