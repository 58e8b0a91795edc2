use native.Mathlib.Omega.{arith}
use Rattle.std.proofs.lemmas.Bool.Decides.{nat_tests}
use Rattle.steps.proofs.Answers.{beyond-append}
use Rattle.steps.proofs.acts.is_interesting.Goals as goal

pub returns-then-is_beyond : goal.returns-then-is_beyond
returns-then-is_beyond c = rw beyond-append (grind (arith, nat_tests))

pub returns-else-is_beyond : goal.returns-else-is_beyond
returns-else-is_beyond c = rw beyond-append (grind (arith, nat_tests))
