use Rattle.times.proofs.Finding.{Searching}
use Rattle.times.proofs.minimal.first_minimal.Given as goal

abbrev pub invariant-loop-i : goal.invariant-loop-i
invariant-loop-i l = Searching l.ts l.bound l.best l.i
