use Rattle.std.proofs.Common.{drop}
use Rattle.print.proofs.Put.{Writing}
use Rattle.print.proofs.put_word.Given as goal

abbrev pub invariant-loop-b : goal.invariant-loop-b
invariant-loop-b l = Writing l.w l.initial.out l.from l.out l.at (drop l.b-index l.w)
