use Rattle.scan.proofs.Numbers.{Counting}
use Rattle.scan.proofs.digits_up_to.Given as goal

abbrev pub invariant-loop-i : goal.invariant-loop-i
invariant-loop-i l = Counting l.s l.most l.n l.i
