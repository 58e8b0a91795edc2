use Rattle.reading.proofs.Heads.{Listing}
use Rattle.reading.proofs.read_times.Given as goal

abbrev pub invariant-loop-k : goal.invariant-loop-k
invariant-loop-k l = Listing l.s l.from l.initial.out l.out l.at l.k
