use Rattle.moments.proofs.Summing.{Summing}
use Rattle.moments.proofs.moment.sum_at.Given as goal

abbrev pub invariant-loop-time : goal.invariant-loop-time
invariant-loop-time l = Summing l.times l.diffs l.t.0 l.sum l.time-iterator.a.rest.now l.time-iterator.b.rest.now
