use Rattle.form.specs.Read.{line, pair}
use Rattle.records.proofs.Records.{Pairs}
use Rattle.records.proofs.read_pairs.Given as goal

abbrev pub invariant-loop-n : goal.invariant-loop-n
invariant-loop-n l = Pairs l.s (line l.name pair) l.from l.most l.initial.keys l.initial.times l.keys l.times l.next l.n
