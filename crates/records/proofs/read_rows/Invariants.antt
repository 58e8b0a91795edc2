use Rattle.form.specs.Read.{line, row}
use Rattle.records.proofs.Records.{Rows}
use Rattle.records.proofs.read_rows.Given as goal

abbrev pub invariant-loop-n : goal.invariant-loop-n
invariant-loop-n l = Rows l.s (line l.name row) l.from l.most l.initial.keys l.initial.values l.initial.times l.initial.diffs l.keys l.values l.times l.diffs l.next l.n
