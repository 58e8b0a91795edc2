use Rattle.form.specs.Read.{line}
use Rattle.records.proofs.Records.{Reading}
use Rattle.records.proofs.count_lines.Given as goal

abbrev pub invariant-loop-count : goal.invariant-loop-count
invariant-loop-count g l = Reading (line l.name g.E.Entry.reads) 512 l.s l.first l.next l.count
