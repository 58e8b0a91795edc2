use Rattle.std.proofs.Common.{drop}
use Rattle.form.specs.Show.{show_more}
use Rattle.print.proofs.Put.{Writing}
use Rattle.print.proofs.put_more.Given as goal

abbrev pub invariant-loop-t : goal.invariant-loop-t
invariant-loop-t l = Writing (show_more l.ts) l.initial.out l.from l.out l.at (show_more (drop l.t-index l.ts))
