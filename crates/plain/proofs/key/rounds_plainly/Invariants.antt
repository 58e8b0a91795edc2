use lib.ListN.{length}
use Rattle.backends.specs.Modes.{mode_number}
use Rattle.plain.proofs.Going.{Going}
use Rattle.plain.proofs.key.rounds_plainly.Given as goal

abbrev pub invariant-loop-j : goal.invariant-loop-j
invariant-loop-j l =
    Going (length l.initial.fk) (mode_number l.mode) l.key.0 l.moments l.values l.times l.diffs l.n l.initial.uv l.initial.ut l.initial.ud l.initial.iv l.initial.id l.initial.ov l.initial.od l.initial.cv l.initial.cd l.initial.marks l.initial.fk l.initial.fv l.initial.ft l.initial.fd l.initial.fixes l.uv l.ut l.ud l.iv l.id l.ov l.od l.cv l.cd l.marks l.fk l.fv l.ft l.fd l.j l.output l.fixes
