use lib.ListN.{length}
use Rattle.backends.specs.Modes.{mode_number}
use Rattle.fixing.proofs.Slotting.{Slotting}
use Rattle.plain.proofs.window.settle_plainly.Given as goal

abbrev pub invariant-loop-b : goal.invariant-loop-b
invariant-loop-b l = Slotting (length l.initial.fk) (mode_number l.mode) l.keys l.moments l.mends l.from l.to l.tv l.tt l.td l.ofrom l.oto l.outvalues l.outtimes l.outdiffs l.initial.fixes l.initial.uv l.initial.ut l.initial.ud l.initial.iv l.initial.id l.initial.ov l.initial.od l.initial.cv l.initial.cd l.initial.marks l.initial.fk l.initial.fv l.initial.ft l.initial.fd l.uv l.ut l.ud l.iv l.id l.ov l.od l.cv l.cd l.marks l.fk l.fv l.ft l.fd l.b l.start l.fixes
