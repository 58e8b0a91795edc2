use Rattle.backends.specs.Modes.{mode_number}
use Rattle.windows.proofs.Going.{Going}
use Rattle.turns.specs.Runs.{runs}
use lib.ListN.{length}
use Prim.Native.Nat.{◌-◌}
use Rattle.windows.proofs.all.work_windows.Given as goal

abbrev pub invariant-loop-p : goal.invariant-loop-p
invariant-loop-p l =
    Going (runs l.upper l.newkeys l.newtimes l.pendingkeys l.pendingtimes l.tk l.tv l.tt l.td l.outkeys l.outvalues l.outtimes l.outdiffs) (mode_number l.mode) l.width l.keys l.initial.moments l.initial.uv l.initial.ut l.initial.ud l.initial.iv l.initial.id l.initial.ov l.initial.od l.initial.cd l.initial.wv l.initial.seeds l.initial.output l.initial.tracked l.initial.nk l.initial.nt l.initial.fk l.initial.fv l.initial.ft l.initial.fd l.initial.res l.moments l.uv l.ut l.ud l.iv l.id l.ov l.od l.cd l.wv l.seeds l.output l.tracked l.nk l.nt l.fk l.fv l.ft l.fd l.res l.p l.w

abbrev pub decreases-loop-p : goal.decreases-loop-p
decreases-loop-p l =
    length l.keys - l.p
