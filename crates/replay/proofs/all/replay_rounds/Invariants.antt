use Rattle.backends.specs.Modes.{mode_number}
use Rattle.replay.proofs.Playing.{Playing}
use lib.ListN.{length}
use Rattle.replay.proofs.all.replay_rounds.Given as goal

abbrev pub invariant-loop-j : goal.invariant-loop-j
invariant-loop-j l =
    Playing (length l.initial.fk) (mode_number l.mode) l.key.0 l.moments l.far l.e l.sv l.st l.sd l.initial.xv l.initial.xt l.initial.xd l.initial.uv l.initial.ut l.initial.ud l.initial.iv l.initial.id l.initial.ov l.initial.od l.initial.cv l.initial.cd l.initial.marks l.initial.fk l.initial.fv l.initial.ft l.initial.fd l.fixes l.xv l.xt l.xd l.uv l.ut l.ud l.iv l.id l.ov l.od l.cv l.cd l.marks l.fk l.fv l.ft l.fd l.j l.w
