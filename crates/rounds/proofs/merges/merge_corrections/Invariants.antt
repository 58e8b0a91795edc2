use Rattle.rounds.proofs.Mixing.{Mixing}
use Rattle.rounds.proofs.merges.merge_corrections.Given as goal

abbrev pub invariant-loop-k : goal.invariant-loop-k
invariant-loop-k l = Mixing l.uv l.ut l.ud l.cv l.cd l.t.0 l.at l.initial.yv l.initial.yt l.initial.yd l.yv l.yt l.yd l.i l.j l.k
