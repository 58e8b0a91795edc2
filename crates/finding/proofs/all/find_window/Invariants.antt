use Rattle.finding.proofs.Windowing.{Windowing, SameLong}
use Rattle.finding.specs.Windowed.{state_at, fourfold, spans_in}
use lib.ListN.{length, take}
use Rattle.finding.proofs.all.find_window.Given as goal

abbrev pub invariant-loop-b : goal.invariant-loop-b
invariant-loop-b l =
    Windowing (length l.initial.nextkeys) l.keys (fourfold (state_at l.upper l.newtimes l.pendingtimes l.intimes l.invalues l.indiffs l.outtimes) (spans_in (take (length l.keys) l.nfrom) (take (length l.keys) l.nto)) (spans_in (take (length l.keys) l.pfrom) (take (length l.keys) l.pto)) (spans_in (take (length l.keys) l.ifrom) (take (length l.keys) l.ito)) (spans_in (take (length l.keys) l.ofrom) (take (length l.keys) l.oto))) l.initial.w l.initial.mends l.initial.nextkeys l.initial.nexttimes l.moments l.mends l.nextkeys l.nexttimes l.b l.w × SameLong l.initial.seeds l.initial.times l.initial.values l.initial.diffs l.initial.output l.initial.meets l.initial.waiting l.initial.tracked l.initial.moments l.initial.pended l.initial.work l.initial.places l.initial.wvalues l.initial.wdiffs l.initial.nextkeys l.initial.nexttimes l.initial.mends l.seeds l.times l.values l.diffs l.output l.meets l.waiting l.tracked l.moments l.pended l.work l.places l.wvalues l.wdiffs l.nextkeys l.nexttimes l.mends
