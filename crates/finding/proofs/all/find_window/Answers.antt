use Rattle.finding.proofs.Windowing.{windowing_room, windowing_more, windowing_end, same_more, scratch_still, runs_still, spans_lent, found_next, found_none}
use Rattle.finding.specs.Windowed.{state_at}
use lib.ListN.{length-set}
use Rattle.finding.proofs.all.find_window.Goals as goal

pub find_key-w-requires : goal.find_key-w-requires
find_key-w-requires c = record { scratch = scratch_still c.loop-b.invariant.1 c.requires.scratch; lent_runs = (runs_still c.loop-b.invariant.1 c.requires.lent_runs.0, (spans_lent c.args.nfrom.now c.args.nto.now c.args.pfrom.now c.args.pto.now c.args.ifrom.now c.args.ito.now c.args.ofrom.now c.args.oto.now c.requires.parted c.loop-b-test.true c.span_at.ensures c.span_at-in-loop-b.ensures c.span_at-in-loop-b-2.ensures c.span_at-in-loop-b-3.ensures, windowing_room c.loop-b.invariant.0 c.requires.lent_runs.1 c.loop-b-test.true c.loop-b.invariant.1.of_moments c.loop-b.invariant.1.of_nextkeys c.loop-b.invariant.1.of_nexttimes)) }

pub loop-b-preserved : goal.loop-b-preserved
loop-b-preserved c = (
  windowing_more c.loop-b.invariant.0 c.loop-b-test.true (found_next c.args.nfrom.now c.args.nto.now c.args.pfrom.now c.args.pto.now c.args.ifrom.now c.args.ito.now c.args.ofrom.now c.args.oto.now c.requires.parted c.loop-b-test.true c.span_at.ensures c.span_at-in-loop-b.ensures c.span_at-in-loop-b-2.ensures c.span_at-in-loop-b-3.ensures (state_at c.args.upper.now c.args.newtimes.now c.args.pendingtimes.now c.args.intimes.now c.args.invalues.now c.args.indiffs.now c.args.outtimes.now)) c.loop-b.invariant.1.of_nextkeys c.find_key-w.ensures c.loop-b.invariant.1.of_mends c.requires.lent_runs.1.mends_room c.find_key-w.auto.nextkeys c.find_key-w.auto.nexttimes,
  same_more c.loop-b.invariant.1 c.find_key-w.auto.seeds c.find_key-w.auto.times c.find_key-w.auto.values c.find_key-w.auto.diffs c.find_key-w.auto.output c.find_key-w.auto.meets c.find_key-w.auto.waiting c.find_key-w.auto.tracked c.find_key-w.auto.moments c.find_key-w.auto.pended c.find_key-w.auto.work c.find_key-w.auto.places c.find_key-w.auto.wvalues c.find_key-w.auto.wdiffs c.find_key-w.auto.nextkeys c.find_key-w.auto.nexttimes (length-set c.loop-b.mends c.loop-b.b c.find_key-w.result.moments),
)

pub returns : goal.returns
returns c = windowing_end c.loop-b.invariant.0 c.loop-b-test.false (found_none c.requires.parted.0 c.loop-b-test.false (state_at c.args.upper.now c.args.newtimes.now c.args.pendingtimes.now c.args.intimes.now c.args.invalues.now c.args.indiffs.now c.args.outtimes.now) _ _ _)
