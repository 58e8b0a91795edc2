use Rattle.steps.specs.Walks.{state_of}
use Rattle.discover.proofs.Going.{stands_start, stands_turn, stands_less, stands_end}
use Rattle.discover.proofs.walks.walk.Goals as goal

pub loop-next-init : goal.loop-next-init
loop-next-init c = (stands_start (state_of c.args.seeds.now c.args.pending.now c.args.times.now c.args.values.now c.args.diffs.now c.args.output.now c.args.waiting.now c.args.tracked.now c.args.moments.now c.args.pended.now c.args.p) c.requires.begun, c.requires.kept)

pub loop-next-smaller : goal.loop-next-smaller
loop-next-smaller c = stands_less c.loop-next.invariant.0 c.in-Some.ensures.turned

pub loop-next-preserved : goal.loop-next-preserved
loop-next-preserved c = (stands_turn c.loop-next.invariant.0 c.in-Some.ensures.turned, c.in-Some.ensures.still_kept)

pub returns-clause-ended : goal.returns-clause-ended
returns-clause-ended c = stands_end c.loop-next.invariant.0 c.in_default.ensures.turned
