use Rattle.histories.proofs.Suffixes.{meetings_start, meetings_more, meetings_end}
use Rattle.histories.proofs.time_history.suffix_meets.Goals as goal

pub loop-i-init : goal.loop-i-init
loop-i-init c = meetings_start _ _ _ c.requires.0 c.requires.1

pub loop-i-preserved : goal.loop-i-preserved
loop-i-preserved c = meetings_more c.loop-i.invariant c.loop-i-test.true c.meet_onto-t.ensures

pub returns : goal.returns
returns c = meetings_end c.loop-i.invariant c.loop-i-test.false
