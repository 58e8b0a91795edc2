use Rattle.grid.proofs.Slices.{laid_none, laid_one}
use Rattle.grid.specs.Times.{least_time}
use Rattle.times.proofs.frontier.fresh_frontier.Goals as goal

pub returns-then-out-eq0 : goal.returns-then-out-eq0
returns-then-out-eq0 c = laid_none _ _ c.if-out-eq0.true

pub returns : goal.returns
unfolding least_time
returns c = laid_one _ _ c.if-out-eq0.false
