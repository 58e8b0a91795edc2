use Rattle.histories.proofs.Suffixes.{ahead_none}
use Rattle.histories.proofs.time_history.meet_ahead.Goals as goal

pub returns-else-at-times : goal.returns-else-at-times
returns-else-at-times c = ahead_none c.args.times.now c.args.at c.if-at-times.false
