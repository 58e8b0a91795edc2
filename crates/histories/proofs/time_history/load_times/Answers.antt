use Rattle.histories.proofs.Loads.{loads}
use Rattle.times.specs.Meets.{optional}
use Rattle.histories.proofs.time_history.load_times.Goals as goal

pub returns : goal.returns
returns c = loads (optional c.args.m) c.args.src.now c.args.times.now c.args.work.now c.requires.0 c.requires.1 c.copy_joined.ensures c.sort_times.ensures
