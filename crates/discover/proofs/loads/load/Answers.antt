use Rattle.discover.proofs.Loadings.{loading}
use Rattle.discover.proofs.loads.load.Goals as goal

pub returns : goal.returns
returns c = loading c.meet_of.result c.meets-m.result c.requires.seedtimes_in_bounds.0 c.requires.seedtimes_in_bounds.1.0 c.meet_of.ensures c.meets-m.ensures c.load_times.ensures c.load_times-2.ensures c.load_edits-count.ensures
