use Rattle.discover.proofs.Loadings.{meets_appended}
use Rattle.discover.proofs.loads.append_meets.Goals as goal

pub returns-clause-column_after : goal.returns-clause-column_after
returns-clause-column_after c = meets_appended c.args.at c.args.count c.args.times.now c.args.column.now c.requires.0 c.requires.1 c.suffix_meets.ensures
