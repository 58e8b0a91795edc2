use mathlib.Core.Path.{◌∙◌}
use Rattle.histories.proofs.Steps.{slid_copied}
use Rattle.histories.proofs.columns.move_down.Goals as goal

pub returns : goal.returns
returns g c = c.copy_within.ensures.after ∙ slid_copied c.args.s.now c.args.count c.args.at c.args.to c.requires.0 c.requires.1.0 c.requires.1.1
