use native.Mathlib.Omega.{arith}
use Rattle.placing.proofs.Parts.{part_front}
use Rattle.placing.proofs.columns.put_column.Goals as goal

pub returns : goal.returns
returns c = part_front c.args.res.now c.args.at c.args.src.now _ (omega arith) c.requires c.copy.ensures
