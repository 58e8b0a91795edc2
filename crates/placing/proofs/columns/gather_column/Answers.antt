use Rattle.std.proofs.Common.{arith, get_or}
use lib.ListN.{length-map}
use Rattle.placing.proofs.Parts.{part-laid}
use Rattle.placing.proofs.columns.gather_column.Goals as goal

pub returns : goal.returns
returns g c =
    part-laid c.args.res.now c.args.at _ _
    (omega (arith, length-map c.args.places.now (λ place. get_or c.args.src.now place g.T.Entry.ZERO))) c.gather.ensures
