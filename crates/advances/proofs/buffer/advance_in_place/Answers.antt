use Rattle.advances.proofs.Buffers.{advanced_put, advanced_not}
use Rattle.advances.proofs.buffer.advance_in_place.Goals as goal

pub returns-then-count-q-le8 : goal.returns-then-count-q-le8
returns-then-count-q-le8 c = advanced_put c.args.p.0 c.requires c.join_each.ensures c.put_from.ensures

pub returns-else-count-q-le8 : goal.returns-else-count-q-le8
returns-else-count-q-le8 c = advanced_not c.args.p.0 c.requires c.join_each.ensures
