use Rattle.advances.proofs.Buffers.{front_settled}
use Rattle.advances.proofs.buffer.consolidate_front.Goals as goal

pub returns : goal.returns
returns c = front_settled _ c.requires c.consolidate.ensures.front
