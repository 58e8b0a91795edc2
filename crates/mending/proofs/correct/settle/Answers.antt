use Rattle.mending.proofs.Corrected.{settle_weighs}
use Rattle.mending.proofs.correct.settle.Goals as goal

pub pays_to_replay-requires : goal.pays_to_replay-requires
pays_to_replay-requires c = settle_weighs c.requires.0

pub settle_replayed-requires : goal.settle_replayed-requires
settle_replayed-requires c = c.requires

pub settle_plainly-requires : goal.settle_plainly-requires
settle_plainly-requires c = c.requires
