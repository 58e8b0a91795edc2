use Rattle.intake.proofs.Memory.{zeros_length, zeros_suffice}
use Rattle.daniskol.proofs.main.Goals as goal

pub slice_bounds-respond-end-2 : goal.slice_bounds-respond-end-2
slice_bounds-respond-end-2 c = zeros_length 559238

pub respond-requires : goal.respond-requires
respond-requires c = zeros_suffice 559238
