use Rattle.intake.proofs.Memory.{zeros_length, zeros_suffice}
use Rattle.vectors.proofs.agrees.Goals as goal

pub slice_bounds-is_answered-end-2 : goal.slice_bounds-is_answered-end-2
slice_bounds-is_answered-end-2 g c = zeros_length 559239

pub slice_bounds-is_answered-end-3 : goal.slice_bounds-is_answered-end-3
slice_bounds-is_answered-end-3 g c = zeros_length 559238

pub is_answered-requires : goal.is_answered-requires
is_answered-requires g c = zeros_suffice 559238
