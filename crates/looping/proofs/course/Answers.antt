use mathlib.Core.Path.{refl}
use Rattle.looping.proofs.course.Goals as goal

pub returns : goal.returns
returns c = refl
