use native.Mathlib.Omega.{arith}
use mathlib.Core.Path.{refl}
use Rattle.wave.proofs.Loading.{lent_load, side_loaded}
use Rattle.wave.proofs.loads.load_side.Goals as goal

pub load_edits-n-requires : goal.load_edits-n-requires
load_edits-n-requires c = lent_load c.requires.alike.0 c.requires.alike.1 c.requires.blank _ _ refl refl

pub returns : goal.returns
returns c = side_loaded c.requires.alike.0 c.requires.alike.1 c.requires.blank _ _ _ (omega arith) c.load_edits-n.ensures (omega arith) (omega arith) c.suffix_meets.ensures
