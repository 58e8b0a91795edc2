use lib.ListN.{length, take}
use mathlib.Core.Path.{◌≡◌}
use Rattle.tiles.proofs.Cutting.{Cutting}
use Rattle.tiles.proofs.cut.cut.Given as goal

-- what the iterator still has is the front of the later held times
abbrev pub invariant-loop-t : goal.invariant-loop-t
invariant-loop-t l = (l.t-iterator.iter.rest.now ≡ take (length l.t-iterator.iter.rest.now) l.later) × Cutting l.upper l.later l.initial.f l.f (length l.t-iterator.iter.rest.now) l.count
