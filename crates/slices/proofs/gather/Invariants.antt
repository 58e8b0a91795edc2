use Rattle.std.proofs.Common.{◌≡◌, ◌++◌, map, take, drop, get_or}
use Rattle.slices.proofs.gather.Given as goal

abbrev pub invariant-loop-i : goal.invariant-loop-i
invariant-loop-i g l = take l.i l.dst ++ map (λ place. get_or l.src place g.T.Entry.ZERO) (drop l.i l.places) ≡ map (λ place. get_or l.src place g.T.Entry.ZERO) l.places
