use Rattle.std.proofs.Common.{◌≡◌}
use Rattle.grid.specs.Times.{meets}
use Rattle.times.specs.Meets.{optional}
use Rattle.times.proofs.optional.meets.Given as goal

abbrev pub invariant-loop-t : goal.invariant-loop-t
invariant-loop-t l = meets l.t-iterator.iter.rest.now (optional l.found) ≡ meets l.ts (optional l.fn.m)
