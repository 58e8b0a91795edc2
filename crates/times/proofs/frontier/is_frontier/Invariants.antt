use Rattle.std.proofs.Common.{◌≡◌, drop}
use Rattle.grid.specs.Frontiers.{antichain}
use Rattle.times.proofs.frontier.is_frontier.Given as goal

abbrev pub invariant-loop-i : goal.invariant-loop-i
invariant-loop-i l = antichain (drop l.i l.f) ≡ antichain l.f
