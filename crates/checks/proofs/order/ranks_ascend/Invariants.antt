use Rattle.std.proofs.Common.{◌≡◌, ◌-◌, ◌≤◌, drop}
use Rattle.grid.specs.Records.{rank_before}
use Rattle.grid.specs.Lists.{ascending}
use Rattle.checks.specs.Checks.{zipped}
use Rattle.checks.proofs.order.ranks_ascend.Given as goal

abbrev pub invariant-loop-j : goal.invariant-loop-j
invariant-loop-j l = (1 ≤ l.j) × (ascending rank_before (drop (l.j - 1) (zipped l.ks (zipped l.vs l.ts))) ≡ ascending rank_before (zipped l.ks (zipped l.vs l.ts)))
