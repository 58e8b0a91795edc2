use Rattle.std.proofs.Common.{◌≡◌, ◌-◌, ◌≤◌, drop, ltb}
use Rattle.grid.specs.Consolidate.{lex}
use Rattle.grid.specs.Lists.{ascending}
use Rattle.checks.specs.Checks.{zipped}
use Rattle.checks.proofs.order.pending_ascends.Given as goal

abbrev pub invariant-loop-j : goal.invariant-loop-j
invariant-loop-j l = (1 ≤ l.j) × (ascending (lex ltb ltb) (drop (l.j - 1) (zipped l.p.keys.now l.p.times.now)) ≡ ascending (lex ltb ltb) (zipped l.p.keys.now l.p.times.now))
