use Prim.Native.Nat.{◌+◌, ◌-◌, ◌≤◌}
use mathlib.Core.Path.{◌≡◌}
use lib.ListN.{length, drop}
use Rattle.demands.specs.Lending.{heads}
use Rattle.demands.proofs.sizes.count_heads.Given as goal

abbrev pub invariant-loop-i : goal.invariant-loop-i
invariant-loop-i l = (l.n + heads (drop l.i l.keys) ≡ heads l.keys) × (l.n ≤ l.i) × (l.i ≤ length l.keys)
