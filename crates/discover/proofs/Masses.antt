-- The mass of a column of diffs from -2^31 to 2^31. Whoever calls discover_key with at most 8,192 of them lends what it asks.
--
-- range_mass: at most 2^31 for each diff
use Prim.Native.Nat.{◌*◌, ◌≤◌}
use native.Mathlib.Omega.{arith}
use mathlib.Core.Bool.{true}
use mathlib.Core.List.{List}
use mathlib.Core.Path.{◌≡◌}
use lib.IntN.{ℤ, nat_abs}
use lib.ListN.{length}
use borrow.Author.Tests.{leb-true}
use Rattle.grid.specs.Lists.{every}
use Rattle.grid.specs.Records.{in_range}
use Rattle.grid.proofs.Lists.{All, nil, cons, every_all}
use Rattle.consolidation.specs.Entries.{mass}

mass_most : {ds : List ℤ} → All (λ d. in_range d ≡ true) ds → mass ds ≤ length ds * 2147483648
unfolding mass in_range
mass_most nil = omega arith
mass_most (cons {x = d} e h) = omega (arith, leb-true (nat_abs d) 2147483648 e, mass_most h)

pub range_mass : (ds : List ℤ) → every in_range ds ≡ true → mass ds ≤ length ds * 2147483648
range_mass ds e = mass_most (every_all in_range ds e)
