-- Diffs of sums.
--
-- modest: a diff that a difference can be made of, and a sum of 8,192 of them
use Rattle.std.specs.Prelude.{◌≤◌, ◌^◌, ℤ, nat_abs}

abbrev pub modest : ℤ → Type 0
modest d = nat_abs d ≤ 2 ^ 48
