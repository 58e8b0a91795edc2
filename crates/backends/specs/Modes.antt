-- The two reductions, by the number that a request gives.
--
-- mode_number: a mode's number
use Rattle.std.specs.Prelude.{ℕ}
use Rattle.backends.specs.declared.mode.Mode.{Mode}
use Rattle.backends.specs.declared.mode.Mode.TheVariants.{Count, Distinct, Other}

abbrev pub mode_number : Mode → ℕ
mode_number Count = 1
mode_number Distinct = 2
mode_number (Other n) = n
