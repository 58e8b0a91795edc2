-- "The replay's place is one small record, stepped in place."
--
-- told p b: the place p and whether anything moved, as a step by value answers them
use Rattle.std.specs.Prelude.{Bool}
use Rattle.histories.specs.declared.Place.{Place}
use Rattle.histories.specs.declared.Stepped.{Stepped}

abbrev pub told : Place → Bool → Stepped
told p b = record { place = p; moved = b }
