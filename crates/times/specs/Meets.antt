-- The meet that may be absent, as the rules' option.
--
-- Meet: a time, or none
-- optional m: nothing if m is absent, else the time that is present
use Rattle.std.specs.Prelude.{ℕ, Option, Some, None}
use Rattle.std.proofs.Math.Option.{none, some}
use Rattle.std.proofs.Math.Option as Rules
use Rattle.times.specs.declared.time.PackedTime.{PackedTime}

abbrev pub Meet : Type 0
Meet = Option PackedTime

abbrev pub optional : Meet → Rules.Option ℕ
optional None = none
optional (Some t) = some t.0
