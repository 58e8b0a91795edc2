-- The meets of the moments that are left.
--
-- meet_of: the meet of a list of times, 0 where there is none. meets_of: of a list from each of its times on
use Rattle.std.specs.Prelude.{ℕ, List, [], ◌∷◌}
use Rattle.std.proofs.Math.Option.{none}
use Rattle.grid.specs.Times.{meet_onto, meets}

unfoldable pub meet_of : List ℕ → ℕ
meet_of [] = 0
meet_of (t ∷ ts) = meet_onto t (meets ts none)

unfoldable pub meets_of : List ℕ → List ℕ
meets_of [] = []
meets_of (t ∷ ts) = meet_of (t ∷ ts) ∷ meets_of ts
