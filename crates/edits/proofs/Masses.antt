-- How large the diffs of edits are in all. A load and an advance ask for a bound of it; load_mass and advance_mass of the rules say that
-- neither raises it.
--
-- mass_column: the sizes of a column's diffs, added up, are those of its edits. buffer_mass: the same of a buffer
use Prim.Native.Nat.{ℕ, ◌+◌}
use native.Mathlib.Omega.{arith}
use mathlib.Core.List.{List, [], ◌∷◌}
use mathlib.Core.Path.{◌≡◌, refl, ◌∙◌, ap}
use lib.IntN.{ℤ, nat_abs}
use lib.ListN.{take, length-take}
use Rattle.grid.proofs.Sizes.{mass}
use Rattle.consolidation.specs.Entries as columns
use Rattle.edits.specs.Edits.{edits, Alike}
use Rattle.edits.proofs.Edits.{edits-take}

pub mass_column : (ts vs : List ℕ) (ds : List ℤ) → Alike ts vs ds → columns.mass ds ≡ mass nat_abs (edits ts vs ds)
unfolding edits columns.mass
mass_column [] vs [] a = refl
mass_column [] vs (d ∷ ds) a = absurd (omega (arith, a.diffs))
mass_column (t ∷ ts) [] ds a = absurd (omega (arith, a.values))
mass_column (t ∷ ts) (v ∷ vs) [] a = absurd (omega (arith, a.diffs))
mass_column (t ∷ ts) (v ∷ vs) (d ∷ ds) a = ap (λ n. nat_abs d + n) (mass_column ts vs ds (record { values = omega (arith, a.values); diffs = omega (arith, a.diffs) }))

pub buffer_mass : (ts vs : List ℕ) (ds : List ℤ) → Alike ts vs ds → (count : ℕ) → columns.mass (take count ds) ≡ mass nat_abs (take count (edits ts vs ds))
buffer_mass ts vs ds a count =
    mass_column (take count ts) (take count vs) (take count ds) (record { values = simp (length-take, a.values); diffs = simp (length-take, a.diffs) })
    ∙ ap (mass nat_abs) (edits-take ts vs ds a count)
