-- The meets of a list that goes by its last element.
--
-- meets_push: the meet of the last element and a meet is passed on to the others
use Prim.Native.Nat.{ℕ}
use mathlib.Core.List.{List, [], ◌∷◌, ◌++◌}
use mathlib.Core.Option.{Option, some}
use mathlib.Core.Path.{◌≡◌, refl, ap}
use Rattle.grid.specs.Times.{meet_onto, meets}

pub meets_push : (ts : List ℕ) (t : ℕ) (o : Option ℕ) → meets (ts ++ t ∷ []) o ≡ meets ts (some (meet_onto t o))
unfolding meets
meets_push [] t o = refl
meets_push (u ∷ ts) t o = ap (λ m. some (meet_onto u m)) (meets_push ts t o)
