-- Sets of waiting joins and of pended times, each with room for one more than the limit.
--
-- Set s count: the first `count` of the slice s are a set. Past the limit no more is put in, so a set has at most 1,025
-- Grown ts us l: l is us with all of ts put in; or both have passed the limit
-- Put t s count s' r: t was put into the set of the first `count`
-- Made upper n ts w w' p p': the joins of n with the times ts were put in: those short of upper into w, the others into p
use Rattle.std.specs.Prelude.{ℕ, suc, ◌≤◌, ◌<◌, true, List, [], ◌∷◌, ◌≡◌, ltb, length, take}
use Rattle.grid.specs.Lists.{keep, ascending}
use Rattle.grid.specs.Times.{puts}
use Rattle.grid.specs.Frontiers.{beyond, short_of}
use Rattle.rules.specs.Discover.{most_moments, joins}

pub record Set (s : List ℕ) (count : ℕ) : Type 0 where
  pub few : count ≤ suc most_moments
  pub long : suc most_moments ≤ length s
  pub ascends : ascending ltb (take count s) ≡ true

pub data Grown (ts us l : List ℕ) : Type 0 where
  same : l ≡ puts ts us → Grown ts us l
  over : most_moments < length l → most_moments < length (puts ts us) → Grown ts us l

pub record Put (t : ℕ) (s : List ℕ) (count : ℕ) (s' : List ℕ) (r : ℕ) : Type 0 where
  pub set : Set s' r
  pub grown : Grown (t ∷ []) (take count s) (take r s')

pub record Made (upper : List ℕ) (n : ℕ) (ts w w' p p' : List ℕ) : Type 0 where
  pub waits : Grown (keep (short_of upper) (joins n ts)) w w'
  pub pends : Grown (keep (beyond upper) (joins n ts)) p p'
