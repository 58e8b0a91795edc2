-- What the functions on frontiers say.
--
-- Inserted t s count s' r: t is inserted into the first `count` times of s, dominated times removed. Where s has no room for one more time, nothing is done
-- under bound ts: the times of a list whose second part is under a bound
-- better ts bound best i: the time at i is under the bound, and earlier than the one at `best` if there is one
-- First ts bound r: the first of the minimal times under a bound stands at r, and the others are the minimal times under its second part
use Rattle.std.specs.Prelude.{ℕ, ◌≤◌, ◌<◌, Bool, ◌&&◌, ◌||◌, List, [], ◌∷◌, ◌≡◌, leb, ltb, length, get_or, take}
use Rattle.grid.specs.Lists.{keep}
use Rattle.grid.specs.Times.{lo}
use Rattle.grid.specs.Frontiers.{inserted, minimal}
use Rattle.grid.specs.Slices.{Laid}

pub record Inserted (t : ℕ) (s : List ℕ) (count : ℕ) (s' : List ℕ) (r : ℕ) : Type 0 where
  pub roomy : count < length s → Laid (inserted t (take count s)) s s' r
  pub full : length s ≤ count → (r ≡ count) × (s' ≡ s)

abbrev pub under : ℕ → List ℕ → List ℕ
under bound ts = keep (λ u. ltb (lo u) bound) ts

abbrev pub better : List ℕ → ℕ → ℕ → ℕ → Bool
better ts bound best i = ltb (lo (get_or ts i 0)) bound && (leb (length ts) best || ltb (get_or ts i 0) (get_or ts best 0))

pub record First (ts : List ℕ) (bound r : ℕ) : Type 0 where
  pub none : length ts ≤ r → minimal (under bound ts) ≡ []
  pub some : r < length ts → minimal (under bound ts) ≡ get_or ts r 0 ∷ minimal (under (lo (get_or ts r 0)) ts)
