-- Sets of times in lent memory, and runs of equals.
--
-- ends_run: the first element is the last of its run of equals
-- Squeezed, Removed: equals were removed. StandsAt, BelongsAt: t is the element at i, or would be there. Inserted: t was put into the first count elements
use Rattle.std.specs.Prelude.{ℕ, ◌≤◌, ◌<◌, Bool, true, not, List, [], ◌∷◌, ◌++◌, ◌≡◌, length, take, drop, get_or}
use Rattle.grid.specs.Lists.{padded}
use Rattle.grid.specs.Times.{put, puts}

unfoldable pub ends_run : {A : Type 0} → (A → A → Bool) → List A → Bool
ends_run same [] = true
ends_run same (x ∷ []) = true
ends_run same (x ∷ y ∷ l) = not (same x y)

pub record Squeezed (entry exit : List ℕ) (r : ℕ) : Type 0 where
  pub fits : r ≤ length entry
  pub front_is : take r exit ≡ puts entry []

-- the set, and zeros after it, up to the length n
pub record Removed (set : List ℕ) (n : ℕ) (exit : List ℕ) (r : ℕ) : Type 0 where
  pub count_is : r ≡ length set
  pub exit_is : exit ≡ padded 0 n set

abbrev pub StandsAt : ℕ → List ℕ → ℕ → Type 0
StandsAt t l i = (i < length l) × (get_or l i 0 ≡ t)

-- what lies before i is less than t, and what lies from there on is greater
pub record BelongsAt (t : ℕ) (l : List ℕ) (i : ℕ) : Type 0 where
  pub within : i ≤ length l
  pub below : (k : ℕ) → k < i → get_or l k 0 < t
  pub above : (k : ℕ) → i ≤ k → k < length l → t < get_or l k 0

-- the set with t, and what lies past it as it was
pub record Inserted (t count : ℕ) (entry exit : List ℕ) (r : ℕ) : Type 0 where
  pub count_is : r ≡ length (put t (take count entry))
  pub exit_is : exit ≡ put t (take count entry) ++ drop r entry
