-- What a lent slice holds after a list was written to its front.
--
-- laid xs s: xs over the front of s, as much of it as s has room for; what lies past it stays as it was
-- Laid xs s s' r: s' is s with the r elements of xs laid over its front
use Rattle.std.specs.Prelude.{ℕ, List, ◌++◌, ◌≡◌, length, take, drop}

unfoldable pub laid : {A : Type 0} → List A → List A → List A
laid xs s = take (length s) (xs ++ drop (length xs) s)

pub record Laid {A : Type 0} (xs s s' : List A) (r : ℕ) : Type 0 where
  pub counted : r ≡ length xs
  pub holds : s' ≡ laid xs s
