-- Segments of columns, laid in a row and given by their ends.
--
-- part f t l: the entries of l from f to t. segments f es l: the parts of l that end at es, the first of them from f on
-- ends k ss: where segments end that are laid in a row from k on. whole: the row
-- Cut P l f es: the ends ascend from f on and stay within l, and P holds of each segment
use Rattle.std.specs.Prelude.{ℕ, ◌+◌, ◌-◌, ◌≤◌, List, [], ◌∷◌, length, take, drop}
use Rattle.grid.specs.Lists.{flat}

module _ {A : Type 0} where
  abbrev pub part : ℕ → ℕ → List A → List A
  part f t l = take (t - f) (drop f l)

  unfoldable pub segments : ℕ → List ℕ → List A → List (List A)
  segments f [] l = []
  segments f (e ∷ es) l = part f e l ∷ segments e es l

  unfoldable pub ends : ℕ → List (List A) → List ℕ
  ends k [] = []
  ends k (s ∷ ss) = (k + length s) ∷ ends (k + length s) ss

  abbrev pub whole : List (List A) → List A
  whole ss = flat (λ s. s) ss

  pub data Cut (P : List A → Type 0) (l : List A) : ℕ → List ℕ → Type 0 where
    done : {f : ℕ} → Cut P l f []
    next : {f e : ℕ} {es : List ℕ} → f ≤ e → e ≤ length l → P (part f e l) → Cut P l e es → Cut P l f (e ∷ es)
