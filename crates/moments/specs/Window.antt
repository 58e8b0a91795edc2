-- The keys of a window, whose parts of the columns lie one after another.
--
-- parts_of fs ts l: the parts of l from each of fs to each of ts
-- Apart P l k fs ts: these parts begin at or past k, do not overlap and stay within l, and P holds of each
-- Orderly n: edits that ascend by value, whose diffs are together no larger than those of n records
use Rattle.std.specs.Prelude.{ℕ, ◌*◌, ◌≤◌, ◌^◌, List, [], ◌∷◌, map, leb, nat_abs, length}
use Rattle.grid.proofs.Sort.{Sorted}
use Rattle.grid.proofs.Sizes.{mass}
use Rattle.rules.specs.Histories.{Edit, value_of}
use Rattle.backends.specs.Segments.{part}

module _ {A : Type 0} where
  unfoldable pub parts_of : List ℕ → List ℕ → List A → List (List A)
  parts_of [] ts l = []
  parts_of (f ∷ fs) [] l = []
  parts_of (f ∷ fs) (t ∷ ts) l = part f t l ∷ parts_of fs ts l

  pub data Apart (P : List A → Type 0) (l : List A) : ℕ → List ℕ → List ℕ → Type 0 where
    done : {k : ℕ} → Apart P l k [] []
    next : {k f t : ℕ} {fs ts : List ℕ} → k ≤ f → f ≤ t → t ≤ length l → P (part f t l) → Apart P l t fs ts → Apart P l k (f ∷ fs) (t ∷ ts)

pub record Orderly (n : ℕ) (es : List Edit) : Type 0 where
  pub ascends : Sorted leb (map value_of es)
  pub light : mass nat_abs es ≤ n * 2 ^ 31
