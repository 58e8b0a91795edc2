-- "A key's input and output (with its corrections so far) are summed over times at or below t", over a segment of columns that ascends by value.
--
-- edits vs ts ds: a column of values, one of times and one of diffs, edit by edit
-- Laid: what is asked of a segment. Shows: what showing it asks
use Rattle.std.specs.Prelude.{ℕ, ◌+◌, ◌≤◌, List, [], ◌∷◌, ◌≡◌, leb, ℤ, length}
use Rattle.grid.proofs.Lists.{All}
use Rattle.grid.proofs.Sort.{Sorted}
use Rattle.rules.specs.Histories.{Edit}
use Rattle.diffs.specs.Diffs.{modest}

unfoldable pub edits : List ℕ → List ℕ → List ℤ → List Edit
edits [] ts ds = []
edits (v ∷ vs) [] ds = []
edits (v ∷ vs) (t ∷ ts) [] = []
edits (v ∷ vs) (t ∷ ts) (d ∷ ds) = ((t, v), d) ∷ edits vs ts ds

pub record Laid (vs ts : List ℕ) (ds : List ℤ) : Type 0 where
  pub same_t : length ts ≡ length vs
  pub same_d : length ds ≡ length vs
  pub short : length vs ≤ 8192
  pub ascends : Sorted leb vs
  pub small : All modest ds

pub record Shows (vs ts : List ℕ) (ds : List ℤ) (sv : List ℕ) (sd : List ℤ) (at : ℕ) : Type 0 where
  pub laid : Laid vs ts ds
  pub same : length sd ≡ length sv
  pub room : at + length vs ≤ length sv
