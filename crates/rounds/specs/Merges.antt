-- A key's output with a round's correction: both ascend by value, and so does what they are merged to.
--
-- by_value: whether an edit's value is at most another's
-- merged: the edits of a segment and the correction at t, ascending by value, the segment's edits first where values are equal
-- Merges: what a merge asks. Rows: what it leaves in its three columns
-- Lays: what appending edits asks
use Rattle.std.specs.Prelude.{ℕ, ◌+◌, ◌≤◌, Bool, List, ◌++◌, map, ◌≡◌, leb, ℤ, length}
use Rattle.grid.specs.Lists.{sort}
use Rattle.grid.proofs.Sort.{Sorted}
use Rattle.rules.specs.Histories.{Edit, time_of, value_of}
use Rattle.rules.specs.Backends.{Sums}
use Rattle.rules.specs.Retire.{dated}
use Rattle.backends.specs.Columns.{Column}

abbrev pub by_value : Edit → Edit → Bool
by_value e f = leb (value_of e) (value_of f)

unfoldable pub merged : List Edit → ℕ → Sums → List Edit
merged es t c = sort by_value (es ++ dated t c)

pub record Merges (uv ut : List ℕ) (ud : List ℤ) (cv : List ℕ) (cd : List ℤ) (yv yt : List ℕ) (yd : List ℤ) (at : ℕ) : Type 0 where
  pub same_ut : length ut ≡ length uv
  pub same_ud : length ud ≡ length uv
  pub same_cd : length cd ≡ length cv
  pub same_yt : length yt ≡ length yv
  pub same_yd : length yd ≡ length yv
  pub room : at + length uv + length cv ≤ length yv
  pub ascends_u : Sorted leb uv
  pub ascends_c : Sorted leb cv

pub record Rows (yv₀ yt₀ : List ℕ) (yd₀ : List ℤ) (at : ℕ) (new : List Edit) (yv yt : List ℕ) (yd : List ℤ) (r : ℕ) : Type 0 where
  pub values : Column yv₀ at (map value_of new) yv r
  pub times : Column yt₀ at (map time_of new) yt r
  pub diffs : Column yd₀ at (map (λ (e : Edit). e.1) new) yd r

pub record Lays (vs ts : List ℕ) (ds : List ℤ) (yv yt : List ℕ) (yd : List ℤ) (at : ℕ) : Type 0 where
  pub same_t : length ts ≡ length vs
  pub same_d : length ds ≡ length vs
  pub same_yt : length yt ≡ length yv
  pub same_yd : length yd ≡ length yv
  pub room : at + length vs ≤ length yv
