-- Edits in three columns, which are of one length.
--
-- edits: the edits of the columns of times, values and diffs
-- Alike: the columns are of one length
-- key_of: what an edit is added up by. is_consolidated: edits that ascend strictly by (value, time), without zeros
use Rattle.std.specs.Prelude.{ℕ, Bool, ◌&&◌, not, List, map, ◌≡◌, ℤ, length}
use Rattle.grid.specs.Consolidate.{is_zero}
use Rattle.grid.specs.Lists.{every, ascending}
use Rattle.consolidation.specs.Entries.{entries}
use Rattle.rules.specs.Histories.{Edit, by_value}

unfoldable pub edits : List ℕ → List ℕ → List ℤ → List Edit
edits ts vs ds = entries ts vs ds

pub record Alike (ts vs : List ℕ) (ds : List ℤ) : Type 0 where
  pub values : length vs ≡ length ts
  pub diffs : length ds ≡ length ts

abbrev pub key_of : Edit → ℕ × ℕ
key_of e = e.0

unfoldable pub is_consolidated : List Edit → Bool
is_consolidated es = ascending by_value (map key_of es) && every (λ e. not (is_zero e.1)) es
