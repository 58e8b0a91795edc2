-- A key's correction at a moment as records: "a record is (key, value, time, diff)".
--
-- fix_rows k t c: the correction c of the key k at t
-- RowsListed: records are appended to four columns. Appends: what appending a key's correction asks
use Rattle.std.specs.Prelude.{ℕ, ◌+◌, ◌≤◌, List, map, ◌≡◌, ℤ, length}
use Rattle.grid.specs.Records.{Row}
use Rattle.rules.specs.Backends.{Sums}
use Rattle.backends.specs.Columns.{Column}

abbrev pub fix_row : ℕ → ℕ → ℕ × ℤ → Row
fix_row k t p = record { key = k; value = p.0; time = t; diff = p.1 }

unfoldable pub fix_rows : ℕ → ℕ → Sums → List Row
fix_rows k t c = map (fix_row k t) c

pub record RowsListed (fk₀ fv₀ ft₀ : List ℕ) (fd₀ : List ℤ) (at : ℕ) (new : List Row) (fk fv ft : List ℕ) (fd : List ℤ) (r : ℕ) : Type 0 where
  pub keys : Column fk₀ at (map (λ (x : Row). x.key) new) fk r
  pub values : Column fv₀ at (map (λ (x : Row). x.value) new) fv r
  pub times : Column ft₀ at (map (λ (x : Row). x.time) new) ft r
  pub diffs : Column fd₀ at (map (λ (x : Row). x.diff) new) fd r

pub record Appends (cv : List ℕ) (cd : List ℤ) (fk fv ft : List ℕ) (fd : List ℤ) (at : ℕ) : Type 0 where
  pub same_c : length cd ≡ length cv
  pub same_v : length fv ≡ length fk
  pub same_t : length ft ≡ length fk
  pub same_d : length fd ≡ length fk
  pub room : at + length cv ≤ length fk
