-- Columns of values and diffs, and what a function that appends to a column leaves in it.
--
-- entries vs ds: two columns, entry by entry. values_of, diffs_of: the columns of a list of entries
-- Column before at new after r: `new` is written from `at` to r, and what stood before `at` and past r is as it was
-- Appended: the same of a column of values and one of diffs
use Rattle.std.specs.Prelude.{ℕ, ◌+◌, List, [], ◌∷◌, ◌++◌, map, ◌≡◌, ℤ, length, take, drop}
use Rattle.rules.specs.Backends.{Sums}

unfoldable pub entries : List ℕ → List ℤ → Sums
entries [] ds = []
entries (v ∷ vs) [] = []
entries (v ∷ vs) (d ∷ ds) = (v, d) ∷ entries vs ds

abbrev pub values_of : Sums → List ℕ
values_of es = map (λ e. e.0) es

abbrev pub diffs_of : Sums → List ℤ
diffs_of es = map (λ e. e.1) es

pub record Column {A : Type 0} (before : List A) (at : ℕ) (new : List A) (after : List A) (r : ℕ) : Type 0 where
  pub end : r ≡ at + length new
  pub front : take r after ≡ take at before ++ new
  pub past : drop r after ≡ drop r before

pub record Appended (vs₀ : List ℕ) (ds₀ : List ℤ) (at : ℕ) (new : Sums) (vs : List ℕ) (ds : List ℤ) (r : ℕ) : Type 0 where
  pub values : Column vs₀ at (values_of new) vs r
  pub diffs : Column ds₀ at (diffs_of new) ds r
