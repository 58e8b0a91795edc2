-- Result memory: six columns of 4,096, 16 tiles, 16 frontier times; and lists laid into it.
--
-- laid_at at xs s: xs over s from the place `at` on; what lies before and past it stays as it was
-- column_at i: where the column i starts. tiles_at, frontier_at: where tiles and frontier start
-- fixes_laid, lists_laid: corrections laid into their four columns; pending entries and a frontier into theirs
-- Wide: how long result memory is. Zeros: it is all zero.
-- emptied, emptied_diffs: slices, all zero
use Rattle.std.specs.Prelude.{ℕ, ◌+◌, ◌*◌, ◌≤◌, min, List, ◌++◌, map, ◌≡◌, ℤ, pos, length, take, drop, replicate}
use Rattle.grid.specs.Records.{most_records}
use Rattle.grid.specs.Frontiers.{most_times}
use Rattle.rules.specs.Call.{Fix}
use Rattle.rules.specs.Memory.{tile_size, numbers_size}

unfoldable pub laid_at : {A : Type 0} → ℕ → List A → List A → List A
laid_at at xs s = take at s ++ (xs ++ drop (at + length xs) s)

abbrev pub column_at : ℕ → ℕ
column_at i = i * most_records

abbrev pub tiles_at : ℕ
tiles_at = column_at 6

abbrev pub frontier_at : ℕ
frontier_at = tiles_at + most_times * tile_size

unfoldable pub fixes_laid : List Fix → List ℕ → List ℕ
fixes_laid fs s =
    laid_at (column_at 3) (map (λ (f : Fix). f.row.time) fs)
    (laid_at (column_at 2) (map (λ (f : Fix). f.row.value) fs)
    (laid_at (column_at 1) (map (λ (f : Fix). f.row.key) fs)
    (laid_at (column_at 0) (map (λ (f : Fix). f.tile) fs) s)))

unfoldable pub lists_laid : List ℕ → List ℕ → List ℕ → List ℕ → List ℕ
lists_laid keys times frontier s = laid_at frontier_at frontier (laid_at (column_at 5) times (laid_at (column_at 4) keys s))

pub record Wide (res : List ℕ) (rd : List ℤ) : Type 0 where
  pub wide_numbers : numbers_size ≤ length res
  pub wide_diffs : most_records ≤ length rd

pub record Zeros (res res' : List ℕ) (rd rd' : List ℤ) : Type 0 where
  pub zero-numbers : res' ≡ replicate (length res) 0
  pub zero-diffs : rd' ≡ replicate (length rd) (pos 0)

-- slices, all zero
abbrev pub emptied : List (List ℕ) → List (List ℕ)
emptied ss = map (λ s. replicate (length s) 0) ss

abbrev pub emptied_diffs : List (List ℤ) → List (List ℤ)
emptied_diffs ss = map (λ s. replicate (length s) (pos 0)) ss
