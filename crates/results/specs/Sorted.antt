-- "Results: corrections ascending by (tile, key, value, time)", in result memory.
--
-- sorted_fixes: corrections of five columns, in that order
-- FirstFixes: the first n corrections of five columns, with room for them. FixesTold: corrections are in result memory
use Rattle.std.specs.Prelude.{ℕ, ◌≤◌, not, List, map, ◌≡◌, ℤ, length}
use Rattle.grid.specs.Lists.{sort}
use Rattle.grid.specs.Records.{most_records}
use Rattle.rules.specs.Call.{Fix, fix_before}
use Rattle.arranging.specs.Arranged.{fixes}
use Rattle.placing.specs.Parts.{laid_at, fixes_laid, Wide}

abbrev pub sorted_fixes : List Fix → List Fix
sorted_fixes fs = sort (λ f g. not (fix_before g f)) fs

pub record FixesTold (tiles keys values times : List ℕ) (diffs : List ℤ) (res res' : List ℕ) (rd rd' : List ℤ) : Type 0 where
  pub columns_are : res' ≡ fixes_laid (sorted_fixes (fixes tiles keys values times diffs)) res
  pub diffs_are : rd' ≡ laid_at 0 (map (λ (f : Fix). f.row.diff) (sorted_fixes (fixes tiles keys values times diffs))) rd

pub record FirstFixes (tiles keys values times : List ℕ) (diffs : List ℤ) (n : ℕ) (places work res : List ℕ) (rd : List ℤ) : Type 0 where
  pub few : n ≤ most_records
  pub in_tiles : n ≤ length tiles
  pub in_keys : n ≤ length keys
  pub in_values : n ≤ length values
  pub in_times : n ≤ length times
  pub in_diffs : n ≤ length diffs
  pub room_places : n ≤ length places
  pub room_work : n ≤ length work
  pub wide : Wide res rd
