-- One window's turn: it is searched, its keys' moments and pended times are found, and its rounds are settled.
--
-- most: for how many corrections and pended times there is room. w: the most keys of a window
-- LentWork: the memory of a call's windows. LentFronts: what its first half asks of it
-- Takes: what a window's turn asks. Turned: what it leaves
use Rattle.std.specs.Prelude.{ℕ, suc, ◌+◌, ◌*◌, ◌≤◌, ◌<◌, ◌^◌, true, false, List, map, ◌≡◌, ℤ, length}
use Rattle.grid.specs.Records.{most_records}
use Rattle.rules.specs.Discover.{most_moments}
use Rattle.backends.specs.Columns.{Column}
use Rattle.searches.specs.Searched.{end_from}
use Rattle.finding.specs.Windowed.{pended_row, firsts_of, seconds_of, window_over}
use Rattle.slots.specs.Slots.{window_rows, window_crossings}
use Rattle.fixing.specs.Settle.{LentFixes}
use Rattle.seeking.specs.Sought.{Reached}
use Rattle.progress.specs.declared.Progress.{Progress}
use Rattle.turns.specs.Runs.{Runs, Good, found_of, slot_at}
use Rattle.mending.specs.Corrected.{Mended, Wide}

pub record LentWork (most w : ℕ) (moments uv ut : List ℕ) (ud : List ℤ) (iv : List ℕ) (id : List ℤ) (ov : List ℕ) (od cd : List ℤ) (wv seeds output tracked nk nt fk fv ft : List ℕ) (fd : List ℤ) (res : List ℕ) : Type 0 where
  pub moments_room : w * most_moments < length moments
  pub wide : Wide most uv ut ud iv id ov od cd res
  pub room_wv : most + most ≤ length wv
  pub long_seeds : length seeds ≡ most
  pub long_output : length output ≡ most
  pub long_tracked : length tracked ≡ most + suc most_moments
  pub for_tracked : length tracked ≤ length wv
  pub long_nk : length nk ≡ most
  pub long_nt : length nt ≡ most
  pub lent : LentFixes most fk fv ft fd

-- what the search and discovery ask of it
pub record LentFronts (most : ℕ) (keys seeds uv ut : List ℕ) (ud : List ℤ) (output res tracked moments iv ov wv : List ℕ) (id : List ℤ) (nk nt : List ℕ) (p : Progress) : Type 0 where
  pub keys_few : length keys ≤ 64
  pub room_few : most ≤ most_records
  pub long_seeds : length seeds ≡ most
  pub long_uv : length uv ≡ most + most
  pub long_ut : length ut ≡ most + most
  pub long_ud : length ud ≡ most + most
  pub long_output : length output ≡ most
  pub room_res : 20480 ≤ length res
  pub long_tracked : length tracked ≡ most + suc most_moments
  pub moments_room : length keys * most_moments < length moments
  pub long_iv : length iv ≡ most + most
  pub long_ov : length ov ≡ most + most
  pub room_wv : most + most ≤ length wv
  pub for_tracked : length tracked ≤ length wv
  pub long_id : length id ≡ most + most
  pub long_nk : length nk ≡ most
  pub long_nt : length nt ≡ most
  pub next_few : p.pended ≤ most

pub record Takes (most : ℕ) (R : Runs) (keys : List ℕ) (p : Progress) : Type 0 where
  pub good : Good most R
  pub few : length keys ≤ 64
  pub reached : Reached R.new_keys R.pending_keys R.in_keys R.out_keys keys p
  pub next_few : p.pended ≤ most
  pub fits : p.over ≡ false → p.large ≡ false → p.fixes ≤ most
  pub counts : p.over ≡ false → p.large ≡ false → p.crossings < 2 ^ 60

pub record Turned (most : ℕ) (R : Runs) (mode : ℕ) (keys : List ℕ) (p : Progress) (nk nt fk fv ft : List ℕ) (fd : List ℤ) (nk' nt' fk' fv' ft' : List ℕ) (fd' : List ℤ) (r : Progress) : Type 0 where
  pub new_is : r.new ≡ end_from R.new_keys p.new keys
  pub pending_is : r.pending ≡ end_from R.pending_keys p.pending keys
  pub input_is : r.input ≡ end_from R.in_keys p.input keys
  pub out_is : r.out ≡ end_from R.out_keys p.out keys
  pub over_is : r.over ≡ window_over most p.over p.pended (map (found_of R) keys)
  pub next_few : r.pended ≤ most
  pub next_keys : r.over ≡ false → Column nk p.pended (firsts_of (pended_row keys (map (found_of R) keys))) nk' r.pended
  pub next-times : r.over ≡ false → Column nt p.pended (seconds_of (pended_row keys (map (found_of R) keys))) nt' r.pended
  pub stays_large : p.large ≡ true → r.large ≡ true
  pub settles : r.over ≡ false → p.large ≡ false → Mended most (window_rows mode (map (slot_at R) keys)) (window_crossings mode (map (slot_at R) keys)) p r fk fv ft fd fk' fv' ft' fd'
