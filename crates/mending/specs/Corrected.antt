-- A window's turn, second half: its rounds, unless a limit was passed or the corrections are too large already.
--
-- most: for how many corrections there is room
-- Mended new crossed: `new` are appended to the four columns of corrections and `crossed` rounds are counted, or they are too large
-- Wide: the memory of the rounds. Corrects: what they ask. Corrected: what they leave. Weighs: what choosing between the two ways of settling them asks
use Rattle.std.specs.Prelude.{ℕ, ◌+◌, ◌≤◌, ◌<◌, ◌^◌, true, false, List, ◌≡◌, ℤ, length}
use Rattle.grid.specs.Records.{Row, most_records}
use Rattle.rules.specs.Histories.{Edit}
use Rattle.marks.specs.Marks.{Steps}
use Rattle.slots.specs.Slots.{slots_of, window_rows, window_crossings}
use Rattle.fixing.specs.Settle.{Listed, LentFixes}
use Rattle.fixing.specs.Windows.{Slotted}
use Rattle.progress.specs.declared.Progress.{Progress}

pub record Mended (most : ℕ) (new : List Row) (crossed : ℕ) (p r : Progress) (fk₀ fv₀ ft₀ : List ℕ) (fd₀ : List ℤ) (fk fv ft : List ℕ) (fd : List ℤ) : Type 0 where
  pub listed : Listed most new p.fixes r.large r.fixes fk₀ fv₀ ft₀ fd₀ fk fv ft fd
  pub crossings_are : r.large ≡ false → r.crossings ≡ p.crossings + crossed

-- the columns of the sums, and of the output with its corrections
pub record Wide (most : ℕ) (uv ut : List ℕ) (ud : List ℤ) (iv : List ℕ) (id : List ℤ) (ov : List ℕ) (od cd : List ℤ) (res : List ℕ) : Type 0 where
  pub long_uv : length uv ≡ most + most
  pub long_ut : length ut ≡ most + most
  pub long_ud : length ud ≡ most + most
  pub long_iv : length iv ≡ most + most
  pub long_id : length id ≡ most + most
  pub long_ov : length ov ≡ most + most
  pub long_od : length od ≡ most + most
  pub long_cd : length cd ≡ (most + most) + (most + most)
  pub room_few : most ≤ most_records
  pub room_res : 20480 ≤ length res

pub record Corrects (most : ℕ) (keys moments mends fs es tv tt : List ℕ) (td : List ℤ) (ofs oes ov ot : List ℕ) (od : List ℤ) (fk fv ft : List ℕ) (fd : List ℤ) (p : Progress) : Type 0 where
  pub slotted : p.over ≡ false → Slotted most (length keys) moments mends fs es tv tt td ofs oes ov ot od
  pub few : length keys ≤ 64
  pub lent : LentFixes most fk fv ft fd
  pub fits : p.over ≡ false → p.large ≡ false → p.fixes ≤ most
  pub counts : p.over ≡ false → p.large ≡ false → p.crossings < 2 ^ 60

-- is, os, ms: the slots' input, output and moments
pub record Corrected (most mode : ℕ) (keys : List ℕ) (is os : List (List Edit)) (ms : List (List ℕ)) (p r : Progress) (fk fv ft : List ℕ) (fd : List ℤ) (fk' fv' ft' : List ℕ) (fd' : List ℤ) : Type 0 where
  pub new_same : r.new ≡ p.new
  pub pending_same : r.pending ≡ p.pending
  pub input_same : r.input ≡ p.input
  pub out_same : r.out ≡ p.out
  pub pended_same : r.pended ≡ p.pended
  pub over-same : r.over ≡ p.over
  pub stays_large : p.large ≡ true → r.large ≡ true
  pub settles : p.over ≡ false → p.large ≡ false → Mended most (window_rows mode (slots_of keys is os ms)) (window_crossings mode (slots_of keys is os ms)) p r fk fv ft fd fk' fv' ft' fd'

pub record Weighs (mends fs es ofs oes : List ℕ) : Type 0 where
  pub few : length mends ≤ 64
  pub steps : Steps 0 mends
  pub same_e : length es ≡ length fs
  pub same_oe : length oes ≡ length ofs
