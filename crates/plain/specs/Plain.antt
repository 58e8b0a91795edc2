-- "A key's input and output (with its corrections so far) are summed over times at or below t; if both are empty the key is skipped." The rounds of a
-- key by plain sums.
--
-- most: for how many corrections there is room
-- TurnAsks: what a round asks. Its output, with its corrections so far, are the first n edits of three columns
-- TurnDone mode k t input output: the round of the key k at t is done. TurnOver: with it the corrections are too large
-- MergesBack: what merging a round's correction into the output asks. MergedBack: what it leaves
-- KeyAsks: what all rounds of a key ask
use Rattle.std.specs.Prelude.{ℕ, ◌+◌, ◌≤◌, true, false, List, map, ◌≡◌, leb, ℤ, length, take}
use Rattle.grid.specs.Records.{most_records}
use Rattle.grid.proofs.Sort.{Sorted}
use Rattle.rules.specs.Histories.{Edit, value_of}
use Rattle.rules.specs.Backends.{Sums}
use Rattle.rules.specs.Discover.{most_moments}
use Rattle.rules.specs.Retire.{round_at}
use Rattle.moments.specs.Present.{edits}
use Rattle.moments.specs.Window.{Orderly}
use Rattle.rounds.specs.Merges.{merged}
use Rattle.slots.specs.Slots.{rows_in, rows_too_large}
use Rattle.fixing.specs.Settle.{Listed, LentFixes, LentSums}
use Rattle.fixing.specs.Windows.{LentRounds}
use Rattle.plain.specs.declared.Turn.{Turn}

-- n is at most as many as the old output may have, with the corrections
pub record TurnAsks (most : ℕ) (vs ts : List ℕ) (ds : List ℤ) (n : ℕ) (uv ut : List ℕ) (ud : List ℤ) (iv : List ℕ) (id : List ℤ) (ov : List ℕ) (od : List ℤ) (cv : List ℕ) (cd : List ℤ) (fk fv ft : List ℕ) (fd : List ℤ) (fixes : ℕ) : Type 0 where
  pub same_t : length ts ≡ length vs
  pub same_d : length ds ≡ length vs
  pub short : length vs ≤ most + most
  pub input : Orderly 8192 (edits vs ts ds)
  pub long_uv : length uv ≡ most + most
  pub long_ut : length ut ≡ most + most
  pub long_ud : length ud ≡ most + most
  pub within : n ≤ most + fixes
  pub output : Orderly (most_records + fixes) (take n (edits uv ut ud))
  pub sums : LentSums most iv ov id od cv cd
  pub lent : LentFixes most fk fv ft fd
  pub fits : fixes ≤ most
  pub room_few : most ≤ most_records

pub record TurnDone (most mode k t : ℕ) (input output : List Edit) (n fixes : ℕ) (r : Turn) (uv ut : List ℕ) (ud : List ℤ) (fk₀ fv₀ ft₀ : List ℕ) (fd₀ : List ℤ) (fk fv ft : List ℕ) (fd : List ℤ) : Type 0 where
  pub crossed_is : r.crossed ≡ (round_at mode input output t).crossed
  pub listed : Listed most (rows_in k (round_at mode input output t)) fixes false r.fixes fk₀ fv₀ ft₀ fd₀ fk fv ft fd
  pub output_is : take r.output (edits uv ut ud) ≡ merged output t (round_at mode input output t).fixes
  pub within : r.output ≤ most + r.fixes
  pub orderly : Orderly (most_records + r.fixes) (take r.output (edits uv ut ud))

abbrev pub TurnOver : ℕ → ℕ → ℕ → ℕ → List Edit → List Edit → ℕ → Type 0
TurnOver most mode k t input output fixes = rows_too_large most fixes (rows_in k (round_at mode input output t)) ≡ true

pub record MergesBack (n : ℕ) (cv : List ℕ) (cd : List ℤ) (uv ut : List ℕ) (ud : List ℤ) (yv yt : List ℕ) (yd : List ℤ) : Type 0 where
  pub same_cd : length cd ≡ length cv
  pub long_ut : length ut ≡ length uv
  pub long_ud : length ud ≡ length uv
  pub long_yv : length yv ≡ length uv
  pub long_yt : length yt ≡ length uv
  pub long_yd : length yd ≡ length uv
  pub room : n + length cv ≤ length uv
  pub ascends_u : Sorted leb (map value_of (take n (edits uv ut ud)))
  pub ascends_c : Sorted leb cv

pub record MergedBack (t : ℕ) (output : List Edit) (c : Sums) (uv ut : List ℕ) (ud : List ℤ) (r : ℕ) : Type 0 where
  pub output_is : take r (edits uv ut ud) ≡ merged output t c
  pub count_is : r ≡ length output + length c

pub record KeyAsks (most : ℕ) (moments vs ts : List ℕ) (ds : List ℤ) (n : ℕ) (uv ut : List ℕ) (ud : List ℤ) (iv : List ℕ) (id : List ℤ) (ov : List ℕ) (od : List ℤ) (cv : List ℕ) (cd : List ℤ) (marks fk fv ft : List ℕ) (fd : List ℤ) (fixes : ℕ) : Type 0 where
  pub few : length moments ≤ most_moments
  pub same_t : length ts ≡ length vs
  pub same_d : length ds ≡ length vs
  pub short : length vs ≤ most + most
  pub input : Orderly 8192 (edits vs ts ds)
  pub within : n ≤ most
  pub output : Orderly most_records (take n (edits uv ut ud))
  pub memory : LentRounds most uv ut ud iv id ov od cv cd marks fk fv ft fd fixes
