-- What settling the rounds of a window's keys asks.
--
-- most: for how many corrections there is room, as many as the output has records and half as many as the input
-- LentRounds: the memory of the rounds. n corrections are listed so far
-- Slotted: the keys' moments, and their parts of the input and of the old output
use Rattle.std.specs.Prelude.{ℕ, ◌+◌, ◌≤◌, List, ◌≡◌, ℤ, length}
use Rattle.grid.specs.Records.{most_records}
use Rattle.rules.specs.Discover.{most_moments}
use Rattle.backends.specs.Segments.{Cut}
use Rattle.moments.specs.Present.{edits}
use Rattle.moments.specs.Window.{Apart, Orderly}
use Rattle.fixing.specs.Settle.{LentFixes, LentSums}

pub record LentRounds (most : ℕ) (uv ut : List ℕ) (ud : List ℤ) (iv : List ℕ) (id : List ℤ) (ov : List ℕ) (od : List ℤ) (cv : List ℕ) (cd : List ℤ) (marks fk fv ft : List ℕ) (fd : List ℤ) (n : ℕ) : Type 0 where
  pub long_uv : length uv ≡ most + most
  pub long_ut : length ut ≡ most + most
  pub long_ud : length ud ≡ most + most
  pub sums : LentSums most iv ov id od cv cd
  pub long_marks : length marks ≡ most_moments
  pub lent : LentFixes most fk fv ft fd
  pub fits : n ≤ most
  pub room_few : most ≤ most_records

pub record Slotted (most n : ℕ) (moments mends fs es tv tt : List ℕ) (td : List ℤ) (ofs oes ov ot : List ℕ) (od : List ℤ) : Type 0 where
  pub few : n ≤ 64
  pub same_m : length mends ≡ n
  pub cut_m : Cut (λ m. length m ≤ most_moments) moments 0 mends
  pub same_f : length fs ≡ n
  pub same_e : length es ≡ n
  pub same_t : length tt ≡ length tv
  pub same_d : length td ≡ length tv
  pub short : length tv ≤ most + most
  pub apart : Apart (Orderly 8192) (edits tv tt td) 0 fs es
  pub same_of : length ofs ≡ n
  pub same_oe : length oes ≡ n
  pub same_ot : length ot ≡ length ov
  pub same_od : length od ≡ length ov
  pub out_few : length ov ≤ most
  pub out_apart : Apart (Orderly most_records) (edits ov ot od) 0 ofs oes
