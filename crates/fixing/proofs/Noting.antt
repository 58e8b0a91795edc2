-- The loop that appends a key's correction as records.
--
-- RowsWriting: of the records of `goal`, `rest` are still to be written. rows_start, rows_more, rows_end: one record written, all
-- Noting: the entries before i are written, and end at k. noting_start, noting_more, noting_end: the loop keeps that. in-*: what a turn asks
use Prim.Native.Nat.{ℕ, ◌+◌, ◌<◌, ◌≤◌}
use native.Mathlib.Omega.{arith}
use mathlib.Core.Path.{◌≡◌, sym, ◌∙◌, ap}
use mathlib.Core.List.{List, [], ◌∷◌, map}
use lib.IntN.{ℤ, pos}
use lib.ListN.{length, drop, get_or, set, drop_of_length-le}
use Rattle.grid.specs.Records.{Row}
use Rattle.grid.proofs.Loops.{drop_more}
use Rattle.backends.specs.Columns.{entries}
use Rattle.backends.proofs.Columns.{length-entries, get_or-entries, Writing, writing_start, writing_more, writing_end}
use Rattle.fixing.specs.Fixes.{fix_row, fix_rows, RowsListed, Appends}

pub record RowsWriting (fk₀ fv₀ ft₀ : List ℕ) (fd₀ : List ℤ) (at : ℕ) (goal : List Row) (fk fv ft : List ℕ) (fd : List ℤ) (k : ℕ) (rest : List Row) : Type 0 where
  pub keys : Writing fk₀ at (map (λ (x : Row). x.key) goal) fk k (map (λ (x : Row). x.key) rest)
  pub values : Writing fv₀ at (map (λ (x : Row). x.value) goal) fv k (map (λ (x : Row). x.value) rest)
  pub times : Writing ft₀ at (map (λ (x : Row). x.time) goal) ft k (map (λ (x : Row). x.time) rest)
  pub diffs : Writing fd₀ at (map (λ (x : Row). x.diff) goal) fd k (map (λ (x : Row). x.diff) rest)

rows_start : (fk fv ft : List ℕ) (fd : List ℤ) (at : ℕ) (goal : List Row) → RowsWriting fk fv ft fd at goal fk fv ft fd at goal
rows_start fk fv ft fd at goal = record {
  keys = writing_start fk at (map (λ (x : Row). x.key) goal);
  values = writing_start fv at (map (λ (x : Row). x.value) goal);
  times = writing_start ft at (map (λ (x : Row). x.time) goal);
  diffs = writing_start fd at (map (λ (x : Row). x.diff) goal);
}

module _ {fk₀ fv₀ ft₀ : List ℕ} {fd₀ : List ℤ} {at : ℕ} {goal : List Row} {fk fv ft : List ℕ} {fd : List ℤ} {k : ℕ} {rest : List Row} (w : RowsWriting fk₀ fv₀ ft₀ fd₀ at goal fk fv ft fd k rest) where
  rows_more : (x : Row) {rest' : List Row} → k < length fk → k < length fv → k < length ft → k < length fd → rest ≡ x ∷ rest'
      → RowsWriting fk₀ fv₀ ft₀ fd₀ at goal (set fk k x.key) (set fv k x.value) (set ft k x.time) (set fd k x.diff) (k + 1) rest'
  rows_more x a b c d e = record {
    keys = writing_more w.keys x.key a (ap (map (λ (x : Row). x.key)) e);
    values = writing_more w.values x.value b (ap (map (λ (x : Row). x.value)) e);
    times = writing_more w.times x.time c (ap (map (λ (x : Row). x.time)) e);
    diffs = writing_more w.diffs x.diff d (ap (map (λ (x : Row). x.diff)) e);
  }

  rows_end : rest ≡ [] → RowsListed fk₀ fv₀ ft₀ fd₀ at goal fk fv ft fd k
  rows_end e = record {
    keys = writing_end w.keys (ap (map (λ (x : Row). x.key)) e);
    values = writing_end w.values (ap (map (λ (x : Row). x.value)) e);
    times = writing_end w.times (ap (map (λ (x : Row). x.time)) e);
    diffs = writing_end w.diffs (ap (map (λ (x : Row). x.diff)) e);
  }

-- ---- the loop
pub record Noting (key t : ℕ) (cv : List ℕ) (cd : List ℤ) (at : ℕ) (fk₀ fv₀ ft₀ : List ℕ) (fd₀ : List ℤ) (fk fv ft : List ℕ) (fd : List ℤ) (i k : ℕ) : Type 0 where
  pub asks : Appends cv cd fk₀ fv₀ ft₀ fd₀ at
  pub within : i ≤ length cv
  pub even : k ≡ at + i
  pub rows : RowsWriting fk₀ fv₀ ft₀ fd₀ at (fix_rows key t (entries cv cd)) fk fv ft fd k (fix_rows key t (drop i (entries cv cd)))

pub noting_start : {cv : List ℕ} {cd : List ℤ} {fk fv ft : List ℕ} {fd : List ℤ} {at : ℕ} (key t : ℕ) → Appends cv cd fk fv ft fd at → Noting key t cv cd at fk fv ft fd fk fv ft fd 0 at
noting_start {cv} {cd} {fk} {fv} {ft} {fd} {at} key t a = record { asks = a; within = omega arith; even = omega arith; rows = rows_start fk fv ft fd at (fix_rows key t (entries cv cd)) }

module _ {key t : ℕ} {cv : List ℕ} {cd : List ℤ} {at : ℕ} {fk₀ fv₀ ft₀ : List ℕ} {fd₀ : List ℤ} {fk fv ft : List ℕ} {fd : List ℤ} {i k : ℕ}
    (m : Noting key t cv cd at fk₀ fv₀ ft₀ fd₀ fk fv ft fd i k) where
  module _ (h : i < length cv) where
    pub in_diffs_lem : i < length cd
    in_diffs_lem = let e : length cd ≡ length cv = m.asks.same_c in omega arith

    room : k < length fk₀
    room = let r : at + length cv ≤ length fk₀ = m.asks.room in let e : k ≡ at + i = m.even in omega arith

    pub in_fk : k < length fk
    in_fk = let r : k < length fk₀ = room in let s : length fk ≡ length fk₀ = m.rows.keys.same in omega arith

    pub in_fv : k < length fv
    in_fv = let r : k < length fk₀ = room in let s : length fv ≡ length fv₀ = m.rows.values.same in let q : length fv₀ ≡ length fk₀ = m.asks.same_v in omega arith

    pub in_ft : k < length ft
    in_ft = let r : k < length fk₀ = room in let s : length ft ≡ length ft₀ = m.rows.times.same in let q : length ft₀ ≡ length fk₀ = m.asks.same_t in omega arith

    pub in_fd : k < length fd
    in_fd = let r : k < length fk₀ = room in let s : length fd ≡ length fd₀ = m.rows.diffs.same in let q : length fd₀ ≡ length fk₀ = m.asks.same_d in omega arith

    pub noting_more : (d : ℤ) → d ≡ get_or cd i (pos 0) → Noting key t cv cd at fk₀ fv₀ ft₀ fd₀ (set fk k key) (set fv k (get_or cv i 0)) (set ft k t) (set fd k d) (i + 1) (k + 1)
    unfolding fix_rows
    noting_more d q =
        let e : k ≡ at + i = m.even in
        let l : length (entries cv cd) ≡ length cv = length-entries cv cd m.asks.same_c in
        let s : drop i (entries cv cd) ≡ (get_or cv i 0, d) ∷ drop (i + 1) (entries cv cd) =
        drop_more (entries cv cd) i (0, pos 0) (omega arith) ∙ ap (λ z. z ∷ drop (i + 1) (entries cv cd)) (get_or-entries cv cd i m.asks.same_c ∙ ap (λ z. (get_or cv i 0, z)) (sym q)) in
        record {
          asks = m.asks;
          within = omega arith;
          even = omega arith;
          rows = rows_more m.rows (fix_row key t (get_or cv i 0, d)) in_fk in_fv in_ft in_fd (ap (map (fix_row key t)) s);
        }

  pub noting_end : length cv ≤ i → RowsListed fk₀ fv₀ ft₀ fd₀ at (fix_rows key t (entries cv cd)) fk fv ft fd k
  unfolding fix_rows
  noting_end h =
      let l : length (entries cv cd) ≡ length cv = length-entries cv cd m.asks.same_c in
      rows_end m.rows (ap (map (fix_row key t)) (drop_of_length-le (entries cv cd) {i = i} (omega arith)))
