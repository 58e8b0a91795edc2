-- What an answer tells, as a reader of `form` says it, and what the columns hold once the lines are read.
--
-- row_of, pair_of: the value that an entry stands for
-- Counted s p from x: the lines that p reads from a place on, at most 512, are counted
-- Stands s p got x: the lines of a section are those of the list `got`. SectionsStand: so it is of each kind
-- RowsRead, PairsRead: lines were stored from the first entry of the columns on; the entries after them are as they were
-- RowsStored, PairsStored: the same, and the entries after them are zero
use Rattle.std.specs.Prelude.{ℕ, ◌≤◌, ◌≡◌, List, map, drop, length, ℤ, pos}
use Rattle.std.proofs.lemmas.List.Edits.{sets}
use Rattle.grid.specs.Lists.{padded}
use Rattle.grid.specs.Records.{Row}
use Rattle.form.specs.Text.{ascii}
use Rattle.form.specs.Read.{Reader, most_lines, the_row, row, pair, line, many, Sections}
use Rattle.records.specs.declared.Record.{Record}
use Rattle.records.specs.declared.Pending.{Pending}
use Rattle.records.specs.declared.Section.{Section}
use Rattle.records.specs.declared.Lines.{Lines}

abbrev pub row_of : Record → Row
row_of r = the_row r.key.0 r.value.0 r.time.0 r.diff

abbrev pub pair_of : Pending → ℕ × ℕ
pair_of p = (p.key.0, p.time.0)

pub record Counted {A : Type 0} (s : List ℕ) (p : Reader A) (from : ℕ) (x : Section) : Type 0 where
  pub first_is : x.first ≡ from
  pub counted : x.count ≡ length (many p most_lines (drop from s)).0
  pub after : drop x.next s ≡ (many p most_lines (drop from s)).1

pub record Stands {A : Type 0} (s : List ℕ) (p : Reader A) (got : List A) (x : Section) : Type 0 where
  pub few : x.count ≤ most_lines
  pub counted : x.count ≡ length got
  pub lines : (many p x.count (drop x.first s)).0 ≡ got

pub record SectionsStand (s : List ℕ) (got : Sections) (x : Lines) : Type 0 where
  pub old : Stands s (line (ascii "old=") row) got.old x.old
  pub new : Stands s (line (ascii "new=") row) got.new x.new
  pub out : Stands s (line (ascii "out=") row) got.out x.out
  pub pending : Stands s (line (ascii "pend=") pair) got.pending x.pending
  pub after : drop x.pending.next s ≡ got.rest

pub record RowsRead (rows : List Row) (ks vs ts : List ℕ) (ds : List ℤ) (ks' vs' ts' : List ℕ) (ds' : List ℤ) : Type 0 where
  pub keys : ks' ≡ sets ks 0 (map (λ r. r.key) rows)
  pub values : vs' ≡ sets vs 0 (map (λ r. r.value) rows)
  pub times : ts' ≡ sets ts 0 (map (λ r. r.time) rows)
  pub diffs : ds' ≡ sets ds 0 (map (λ r. r.diff) rows)

pub record PairsRead (ps : List (ℕ × ℕ)) (ks ts ks' ts' : List ℕ) : Type 0 where
  pub keys : ks' ≡ sets ks 0 (map (λ p. p.0) ps)
  pub times : ts' ≡ sets ts 0 (map (λ p. p.1) ps)

pub record RowsStored (rows : List Row) (ks vs ts : List ℕ) (ds : List ℤ) (ks' vs' ts' : List ℕ) (ds' : List ℤ) : Type 0 where
  pub keys : ks' ≡ padded 0 (length ks) (map (λ r. r.key) rows)
  pub values : vs' ≡ padded 0 (length vs) (map (λ r. r.value) rows)
  pub times : ts' ≡ padded 0 (length ts) (map (λ r. r.time) rows)
  pub diffs : ds' ≡ padded (pos 0) (length ds) (map (λ r. r.diff) rows)

pub record PairsStored (ps : List (ℕ × ℕ)) (ks ts ks' ts' : List ℕ) : Type 0 where
  pub keys : ks' ≡ padded 0 (length ks) (map (λ p. p.0) ps)
  pub times : ts' ≡ padded 0 (length ts) (map (λ p. p.1) ps)
