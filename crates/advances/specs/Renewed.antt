-- What an advance leaves of a buffer that stands at the front of a column, and what it asks.
--
-- Renewed b count col col' r: of the first `count` entries of the column r are left, and they are b; from `count` on it is as it was
-- Held count ts vs ds: the first `count` edits of the columns are a buffer, and its diffs are small in all
-- Open k ts vs ds d: the first k edits of the columns are consolidated, there is room for one more, and with the diff d the diffs are small in all
-- Divides key k es j: of the first k edits those up to j are before the key, and the others are not
-- stands_at ts vs k j t v: the edit at j is one of the first k, and is of this time and value
-- Follows i es: the edit at i is after all before it
-- AdvancedInPlace p count es es' left: the buffer was advanced by p, and some are left; or only its times were joined
use Rattle.std.specs.Prelude.{Option, Some, None, ℕ, ◌+◌, ◌≤◌, ◌<◌, Bool, true, false, ◌&&◌, List, ◌++◌, map, ◌≡◌, eqb, ltb, ℤ, nat_abs, length, take, drop, get_or}
use Rattle.std.proofs.Math.Option.{some}
use Rattle.grid.proofs.Consolidate.{Canon}
use Rattle.grid.proofs.Lists.{All}
use Rattle.grid.proofs.Sizes as sizes
use Rattle.consolidation.specs.Entries.{mass, most_mass}
use Rattle.rules.specs.Histories.{Edit, by_value, joined_edit, advance_edits}
use Rattle.edits.specs.Edits.{edits, Alike, key_of}
use Rattle.edits.specs.Buffers.{no_edit}

pub record Renewed {A : Type 0} (b : List A) (count : ℕ) (col col' : List A) (r : ℕ) : Type 0 where
  pub within : r ≤ count
  pub buffer : take r col' ≡ b
  pub same_ahead : drop count col' ≡ drop count col

pub record Held (count : ℕ) (ts vs : List ℕ) (ds : List ℤ) : Type 0 where
  pub alike : Alike ts vs ds
  pub within : count ≤ length ts
  pub bounded : mass (take count ds) ≤ most_mass

pub record Open (k : ℕ) (ts vs : List ℕ) (ds : List ℤ) (d : ℤ) : Type 0 where
  pub alike : Alike ts vs ds
  pub room : k < length ts
  pub canon : Canon by_value (take k (edits ts vs ds))
  pub bounded : sizes.mass nat_abs (take k (edits ts vs ds)) + nat_abs d ≤ most_mass

pub record Divides (key : ℕ × ℕ) (k : ℕ) (es : List Edit) (j : ℕ) : Type 0 where
  pub within : j ≤ k
  pub before : All (λ (e : Edit). by_value (key_of e) key ≡ true) (take j (take k es))
  pub after : All (λ (e : Edit). by_value (key_of e) key ≡ false) (drop j (take k es))

unfoldable pub stands_at : List ℕ → List ℕ → ℕ → ℕ → ℕ → ℕ → Bool
stands_at ts vs k j t v = ltb j k && (eqb (get_or ts j 0) t && eqb (get_or vs j 0) v)

abbrev pub Follows : ℕ → List Edit → Type 0
Follows i es = All (λ (e : Edit). by_value (key_of e) (key_of (get_or es i no_edit)) ≡ true) (take i es)

abbrev pub AdvancedInPlace : ℕ → ℕ → List Edit → List Edit → Option ℕ → Type 0
AdvancedInPlace p count es es' (Some r) = Renewed (advance_edits (some p) (take count es)) count es es' r
AdvancedInPlace p count es es' None = es' ≡ map (joined_edit (some p)) (take count es) ++ drop count es
