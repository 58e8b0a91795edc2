-- What loads and advances of edits leave.
--
-- no_edit: what stands past a column's edits
-- LoadsAll: the edits of the columns were loaded into columns that are as long. LoadsEdits: into the front of columns es, which become es'
-- already_settled o b: the buffer b needs no consolidation once it is joined with o, or there is none
-- WorkAfter: the work slices after the buffer of the columns ts, vs, ds was advanced by o to ts', vs', ds'. They are used where it had to be consolidated
-- AdvancesAll: all of three columns was advanced. AdvancesEdits: the first `count` edits were
-- LentLoad, LentBuffer: what a load and an advance ask
use Rattle.std.specs.Prelude.{ℕ, ◌≤◌, Bool, true, cond, List, ◌++◌, map, ◌≡◌, ℤ, pos, length, take, drop}
use Rattle.std.proofs.Math.Option.{Option, none, some}
use Rattle.grid.specs.Lists.{padded}
use Rattle.grid.specs.Times.{joined}
use Rattle.consolidation.specs.Entries.{mass, most_mass, sorted_places, Front, Lent}
use Rattle.rules.specs.Histories.{Edit, joined_edit, load_edits, advance_edits}
use Rattle.edits.specs.Edits.{edits, Alike, is_consolidated}

pub record LoadsAll (o : Option ℕ) (ts vs : List ℕ) (ds : List ℤ) (joins places ts' vs' : List ℕ) (ds' : List ℤ) (r : ℕ) : Type 0 where
  pub front : Front (load_edits o (edits ts vs ds)) (length ts) r ts' vs' ds'
  pub joins_are : joins ≡ map (joined o) ts
  pub places_are : places ≡ sorted_places (map (joined o) ts) vs

abbrev pub no_edit : Edit
no_edit = ((0, 0), pos 0)

pub record LoadsEdits (o : Option ℕ) (ts vs : List ℕ) (ds : List ℤ) (es es' : List Edit) (joins joins' places places' : List ℕ) (r : ℕ) : Type 0 where
  pub within : r ≤ length ts
  pub loaded : take r es' ≡ load_edits o (edits ts vs ds)
  pub holds : es' ≡ padded no_edit (length ts) (load_edits o (edits ts vs ds)) ++ drop (length ts) es
  pub joins_are : joins' ≡ map (joined o) ts ++ drop (length ts) joins
  pub places_are : places' ≡ sorted_places (map (joined o) ts) vs ++ drop (length ts) places

unfoldable pub already_settled : Option ℕ → List Edit → Bool
already_settled none b = true
already_settled (some m) b = is_consolidated (map (joined_edit (some m)) b)

pub record WorkAfter (o : Option ℕ) (count : ℕ) (ts vs : List ℕ) (ds : List ℤ) (ts' vs' : List ℕ) (ds' : List ℤ) (places firsts seconds : List ℕ) (sums : List ℤ) (places' firsts' seconds' : List ℕ) (sums' : List ℤ) : Type 0 where
  pub places_are : places' ≡ cond (already_settled o (edits ts vs ds)) places (sorted_places vs (map (joined o) ts) ++ drop count places)
  pub firsts_are : firsts' ≡ cond (already_settled o (edits ts vs ds)) firsts (vs' ++ drop count firsts)
  pub seconds_are : seconds' ≡ cond (already_settled o (edits ts vs ds)) seconds (ts' ++ drop count seconds)
  pub sums_are : sums' ≡ cond (already_settled o (edits ts vs ds)) sums (ds' ++ drop count sums)

pub record AdvancesAll (o : Option ℕ) (ts vs : List ℕ) (ds : List ℤ) (ts' vs' : List ℕ) (ds' : List ℤ) (places firsts seconds : List ℕ) (sums : List ℤ) (places' firsts' seconds' : List ℕ) (sums' : List ℤ) (r : ℕ) : Type 0 where
  pub front : Front (advance_edits o (edits ts vs ds)) (length ts) r ts' vs' ds'
  pub work : WorkAfter o (length ts) ts vs ds ts' vs' ds' places firsts seconds sums places' firsts' seconds' sums'

pub record AdvancesEdits (o : Option ℕ) (count : ℕ) (es es' : List Edit) (r : ℕ) : Type 0 where
  pub within : r ≤ count
  pub buffer : take r es' ≡ advance_edits o (take count es)
  pub holds : es' ≡ padded no_edit count (advance_edits o (take count es)) ++ drop count es
  pub same_ahead : drop count es' ≡ drop count es

-- what a load asks: good columns, and room for as many edits
pub record LentLoad (ts vs : List ℕ) (ds : List ℤ) (joins places ts₀ vs₀ : List ℕ) (ds₀ : List ℤ) : Type 0 where
  pub lent : Lent ts vs ds
  pub alike : Alike ts₀ vs₀ ds₀
  pub room : length ts ≤ length ts₀
  pub room_joins : length ts ≤ length joins
  pub room_places : length ts ≤ length places

-- what an advance asks: columns of one length, and a buffer in them whose diffs are small in all
pub record LentBuffer (count : ℕ) (ts vs : List ℕ) (ds : List ℤ) (places firsts seconds : List ℕ) (sums : List ℤ) : Type 0 where
  pub alike : Alike ts vs ds
  pub within : count ≤ length ts
  pub bounded : mass (take count ds) ≤ most_mass
  pub room_places : count ≤ length places
  pub room_firsts : count ≤ length firsts
  pub room_seconds : count ≤ length seconds
  pub room_sums : count ≤ length sums
