-- Loads and advances of edits, in columns that are as long as there are edits.
--
-- loads_all: joined times, consolidated, are a load
-- settles: the columns consolidated with values first are the edits consolidated by (value, time)
-- advances_left, advances_settled: a buffer whose times were joined, where it is consolidated already, and where it was consolidated then
use Prim.Native.Nat.{ℕ, ◌-◌}
use native.Mathlib.Omega.{arith}
use mathlib.Core.Bool.{true, false}
use mathlib.Core.List.{List, [], ◌∷◌, ◌++◌, map, append-nil}
use mathlib.Core.Option.{Option, some}
use mathlib.Core.Path.{◌≡◌, refl, sym, ◌∙◌, ap}
use lib.IntN.{ℤ, pos}
use lib.ListN.{length, drop, length-map, drop_of_length-le}
use Rattle.grid.specs.Consolidate.{consolidate}
use Rattle.grid.specs.Lists.{padded}
use Rattle.grid.specs.Times.{join, joined}
use Rattle.grid.specs.Slices.{laid}
use Rattle.grid.proofs.Slices.{laid_fits}
use Rattle.consolidation.specs.Entries as Consolidated
use Rattle.consolidation.specs.Entries.{first, second, diff, entries, consolidated, sorted_places, Front, Lent, LentWork}
use Rattle.rules.specs.Histories.{Edit, time_of, value_of, by_value, joined_edit, load_edits, advance_edits}
use Rattle.edits.specs.Edits.{edits, Alike, is_consolidated}
use Rattle.edits.specs.Buffers.{LoadsAll, already_settled, AdvancesAll}
use Rattle.edits.proofs.Edits.{times-edits, values_edits, diffs-edits, length-edits}
use Rattle.edits.proofs.InOrder.{consolidated-same}
use Rattle.edits.proofs.Swapped.{swapped, swapped_edits, consolidate_swapped, edits-joined}

-- a list laid over a slice as long
laid_all : {A : Type 0} (xs s : List A) → length s ≡ length xs → laid xs s ≡ xs
laid_all xs s e = laid_fits xs s (omega arith) ∙ ap (λ l. xs ++ l) (drop_of_length-le s {i = length xs} (omega arith)) ∙ append-nil xs

pub loads_all : {o : Option ℕ} (ts vs : List ℕ) (ds : List ℤ) (js : List ℕ) {js' places ts' vs' : List ℕ} {ds' : List ℤ} {r : ℕ} → length js ≡ length ts → js' ≡ laid (map (joined o) ts) js
    → Front (consolidated (entries js' vs ds)) (length js') r ts' vs' ds' × (places ≡ sorted_places js' vs) → LoadsAll o ts vs ds js' places ts' vs' ds' r
unfolding edits load_edits
loads_all {o} ts vs ds js {js'} {places} {ts'} {vs'} {ds'} {r} n e f =
    let l : length (map (joined o) ts) ≡ length ts = length-map ts (joined o) in
    let j : js' ≡ map (joined o) ts = e ∙ laid_all (map (joined o) ts) js (omega arith) in
    let g : Front (consolidated (entries (map (joined o) ts) vs ds)) (length (map (joined o) ts)) r ts' vs' ds' = rw j at f.0 in
    record {
      front = rw (← edits-joined o ts vs ds, ← l) g;
      joins_are = j;
      places_are = rw j at f.1;
    }

-- ---- values first
map_swapped_first : (es : List Edit) → map first (map swapped es) ≡ map second es
map_swapped_first [] = refl
map_swapped_first (e ∷ es) = ap (λ l. second e ∷ l) (map_swapped_first es)

map_swapped_second : (es : List Edit) → map second (map swapped es) ≡ map first es
map_swapped_second [] = refl
map_swapped_second (e ∷ es) = ap (λ l. first e ∷ l) (map_swapped_second es)

map_swapped_diff : (es : List Edit) → map diff (map swapped es) ≡ map diff es
map_swapped_diff [] = refl
map_swapped_diff (e ∷ es) = ap (λ l. diff e ∷ l) (map_swapped_diff es)

front_swapped : {es : List Edit} {n r : ℕ} {vs ts : List ℕ} {ds : List ℤ} → Front (map swapped es) n r vs ts ds → Front es n r ts vs ds
front_swapped {es} {n} f = record {
  count_is = f.count_is ∙ length-map es swapped;
  firsts_are = f.seconds_are ∙ ap (padded 0 n) (map_swapped_second es);
  seconds_are = f.firsts_are ∙ ap (padded 0 n) (map_swapped_first es);
  diffs_are = f.diffs_are ∙ ap (padded (pos 0) n) (map_swapped_diff es);
}

-- a buffer that was consolidated with values first
pub settles : (ts vs : List ℕ) (ds : List ℤ) {ts' vs' : List ℕ} {ds' : List ℤ} {r : ℕ} → length vs ≡ length ts → Front (consolidated (entries vs ts ds)) (length vs) r vs' ts' ds' → Front (consolidate by_value (edits ts vs ds)) (length ts) r ts' vs' ds'
unfolding edits
settles ts vs ds {ts'} {vs'} {ds'} {r} n f =
    let g : Front (map swapped (consolidate by_value (edits ts vs ds))) (length vs) r vs' ts' ds' = rw (← consolidate_swapped, ← swapped_edits ts vs ds) f in
    rw (← n) (front_swapped g)

-- ---- an advance of whole columns
-- nothing lies past a whole slice
with_rest : {A : Type 0} (xs s : List A) (n : ℕ) → length s ≡ n → xs ≡ xs ++ drop n s
with_rest xs s n e = sym (ap (λ l. xs ++ l) (drop_of_length-le s {i = n} (omega arith)) ∙ append-nil xs)

padded_full : {A : Type 0} (z : A) {n : ℕ} (xs : List A) → n ≡ length xs → padded z n xs ≡ xs
padded_full z xs e = let k : length xs - length xs ≡ 0 = omega arith in rw (e, k) (append-nil xs)

module _ (p : ℕ) (ts vs : List ℕ) (ds : List ℤ) (a : Lent ts vs ds) {ts₁ : List ℕ} (e : ts₁ ≡ map (join p) ts) where
  advanced_length : length ts₁ ≡ length ts
  advanced_length = ap length e ∙ length-map ts (join p)

  advanced_alike : Alike ts₁ vs ds
  advanced_alike = record { values = a.alike-second ∙ sym advanced_length; diffs = a.alike-diff ∙ sym advanced_length }

  advanced_edits : edits ts₁ vs ds ≡ map (joined_edit (some p)) (edits ts vs ds)
  unfolding joined
  advanced_edits = ap (λ l. edits l vs ds) e ∙ edits-joined (some p) ts vs ds

  -- it is settled already
  pub advances_left : {places firsts seconds : List ℕ} {sums : List ℤ} → true ≡ is_consolidated (edits ts₁ vs ds)
      → AdvancesAll (some p) ts vs ds ts₁ vs ds places firsts seconds sums places firsts seconds sums (length ts₁)
  unfolding advance_edits already_settled time_of value_of
  advances_left t =
      let s : is_consolidated (map (joined_edit (some p)) (edits ts vs ds)) ≡ true = rw (← advanced_edits) (sym t) in
      let c : consolidate by_value (map (joined_edit (some p)) (edits ts vs ds)) ≡ edits ts₁ vs ds = rw (← advanced_edits) (consolidated-same (edits ts₁ vs ds) t) in
      let b = advanced_alike in
      let n = advanced_length in
      let f : Front (edits ts₁ vs ds) (length ts) (length ts₁) ts₁ vs ds = record {
        count_is = sym (length-edits ts₁ vs ds b);
        firsts_are = sym (ap (padded 0 (length ts)) (times-edits ts₁ vs ds b) ∙ padded_full 0 ts₁ (sym n));
        seconds_are = sym (ap (padded 0 (length ts)) (values_edits ts₁ vs ds b) ∙ padded_full 0 vs (sym a.alike-second));
        diffs_are = sym (ap (padded (pos 0) (length ts)) (diffs-edits ts₁ vs ds b) ∙ padded_full (pos 0) ds (sym a.alike-diff));
      } in
      record {
        front = rw c f;
        work = record { places_are = rw s; firsts_are = rw s; seconds_are = rw s; sums_are = rw s };
      }

  pub advances_settled : {ts' vs' : List ℕ} {ds' : List ℤ} {places firsts seconds : List ℕ} {sums : List ℤ} {places' firsts' seconds' : List ℕ} {sums' : List ℤ} {r : ℕ} → LentWork (length ts) places firsts seconds sums
      → false ≡ is_consolidated (edits ts₁ vs ds) → Front (consolidated (entries vs ts₁ ds)) (length vs) r vs' ts' ds' → Consolidated.WorkAfter (sorted_places vs ts₁) vs' ts' ds' places' firsts' seconds' sums'
      → AdvancesAll (some p) ts vs ds ts' vs' ds' places firsts seconds sums places' firsts' seconds' sums' r
  unfolding advance_edits already_settled joined
  advances_settled {ts'} {vs'} {ds'} {places} {firsts} {seconds} {sums} {places'} room t f w =
      let s : is_consolidated (map (joined_edit (some p)) (edits ts vs ds)) ≡ false = rw (← advanced_edits) (sym t) in
      let q : places' ≡ sorted_places vs (map (join p) ts) = w.places_are ∙ ap (sorted_places vs) e in
      record {
        front = rw (← advanced_edits, ← advanced_length) (settles ts₁ vs ds advanced_alike.values f);
        work = record {
          places_are = rw s (q ∙ with_rest (sorted_places vs (map (join p) ts)) places (length ts) room.room_places);
          firsts_are = rw s (w.firsts_same ∙ with_rest vs' firsts (length ts) room.room_first);
          seconds_are = rw s (w.seconds_same ∙ with_rest ts' seconds (length ts) room.room_second);
          sums_are = rw s (w.diffs-same ∙ with_rest ds' sums (length ts) room.room_diff);
        };
      }
