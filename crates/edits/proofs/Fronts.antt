-- Loads and advances at the front of longer columns, whose parts are lent.
--
-- fronted: what lies at the front of three columns, as edits. fronted_within, fronted_take, fronted_drop: how much that is, what it is, and what lies past it
-- loads_edits: a load of parts. lent_buffer: the parts that an advance lends. advances_edits, advances_nothing: an advance of parts; there is none
use Prim.Native.Nat.{ℕ, zero, suc, ◌-◌, ◌≤◌}
use native.Mathlib.Omega.{arith}
use mathlib.Core.Bool.{Bool, true, false, cond}
use mathlib.Core.List.{List, [], ◌∷◌, ◌++◌, map, append-nil, append_assoc, map-append}
use mathlib.Core.Option.{Option, none, some}
use mathlib.Core.Path.{◌≡◌, refl, sym, ◌∙◌, ap}
use lib.IntN.{ℤ}
use lib.ListN.{length, take, drop, replicate, length-append, length-map, length-replicate, drop_of_length-le, take-append-drop}
use lib.Seq.{length-take-le, take_at, drop_at}
use Rattle.grid.specs.Lists.{padded}
use Rattle.grid.specs.Times.{joined}
use Rattle.grid.proofs.Sizes.{sizing_one, mass_one}
use Rattle.grid.proofs.Operations.{map-drop}
use Rattle.consolidation.specs.Entries.{sorted_places, Front, Lent, LentWork}
use Rattle.rules.specs.Histories.{Edit, time_of, value_of, load_edits, advance_edits}
use Rattle.rules.proofs.Wave.{load_mass, advance_mass}
use Rattle.edits.specs.Edits.{edits, Alike}
use Rattle.edits.specs.Buffers.{no_edit, LoadsAll, LoadsEdits, LentLoad, already_settled, WorkAfter, AdvancesAll, AdvancesEdits, LentBuffer}
use Rattle.edits.proofs.Edits.{diff_of, times-edits, values_edits, diffs-edits, length-edits, edits-map, edits-take}

-- ---- the front of three columns
module _ {B : Type 0} (f : Edit → B) where
  map_fill : (n : ℕ) → replicate n (f no_edit) ≡ map f (replicate n no_edit)
  map_fill zero = refl
  map_fill (suc n) = ap (λ l. f no_edit ∷ l) (map_fill n)

  map_padded : (n : ℕ) (es : List Edit) → padded (f no_edit) n (map f es) ≡ map f (padded no_edit n es)
  map_padded n es = rw (length-map es f, map_fill (n - length es)) (sym (map-append f es (replicate (n - length es) no_edit)))

  column_front : (n : ℕ) (es cols : List Edit) {x col : List B} → x ≡ padded (f no_edit) n (map f es) → map f cols ≡ col → x ++ drop n col ≡ map f (padded no_edit n es ++ drop n cols)
  column_front n es cols p q = rw (← q, ← map-drop f n cols, p, map_padded n es) (sym (map-append f (padded no_edit n es) (drop n cols)))

  column_take : (n : ℕ) (es : List Edit) {x : List B} (rest : List B) → length es ≤ n → x ≡ padded (f no_edit) n (map f es) → take n (x ++ rest) ≡ x
  column_take n es {x} rest h p = take_at x rest n (rw (p, length-append, length-replicate, length-map es f) (omega arith))

module _ (n : ℕ) {es : List Edit} {r : ℕ} (ts vs : List ℕ) (ds : List ℤ) {x y : List ℕ} {z : List ℤ} (a : Alike ts vs ds) (f : Front es n r x y z) (h : length es ≤ n) where
  fronted : edits (x ++ drop n ts) (y ++ drop n vs) (z ++ drop n ds) ≡ padded no_edit n es ++ drop n (edits ts vs ds)
  unfolding time_of value_of
  fronted =
      (λ i. edits (column_front time_of n es (edits ts vs ds) f.firsts_are (times-edits ts vs ds a) i)
      (column_front value_of n es (edits ts vs ds) f.seconds_are (values_edits ts vs ds a) i)
      (column_front diff_of n es (edits ts vs ds) f.diffs_are (diffs-edits ts vs ds a) i))
      ∙ edits-map (padded no_edit n es ++ drop n (edits ts vs ds))

  pub fronted_within : r ≤ n
  fronted_within = omega (arith, f.count_is)

  pub fronted_take : take r (edits (x ++ drop n ts) (y ++ drop n vs) (z ++ drop n ds)) ≡ es
  fronted_take = rw (fronted, append_assoc) (take_at es _ r (sym f.count_is))

  pub fronted_drop : drop n (edits (x ++ drop n ts) (y ++ drop n vs) (z ++ drop n ds)) ≡ drop n (edits ts vs ds)
  fronted_drop = rw fronted (drop_at (padded no_edit n es) (drop n (edits ts vs ds)) n (rw (length-append, length-replicate) (omega arith)))

-- ---- a load
load_length : (o : Option ℕ) (es : List Edit) → length (load_edits o es) ≤ length es
load_length o es = omega (arith, load_mass sizing_one o es, mass_one (load_edits o es), mass_one es)

pub loads_edits : {o : Option ℕ} (ts vs : List ℕ) (ds : List ℤ) (joins places ts₀ vs₀ : List ℕ) (ds₀ : List ℤ) {joins' places' x y : List ℕ} {z : List ℤ} {r : ℕ} → LentLoad ts vs ds joins places ts₀ vs₀ ds₀
    → LoadsAll o ts vs ds joins' places' x y z r
    → LoadsEdits o ts vs ds (edits ts₀ vs₀ ds₀) (edits (x ++ drop (length ts) ts₀) (y ++ drop (length ts) vs₀) (z ++ drop (length ts) ds₀)) joins (joins' ++ drop (length ts) joins) places (places' ++ drop (length ts) places) r
loads_edits {o} ts vs ds joins places ts₀ vs₀ ds₀ {joins'} {places'} a w =
    let b : Alike ts vs ds = record { values = a.lent.alike-second; diffs = a.lent.alike-diff } in
    let h : length (load_edits o (edits ts vs ds)) ≤ length ts = omega (arith, load_length o (edits ts vs ds), length-edits ts vs ds b) in
    record {
      within = fronted_within (length ts) ts₀ vs₀ ds₀ a.alike w.front h;
      loaded = fronted_take (length ts) ts₀ vs₀ ds₀ a.alike w.front h;
      holds = fronted (length ts) ts₀ vs₀ ds₀ a.alike w.front h;
      joins_are = ap (λ l. l ++ drop (length ts) joins) w.joins_are;
      places_are = ap (λ l. l ++ drop (length ts) places) w.places_are;
    }

-- ---- an advance
advance_length : (o : Option ℕ) (es : List Edit) → length (advance_edits o es) ≤ length es
advance_length o es = omega (arith, advance_mass sizing_one o es, mass_one (advance_edits o es), mass_one es)

-- a part that came back, where it was used and where it was not
part_back : {A : Type 0} (b : Bool) (n count : ℕ) (s xs : List A) {x : List A} → n ≡ count → count ≤ length s → x ≡ cond b (take count s) (xs ++ drop n (take count s)) → x ++ drop count s ≡ cond b s (xs ++ drop count s)
part_back {A} b n count s xs {x} e h p = go b p
  where
    go : (b : Bool) → x ≡ cond b (take count s) (xs ++ drop n (take count s)) → x ++ drop count s ≡ cond b s (xs ++ drop count s)
    go true q = rw q (take-append-drop count s)
    go false q =
        let d : drop n (take count s) ≡ [] = drop_of_length-le (take count s) {i = n} (rw (length-take-le count s h) (omega arith)) in
        rw (q, d, append-nil)

module _ (count : ℕ) (ts vs : List ℕ) (ds : List ℤ) (places firsts seconds : List ℕ) (sums : List ℤ) (a : LentBuffer count ts vs ds places firsts seconds sums) where
  buffer_length : length (take count ts) ≡ count
  buffer_length = length-take-le count ts a.within

  pub lent_buffer : Lent (take count ts) (take count vs) (take count ds) × LentWork (length (take count ts)) (take count places) (take count firsts) (take count seconds) (take count sums)
  lent_buffer =
      let n = buffer_length in
      let v : length vs ≡ length ts = a.alike.values in
      let d : length ds ≡ length ts = a.alike.diffs in
      let w : count ≤ length ts = a.within in (
        record { alike-second = length-take-le count vs (omega arith) ∙ sym n; alike-diff = length-take-le count ds (omega arith) ∙ sym n; bounded = a.bounded },
        record {
          room_places = length-take-le count places a.room_places ∙ sym n;
          room_first = length-take-le count firsts a.room_firsts ∙ sym n;
          room_second = length-take-le count seconds a.room_seconds ∙ sym n;
          room_diff = length-take-le count sums a.room_sums ∙ sym n;
        },
      )

  pub advances_nothing : {o : Option ℕ} → o ≡ none → AdvancesEdits o count (edits ts vs ds) (edits ts vs ds) count
      × WorkAfter o count (take count ts) (take count vs) (take count ds) (take count ts) (take count vs) (take count ds) places firsts seconds sums places firsts seconds sums
  unfolding advance_edits already_settled
  advances_nothing e =
      let l : length (edits ts vs ds) ≡ length ts = length-edits ts vs ds a.alike in
      let w : count ≤ length ts = a.within in
      let n : length (take count (edits ts vs ds)) ≡ count = length-take-le count (edits ts vs ds) (omega arith) in
      let z : count - length (take count (edits ts vs ds)) ≡ 0 = omega arith in (
        record { within = omega arith; buffer = rw e; holds = rw (e, z, append-nil) (sym (take-append-drop count (edits ts vs ds))); same_ahead = refl },
        record { places_are = rw e; firsts_are = rw e; seconds_are = rw e; sums_are = rw e },
      )

  module _ {o : Option ℕ} {m : ℕ} {x y : List ℕ} {z : List ℤ} {places' firsts' seconds' : List ℕ} {sums' : List ℤ} {r : ℕ} (e : o ≡ some m)
      (w' : AdvancesAll (some m) (take count ts) (take count vs) (take count ds) x y z (take count places) (take count firsts) (take count seconds) (take count sums) places' firsts' seconds' sums' r) where
    lent_advanced : AdvancesAll o (take count ts) (take count vs) (take count ds) x y z (take count places) (take count firsts) (take count seconds) (take count sums) places' firsts' seconds' sums' r
    lent_advanced = rw e w'

    advanced_front : Front (advance_edits o (take count (edits ts vs ds))) count r x y z
    advanced_front =
        let g : Front (advance_edits o (take count (edits ts vs ds))) (length (take count ts)) r x y z = rw (edits-take ts vs ds a.alike count) at lent_advanced.front in
        rw buffer_length at g

    advanced_within : length (advance_edits o (take count (edits ts vs ds))) ≤ count
    advanced_within =
        let l : length (edits ts vs ds) ≡ length ts = length-edits ts vs ds a.alike in
        let w : count ≤ length ts = a.within in
        let n : length (take count (edits ts vs ds)) ≡ count = length-take-le count (edits ts vs ds) (omega arith) in
        omega (arith, advance_length o (take count (edits ts vs ds)))

    pub advances_edits : AdvancesEdits o count (edits ts vs ds) (edits (x ++ drop count ts) (y ++ drop count vs) (z ++ drop count ds)) r
        × WorkAfter o count (take count ts) (take count vs) (take count ds) (take count (x ++ drop count ts)) (take count (y ++ drop count vs)) (take count (z ++ drop count ds))
        places firsts seconds sums (places' ++ drop count places) (firsts' ++ drop count firsts) (seconds' ++ drop count seconds) (sums' ++ drop count sums)
    unfolding time_of value_of
    advances_edits =
        let h = advanced_within in
        let f = advanced_front in
        let u = lent_advanced.work in
        let b = already_settled o (edits (take count ts) (take count vs) (take count ds)) in (
          record {
            within = fronted_within count ts vs ds a.alike f h;
            buffer = fronted_take count ts vs ds a.alike f h;
            holds = fronted count ts vs ds a.alike f h;
            same_ahead = fronted_drop count ts vs ds a.alike f h;
          },
          record {
            places_are = part_back b (length (take count ts)) count places (sorted_places (take count vs) (map (joined o) (take count ts))) buffer_length a.room_places u.places_are;
            firsts_are = rw (column_take value_of count (advance_edits o (take count (edits ts vs ds))) (drop count vs) h f.seconds_are) (part_back b (length (take count ts)) count firsts y buffer_length a.room_firsts u.firsts_are);
            seconds_are = rw (column_take time_of count (advance_edits o (take count (edits ts vs ds))) (drop count ts) h f.firsts_are) (part_back b (length (take count ts)) count seconds x buffer_length a.room_seconds u.seconds_are);
            sums_are = rw (column_take diff_of count (advance_edits o (take count (edits ts vs ds))) (drop count ds) h f.diffs_are) (part_back b (length (take count ts)) count sums z buffer_length a.room_sums u.sums_are);
          },
        )
