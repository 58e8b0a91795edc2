-- Buffers of edits that are advanced: their times are joined, and what is not consolidated then is.
--
-- held_joined: what is asked of a buffer holds where its times are joined
-- advanced_put, advanced_not: the edits were put in, and only the times were joined
-- front_asks, front_settled: what the consolidation of the front asks, and what it leaves
-- edits_settled, edits_left: a buffer that was consolidated after its times were joined, and there was no meet
-- joined_held: a buffer whose times were joined is as large as it was. lent_held, held_lent: the buffer, and other columns, with the scratch
use Rattle.std.specs.Prelude.{Some, None}
use Prim.Native.Nat.{ℕ, zero, suc, ◌-◌, ◌≤◌}
use native.Mathlib.Nat.{sub-zero}
use native.Mathlib.Omega.{arith}
use mathlib.Core.List.{List, [], ◌∷◌, ◌++◌, map}
use mathlib.Core.Option.{Option, none, some}
use mathlib.Core.Path.{◌≡◌, refl, sym, ◌∙◌, ap}
use lib.IntN.{ℤ, nat_abs}
use lib.ListN.{length, take, drop, length-append, length-drop, length-map}
use lib.Seq.{length-take-le, take_at, drop_at}
use Rattle.grid.specs.Consolidate.{consolidate}
use Rattle.grid.specs.Times.{join, joined}
use Rattle.grid.proofs.Sizes as sizes
use Rattle.consolidation.specs.Entries.{entries, consolidated, Front, Lent, LentWork}
use Rattle.rules.specs.Histories.{Edit, by_value, joined_edit, advance_edits}
use Rattle.edits.specs.Edits.{edits, Alike}
use Rattle.edits.specs.Buffers.{LentBuffer}
use Rattle.edits.proofs.Edits.{length-edits, edits-take}
use Rattle.edits.proofs.Buffers.{settles}
use Rattle.edits.proofs.Fronts.{lent_buffer, fronted_within, fronted_take, fronted_drop}
use Rattle.edits.proofs.Masses.{buffer_mass}
use Rattle.advances.specs.Renewed.{Renewed, Held, AdvancedInPlace}

-- ---- times joined
edits-joined_front : (p count : ℕ) (ts vs : List ℕ) (ds : List ℤ) → edits (map (join p) (take count ts) ++ drop count ts) vs ds ≡ map (joined_edit (some p)) (take count (edits ts vs ds)) ++ drop count (edits ts vs ds)
unfolding edits joined_edit joined
edits-joined_front p zero ts vs ds = refl
edits-joined_front p (suc count) [] vs ds = refl
edits-joined_front p (suc count) (t ∷ ts) [] ds = refl
edits-joined_front p (suc count) (t ∷ ts) (v ∷ vs) [] = refl
edits-joined_front p (suc count) (t ∷ ts) (v ∷ vs) (d ∷ ds) = ap (λ l. ((join p t, v), d) ∷ l) (edits-joined_front p count ts vs ds)

-- edits of which the first `count` were joined
module _ (p count : ℕ) (es : List Edit) {es₁ : List Edit} (h : count ≤ length es) (e : es₁ ≡ map (joined_edit (some p)) (take count es) ++ drop count es) where
  joined_length : length (map (joined_edit (some p)) (take count es)) ≡ count
  joined_length = length-map (take count es) (joined_edit (some p)) ∙ length-take-le count es h

  joined-take : take count es₁ ≡ map (joined_edit (some p)) (take count es)
  joined-take = ap (take count) e ∙ take_at (map (joined_edit (some p)) (take count es)) (drop count es) count joined_length

  joined-drop : drop count es₁ ≡ drop count es
  joined-drop = ap (drop count) e ∙ drop_at (map (joined_edit (some p)) (take count es)) (drop count es) count joined_length

  joined-mass : sizes.mass nat_abs (take count es₁) ≡ sizes.mass nat_abs (take count es)
  unfolding joined_edit
  joined-mass = ap (sizes.mass nat_abs) joined-take ∙ sizes.mass-map nat_abs (joined_edit (some p)) (λ y. refl) (take count es)

  -- their consolidation is the advance
  joined_renewed : {es' : List Edit} {r : ℕ} → Renewed (consolidate by_value (take count es₁)) count es₁ es' r → Renewed (advance_edits (some p) (take count es)) count es es' r
  unfolding advance_edits
  joined_renewed m = record { within = m.within; buffer = m.buffer ∙ ap (consolidate by_value) joined-take; same_ahead = m.same_ahead ∙ joined-drop }

module _ (p : ℕ) {count : ℕ} {ts vs : List ℕ} {ds : List ℤ} (a : Held count ts vs ds) {x : List ℕ} (e : x ≡ map (join p) (take (count - 0) ts)) where
  held_within : count ≤ length (edits ts vs ds)
  held_within = rw (length-edits ts vs ds a.alike) a.within

  joined-columns : edits (x ++ drop (count - 0) ts) vs ds ≡ map (joined_edit (some p)) (take count (edits ts vs ds)) ++ drop count (edits ts vs ds)
  joined-columns = ap (λ l. edits (l ++ drop (count - 0) ts) vs ds) e ∙ rw sub-zero (edits-joined_front p count ts vs ds)

  joined_long : length (x ++ drop (count - 0) ts) ≡ length ts
  joined_long =
      let n : length x ≡ length (take (count - 0) ts) = ap length e ∙ length-map (take (count - 0) ts) (join p) in
      let h : count ≤ length ts = a.within in
      let t : length (take (count - 0) ts) ≡ count - 0 = length-take-le (count - 0) ts (omega arith) in
      let d : length (drop (count - 0) ts) ≡ length ts - (count - 0) = length-drop (count - 0) ts in
      length-append x (drop (count - 0) ts) ∙ omega arith

  joined-alike : Alike (x ++ drop (count - 0) ts) vs ds
  joined-alike = record { values = a.alike.values ∙ sym joined_long; diffs = a.alike.diffs ∙ sym joined_long }

  pub held_joined : Held count (x ++ drop (count - 0) ts) vs ds
  held_joined = record { alike = joined-alike; within = rw joined_long a.within; bounded = a.bounded }

  pub advanced_put : {es' : List Edit} {r : ℕ} → Renewed (consolidate by_value (take count (edits (x ++ drop (count - 0) ts) vs ds))) count (edits (x ++ drop (count - 0) ts) vs ds) es' r → AdvancedInPlace p count (edits ts vs ds) es' (Some r)
  advanced_put m = joined_renewed p count (edits ts vs ds) held_within joined-columns m

  pub advanced_not : AdvancedInPlace p count (edits ts vs ds) (edits (x ++ drop (count - 0) ts) vs ds) None
  advanced_not = joined-columns

-- ---- the front consolidated
consolidate_length : (es : List Edit) → length (consolidate by_value es) ≤ length es
consolidate_length es = omega (arith, sizes.mass_consolidate (λ d. 1) sizes.sizing_one by_value es, sizes.mass_one (consolidate by_value es), sizes.mass_one es)

module _ (count : ℕ) {ts vs : List ℕ} {ds : List ℤ} {places firsts seconds : List ℕ} {sums : List ℤ} (a : LentBuffer count ts vs ds places firsts seconds sums) where
  front_times : length (take count ts) ≡ count
  front_times = length-take-le count ts a.within

  front_values : length (take count vs) ≡ count
  front_values = length-take-le count vs (let v = a.alike.values in let w = a.within in omega arith)

  pub front_asks : Lent (take (count - 0) vs) (take (count - 0) ts) (take (count - 0) ds) × LentWork (length (take (count - 0) vs)) (take (count - 0) places) (take (count - 0) firsts) (take (count - 0) seconds) (take (count - 0) sums)
  front_asks =
      let l = lent_buffer count ts vs ds places firsts seconds sums a in
      let s : length (take count vs) ≡ length (take count ts) = l.0.alike-second in
      rw sub-zero (record { alike-second = sym s; alike-diff = l.0.alike-diff ∙ sym s; bounded = l.0.bounded }, rw s l.1)

  pub front_settled : {x y : List ℕ} {z : List ℤ} {r : ℕ} → Front (consolidated (entries (take (count - 0) vs) (take (count - 0) ts) (take (count - 0) ds))) (length (take (count - 0) vs)) r y x z
      → Renewed (consolidate by_value (take count (edits ts vs ds))) count (edits ts vs ds) (edits (x ++ drop (count - 0) ts) (y ++ drop (count - 0) vs) (z ++ drop (count - 0) ds)) r
  front_settled {x} {y} {z} {r} f =
      let g : Front (consolidated (entries (take count vs) (take count ts) (take count ds))) (length (take count vs)) r y x z = rw sub-zero at f in
      let s : Front (consolidate by_value (edits (take count ts) (take count vs) (take count ds))) (length (take count ts)) r x y z = settles (take count ts) (take count vs) (take count ds) (front_values ∙ sym front_times) g in
      let w : Front (consolidate by_value (take count (edits ts vs ds))) count r x y z = rw (edits-take ts vs ds a.alike count, front_times) at s in
      let l : length (edits ts vs ds) ≡ length ts = length-edits ts vs ds a.alike in
      let i : count ≤ length ts = a.within in
      let n : length (take count (edits ts vs ds)) ≡ count = length-take-le count (edits ts vs ds) (omega arith) in
      let h : length (consolidate by_value (take count (edits ts vs ds))) ≤ count = omega (arith, consolidate_length (take count (edits ts vs ds))) in
      rw sub-zero (record { within = fronted_within count ts vs ds a.alike w h; buffer = fronted_take count ts vs ds a.alike w h; same_ahead = fronted_drop count ts vs ds a.alike w h })

-- ---- the whole
module _ {count : ℕ} {ts vs : List ℕ} {ds : List ℤ} (a : Held count ts vs ds) where
  whole_within : count ≤ length (edits ts vs ds)
  whole_within = rw (length-edits ts vs ds a.alike) a.within

  -- the buffer is as large as it was
  pub joined_held : (p : ℕ) {ts₁ vs₁ : List ℕ} {ds₁ : List ℤ} → Alike ts₁ vs₁ ds₁ → length ts₁ ≡ length ts → AdvancedInPlace p count (edits ts vs ds) (edits ts₁ vs₁ ds₁) None → Held count ts₁ vs₁ ds₁
  joined_held p {ts₁} {vs₁} {ds₁} b l w = record {
    alike = b;
    within = rw l a.within;
    bounded = rw (buffer_mass ts₁ vs₁ ds₁ b count, joined-mass p count (edits ts vs ds) whole_within w, ← buffer_mass ts vs ds a.alike count) a.bounded;
  }

  pub edits_settled : {o : Option ℕ} {p : ℕ} {es₁ es' : List Edit} {r' : ℕ} → o ≡ some p → AdvancedInPlace p count (edits ts vs ds) es₁ None → Renewed (consolidate by_value (take count es₁)) count es₁ es' r'
      → Renewed (advance_edits o (take count (edits ts vs ds))) count (edits ts vs ds) es' r'
  edits_settled {p = p} e w m = rw e (joined_renewed p count (edits ts vs ds) whole_within w m)

-- with the scratch
module _ {count : ℕ} {ts vs : List ℕ} {ds : List ℤ} {places firsts seconds : List ℕ} {sums : List ℤ} (a : LentBuffer count ts vs ds places firsts seconds sums) where
  pub lent_held : Held count ts vs ds
  lent_held = record { alike = a.alike; within = a.within; bounded = a.bounded }

  pub held_lent : {ts₁ vs₁ : List ℕ} {ds₁ : List ℤ} → Held count ts₁ vs₁ ds₁ → LentBuffer count ts₁ vs₁ ds₁ places firsts seconds sums
  held_lent h = record {
    alike = h.alike;
    within = h.within;
    bounded = h.bounded;
    room_places = a.room_places;
    room_firsts = a.room_firsts;
    room_seconds = a.room_seconds;
    room_sums = a.room_sums;
  }

pub edits_left : {o : Option ℕ} {count : ℕ} (E : List Edit) → o ≡ none → Renewed (advance_edits o (take count E)) count E E count
unfolding advance_edits
edits_left E e = record { within = omega arith; buffer = rw e; same_ahead = refl }
