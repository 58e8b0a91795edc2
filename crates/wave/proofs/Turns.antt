-- One step of the wave.
--
-- emits_edit: the emissions of one edit, from its columns
-- lent_edit: what a step asks of the emissions after its advance. counts_on: the count fits. turns: what it leaves
use Prim.Native.Nat.{ℕ, zero, suc, ◌+◌, ◌-◌, ◌≤◌, ◌<◌, ◌^◌}
use native.Mathlib.Omega.{arith}
use mathlib.Core.List.{List, [], ◌∷◌, map}
use mathlib.Core.Option.{none}
use mathlib.Core.Path.{◌≡◌, refl, sym, ◌∙◌, ap, ap₂}
use lib.IntN.{ℤ, pos, ◌*ℤ◌}
use lib.ListN.{length, take, drop, get_or, replicate}
use lib.Seq.{length-take-le, drop-drop}
use mir.Syntax.{w64}
use mir.Val.{to_z, of_z}
use Rattle.grid.specs.Times.{join, meets}
use Rattle.grid.proofs.Sizes.{sizing_nat_abs}
use Rattle.grid.proofs.Operations.{map-drop}
use Rattle.consolidation.specs.Entries.{mass}
use Rattle.consolidation.proofs.Laws.{mass-entries}
use Rattle.rules.specs.Histories.{Edit, time_of, value_of, advance_edits}
use Rattle.rules.specs.Wave.{emission, advanced_by}
use Rattle.rules.proofs.Wave.{advance_mass}
use Rattle.histories.specs.declared.Place.{Place}
use Rattle.histories.specs.Places.{history_of, StepsOne}
use Rattle.edits.specs.Edits.{edits, Alike}
use Rattle.edits.specs.Buffers.{no_edit, AdvancesEdits}
use Rattle.edits.proofs.Edits.{diff_of, times-edits, values_edits, diffs-edits, length-edits, edits-take}
use Rattle.emissions.specs.Emissions.{over, most_diff, Pairs}
use Rattle.wave.specs.Turns.{emitted_time, emitted_first, emitted_second, emitted_diff, Emits, LentEdit, LentTurn, Turns}
use Rattle.emissions.proofs.Emissions.{small_back}

-- ---- the columns of one edit's emissions
module _ (e : Edit) where
  emitted_times : (bs : List Edit) → map emitted_time (map (emission e) bs) ≡ map (join (time_of e)) (map time_of bs)
  unfolding emission
  emitted_times [] = refl
  emitted_times (b ∷ bs) = ap (λ l. join (time_of e) (time_of b) ∷ l) (emitted_times bs)

  emitted_firsts : (bs : List Edit) → map emitted_first (map (emission e) bs) ≡ replicate (length bs) (value_of e)
  unfolding emission
  emitted_firsts [] = refl
  emitted_firsts (b ∷ bs) = ap (λ l. value_of e ∷ l) (emitted_firsts bs)

  emitted_seconds : (bs : List Edit) → map emitted_second (map (emission e) bs) ≡ map value_of bs
  unfolding emission
  emitted_seconds [] = refl
  emitted_seconds (b ∷ bs) = ap (λ l. value_of b ∷ l) (emitted_seconds bs)

  emitted_diffs : (bs : List Edit) → map emitted_diff (map (emission e) bs) ≡ map (λ d. e.1 *ℤ d) (map diff_of bs)
  unfolding emission
  emitted_diffs [] = refl
  emitted_diffs (b ∷ bs) = ap (λ l. (e.1 *ℤ diff_of b) ∷ l) (emitted_diffs bs)

edit_at : (ts vs : List ℕ) (ds : List ℤ) → Alike ts vs ds → (i : ℕ) → get_or (edits ts vs ds) i no_edit ≡ ((get_or ts i 0, get_or vs i 0), get_or ds i (pos 0))
unfolding edits
edit_at [] [] [] a i = refl
edit_at [] [] (d ∷ ds) a i = absurd (omega (arith, a.diffs))
edit_at [] (v ∷ vs) ds a i = absurd (omega (arith, a.values))
edit_at (t ∷ ts) [] ds a i = absurd (omega (arith, a.values))
edit_at (t ∷ ts) (v ∷ vs) [] a i = absurd (omega (arith, a.diffs))
edit_at (t ∷ ts) (v ∷ vs) (d ∷ ds) a zero = refl
edit_at (t ∷ ts) (v ∷ vs) (d ∷ ds) a (suc i) = edit_at ts vs ds (record { values = omega (arith, a.values); diffs = omega (arith, a.diffs) }) i

-- the first n edits, and the columns of theirs
module _ (ts vs : List ℕ) (ds : List ℤ) (a : Alike ts vs ds) (n : ℕ) (h : n ≤ length ts) where
  pub front_alike : Alike (take n ts) (take n vs) (take n ds)
  front_alike =
      let v : length vs ≡ length ts = a.values in
      let d : length ds ≡ length ts = a.diffs in
      let e : length (take n ts) ≡ n = length-take-le n ts h in
      record { values = length-take-le n vs (omega arith) ∙ sym e; diffs = length-take-le n ds (omega arith) ∙ sym e }

  front_times : take n ts ≡ map time_of (take n (edits ts vs ds))
  front_times = rw (← edits-take ts vs ds a n) (sym (times-edits (take n ts) (take n vs) (take n ds) front_alike))

  front_values : take n vs ≡ map value_of (take n (edits ts vs ds))
  front_values = rw (← edits-take ts vs ds a n) (sym (values_edits (take n ts) (take n vs) (take n ds) front_alike))

  pub front_diffs : take n ds ≡ map diff_of (take n (edits ts vs ds))
  front_diffs = rw (← edits-take ts vs ds a n) (sym (diffs-edits (take n ts) (take n vs) (take n ds) front_alike))

  front_length : length (take n (edits ts vs ds)) ≡ n
  front_length = length-take-le n (edits ts vs ds) (rw (length-edits ts vs ds a) h)

module _ {ts vs : List ℕ} {ds : List ℤ} {at : ℕ} {us ws : List ℕ} {es : List ℤ} {n count : ℕ} (l : LentEdit ts vs ds at us ws es n count) where
  pub emits_edit : {times firsts seconds times' firsts' seconds' : List ℕ} {diffs diffs' : List ℤ}
      → Pairs (get_or ts at 0) (get_or vs at 0) (to_z w64 (of_z w64 (get_or ds at (pos 0)))) (take n us) (take n ws) (take n es) n count times firsts seconds diffs times' firsts' seconds' diffs'
      → Emits (map (emission (get_or (edits ts vs ds) at no_edit)) (take n (edits us ws es))) count times firsts seconds diffs times' firsts' seconds' diffs'
  unfolding time_of value_of
  emits_edit {times} {firsts} {seconds} {diffs = diffs} w =
      let e : Edit = ((get_or ts at 0, get_or vs at 0), get_or ds at (pos 0)) in
      let bs = take n (edits us ws es) in
      rw (edit_at ts vs ds l.alike at) (record {
        times_are = w.times_are ∙ ap (λ x. over x count times) (ap (map (join (get_or ts at 0))) (front_times us ws es l.other_alike n l.within) ∙ sym (emitted_times e bs));
        firsts_are = w.values_are ∙ ap (λ x. over x count firsts) (ap (λ k. replicate k (get_or vs at 0)) (sym (front_length us ws es l.other_alike n l.within)) ∙ sym (emitted_firsts e bs));
        seconds_are = w.others_are ∙ ap (λ x. over x count seconds) (front_values us ws es l.other_alike n l.within ∙ sym (emitted_seconds e bs));
        diffs_are = w.diffs_are ∙ ap (λ x. over x count diffs) (ap₂ (λ d x. map (λ z. d *ℤ z) x) (small_back (get_or ds at (pos 0)) l.small) (front_diffs us ws es l.other_alike n l.within) ∙ sym (emitted_diffs e bs));
      })

-- ---- a step
module _ {ts vs : List ℕ} {ds : List ℤ} {ms : List ℕ} {p : Place} {us ws : List ℕ} {es : List ℤ} {q : Place} {count : ℕ} (l : LentTurn ts vs ds ms p us ws es q count) where
  counted_within : q.count ≤ length us
  counted_within = omega (arith, l.other_placed.behind, l.other_placed.within)

  module _ (us' ws' : List ℕ) (es' : List ℤ) {n : ℕ} (w : AdvancesEdits (meets (drop p.at ts) none) q.count (edits us ws es) (edits us' ws' es') n) where
    pub counts_on : count + n < 2 ^ 63
    counts_on = omega (arith, l.counts, w.within)

    module _ (u : length us' ≡ length us) (v : length ws' ≡ length ws) (d : length es' ≡ length es) where
      alike_still : Alike us' ws' es'
      alike_still = record { values = v ∙ l.other_alike.values ∙ sym u; diffs = d ∙ l.other_alike.diffs ∙ sym u }

      left_within : n ≤ length us'
      left_within = omega (arith, w.within, counted_within)

      small_left : mass (take n es') ≤ most_diff
      small_left =
          let o = meets (drop p.at ts) none in
          let b = take q.count (edits us ws es) in
          let before : mass (map diff_of b) ≤ most_diff = rw (← front_diffs us ws es l.other_alike q.count counted_within) l.other_small in
          rw (front_diffs us' ws' es' alike_still n left_within, w.buffer, ← mass-entries (advance_edits o b)) (
          let after = advance_mass sizing_nat_abs o b in
          let same = mass-entries b in
          omega arith
          )

      pub lent_edit : LentEdit ts vs ds p.at us' ws' es' n count
      lent_edit =
          record {
            alike = l.alike;
            more = l.more;
            small = l.small;
            other_alike = alike_still;
            within = left_within;
            other_small = small_left;
            counts = counts_on;
          }

    ahead_at : drop q.at (edits us' ws' es') ≡ drop q.at (edits us ws es)
    ahead_at =
        let b : q.count ≤ q.at = l.other_placed.behind in
        let m : q.count + (q.at - q.count) ≡ q.at = omega arith in
        ap (λ k. drop k (edits us' ws' es')) (sym m) ∙ sym (drop-drop (q.at - q.count) q.count (edits us' ws' es'))
        ∙ ap (drop (q.at - q.count)) w.same_ahead
        ∙ drop-drop (q.at - q.count) q.count (edits us ws es) ∙ ap (λ k. drop k (edits us ws es)) m

    meets_ahead : meets (map time_of (drop p.at (edits ts vs ds))) none ≡ meets (drop p.at ts) none
    meets_ahead = ap (λ x. meets x none) (map-drop time_of p.at (edits ts vs ds) ∙ ap (drop p.at) (times-edits ts vs ds l.alike))

    buffer_is : take n (edits us' ws' es') ≡ (advanced_by (history_of (edits ts vs ds) p) (history_of (edits us ws es) q)).buffer
    unfolding advanced_by history_of
    buffer_is = rw meets_ahead w.buffer

    history_is : history_of (edits us' ws' es') (record { count = n; at = q.at }) ≡ advanced_by (history_of (edits ts vs ds) p) (history_of (edits us ws es) q)
    unfolding advanced_by history_of
    history_is = λ k. record { ahead = ahead_at k; buffer = buffer_is k }

    pub turns : length us' ≡ length us → length ws' ≡ length ws → length es' ≡ length es → {p' : Place} {fs : List Edit} {times firsts seconds times' firsts' seconds' : List ℕ} {diffs diffs' : List ℤ}
        → Emits (map (emission (get_or (edits ts vs ds) p.at no_edit)) (take n (edits us' ws' es'))) count times firsts seconds diffs times' firsts' seconds' diffs'
        → StepsOne (edits ts vs ds) p fs p'
        → Turns (edits ts vs ds) p (edits us ws es) q count times firsts seconds diffs fs (edits us' ws' es') times' firsts' seconds' diffs' (record { stepped = p'; other = record { count = n; at = q.at }; count = count + n })
    turns u v d m s =
        record {
          stepped = s;
          advanced = history_is;
          other_placed = record { behind = omega (arith, w.within, l.other_placed.behind); within = omega (arith, l.other_placed.within, length-edits us ws es l.other_alike) };
          other_ahead = ahead_at;
          counted = ap (λ k. count + k) (sym (front_length us' ws' es' (alike_still u v d) n (left_within u v d)) ∙ ap length buffer_is);
          emitted = rw (← buffer_is) m;
        }
