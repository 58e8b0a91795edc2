-- One turn of the wave.
--
-- wave-turn: the wave goes on with the histories after a turn. first_emits, second_emits: what a turn emits, by which history steps
-- mirrored, emits_mirrored: the pairs of an edit with those of a buffer, the two columns of values swapped, are the pairs of the buffer with the edit
-- lent-turn: what a step asks. side_stepped, side_advanced: what the columns of each history keep
-- turned_first, turned_second: a step is a turn
use Prim.Native.Nat.{ℕ, suc, ◌+◌, ◌-◌, ◌≤◌, ◌<◌}
use native.Mathlib.Omega.{arith}
use mathlib.Core.Bool.{Bool, true, false}
use mathlib.Core.List.{List, [], ◌∷◌, ◌++◌, map, append-nil}
use mathlib.Core.Path.{◌≡◌, refl, sym, ◌∙◌, ap}
use lib.IntN.{ℤ, pos, nat_abs, *ℤ_comm}
use lib.ListN.{length, take, drop, get_or, length-drop, length-map}
use Rattle.grid.proofs.Tests.{by-test}
use Rattle.grid.proofs.Loops.{drop_more}
use Rattle.grid.proofs.Times.{join_comm}
use Rattle.grid.proofs.Operations.{map-drop}
use Rattle.consolidation.specs.Entries.{mass}
use Rattle.consolidation.proofs.Laws.{mass-entries}
use Rattle.rules.specs.Histories.{Edit, ValueHistory, time_of}
use Rattle.rules.specs.Wave.{Emission, emission, cross, first_steps, advanced_by, step_one, wave}
use Rattle.rules.proofs.Wave.{wave-first, wave-second, Light, light_stepped, light_advanced}
use Rattle.histories.specs.declared.Place.{Place}
use Rattle.histories.specs.Places.{history_of, Placed, StepsOne}
use Rattle.histories.proofs.Suffixes.{suffixes_later}
use Rattle.edits.specs.Edits.{edits, Alike}
use Rattle.edits.specs.Buffers.{no_edit}
use Rattle.edits.proofs.Edits.{diff_of, times-edits, diffs-edits, length-edits, edits_ahead}
use Rattle.emissions.specs.Emissions.{most_edits, most_diff}
use Rattle.emissions.specs.Heads.{head_earlier, most_emissions}
use Rattle.wave.specs.Turns.{emitted_time, emitted_first, emitted_second, emitted_diff, Emits, next_of, LentTurn, Turns}
use Rattle.wave.specs.Replays.{turn_emits, first_after, second_after, Side, Turned}
use Rattle.emissions.specs.declared.head.Stand.{Stand}
use Rattle.wave.specs.declared.stepping.Turn.{Turn}
use Rattle.emissions.proofs.Heads.{heads-edits, head_first, head_second}
use Rattle.wave.proofs.Turns.{front_diffs}

-- ---- a turn of the definition
pub wave-turn : (n : ℕ) (h k : ValueHistory) → wave (suc n) h k ≡ turn_emits h k ++ wave n (first_after h k) (second_after h k)
unfolding turn_emits first_after second_after
wave-turn n h k = by-test (first_steps h.ahead k.ahead) (λ e. wave-first n h k e ∙ rw e) (λ e. wave-second n h k e ∙ rw e)

module _ (h k : ValueHistory) (e : first_steps h.ahead k.ahead ≡ true) where
  first_stepped : first_after h k ≡ step_one h
  unfolding first_after
  first_stepped = rw e

  first_waits : second_after h k ≡ advanced_by h k
  unfolding second_after
  first_waits = rw e

  first_emits : {x : Edit} → take 1 h.ahead ≡ x ∷ [] → turn_emits h k ≡ map (emission x) (advanced_by h k).buffer
  unfolding turn_emits cross
  first_emits {x} t = rw (e, t) (append-nil (map (emission x) (advanced_by h k).buffer))

module _ (h k : ValueHistory) (e : first_steps h.ahead k.ahead ≡ false) where
  second_waits : first_after h k ≡ advanced_by k h
  unfolding first_after
  second_waits = rw e

  second_steps : second_after h k ≡ step_one k
  unfolding second_after
  second_steps = rw e

  second_emits : {x : Edit} → take 1 k.ahead ≡ x ∷ [] → turn_emits h k ≡ cross (advanced_by k h).buffer (x ∷ [])
  unfolding turn_emits
  second_emits t = rw (e, t)

-- ---- the values' columns swapped
module _ (x : Edit) where
  mirrored : {A : Type 0} (f g : Emission → A) → ((b : Edit) → f (emission b x) ≡ g (emission x b)) → (bs : List Edit) → map f (cross bs (x ∷ [])) ≡ map g (map (emission x) bs)
  unfolding cross
  mirrored f g e [] = refl
  mirrored f g e (b ∷ bs) = λ i. e b i ∷ mirrored f g e bs i

  mirrored_length : (bs : List Edit) → length (cross bs (x ∷ [])) ≡ length bs
  unfolding cross
  mirrored_length [] = refl
  mirrored_length (b ∷ bs) = ap suc (mirrored_length bs)

  emits_mirrored : (bs : List Edit) {count : ℕ} {times firsts seconds : List ℕ} {diffs : List ℤ} {times' firsts' seconds' : List ℕ} {diffs' : List ℤ}
      → Emits (map (emission x) bs) count times seconds firsts diffs times' seconds' firsts' diffs'
      → Emits (cross bs (x ∷ [])) count times firsts seconds diffs times' firsts' seconds' diffs'
  unfolding emission
  emits_mirrored bs w =
      record {
        times_are = rw (mirrored emitted_time emitted_time (λ b. join_comm (time_of b) (time_of x)) bs) w.times_are;
        firsts_are = rw (mirrored emitted_first emitted_second (λ b. refl) bs) w.seconds_are;
        seconds_are = rw (mirrored emitted_second emitted_first (λ b. refl) bs) w.firsts_are;
        diffs_are = rw (mirrored emitted_diff emitted_diff (λ b. *ℤ_comm b.1 x.1) bs) w.diffs_are;
      }

-- ---- the head comparison, from the columns
times_ahead : (ts vs : List ℕ) (ds : List ℤ) → Alike ts vs ds → (i : ℕ) → map time_of (drop i (edits ts vs ds)) ≡ drop i ts
times_ahead ts vs ds a i = map-drop time_of i (edits ts vs ds) ∙ ap (drop i) (times-edits ts vs ds a)

module _ {ts vs : List ℕ} {ds : List ℤ} {us ws : List ℕ} {es : List ℤ} (a : Alike ts vs ds) (b : Alike us ws es) (p q : Place) where
  heads-told : {t : Bool} → t ≡ head_earlier (drop p.at ts) (drop q.at us) → first_steps (history_of (edits ts vs ds) p).ahead (history_of (edits us ws es) q).ahead ≡ t
  unfolding history_of
  heads-told e = sym (e ∙ rw (← times_ahead ts vs ds a p.at, ← times_ahead us ws es b q.at) (heads-edits (drop p.at (edits ts vs ds)) (drop q.at (edits us ws es))))

-- ---- what a step asks
module _ {ts vs : List ℕ} {ds : List ℤ} {ms : List ℕ} {p : Place} (s : Side ts vs ds ms p) where
  ahead_small : p.at < length ts → nat_abs (get_or ds p.at (pos 0)) ≤ most_diff
  unfolding history_of mass
  ahead_small h =
      let E = edits ts vs ds in
      let d : length ds ≡ length ts = s.alike.diffs in
      let e : map diff_of (drop p.at E) ≡ get_or ds p.at (pos 0) ∷ drop (p.at + 1) ds = map-drop diff_of p.at E ∙ ap (drop p.at) (diffs-edits ts vs ds s.alike) ∙ drop_more ds p.at (pos 0) (omega arith) in
      omega (arith, s.light.most, mass-entries (drop p.at E) ∙ ap mass e)

  buffer_small : mass (take p.count ds) ≤ most_diff
  unfolding history_of
  buffer_small =
      let E = edits ts vs ds in
      rw (front_diffs ts vs ds s.alike p.count (omega (arith, s.placed.behind, s.placed.within)), ← mass-entries (take p.count E)) (omega (arith, s.light.most))

module _ {ts vs : List ℕ} {ds : List ℤ} {ms : List ℕ} {p : Place} {us ws : List ℕ} {es : List ℤ} {ns : List ℕ} {q : Place}
    (s : Side ts vs ds ms p) (o : Side us ws es ns q) where
  pub lent-turn : {count : ℕ} → count ≤ most_emissions → p.at < length ts → LentTurn ts vs ds ms p us ws es q count
  lent-turn c h =
      let n : q.count ≤ most_edits = omega (arith, o.placed.behind, o.placed.within, o.few) in
      record {
        alike = s.alike;
        placed = s.placed;
        more = h;
        suffixes = s.suffixes;
        small = ahead_small s h;
        other_alike = o.alike;
        other_placed = o.placed;
        other_small = buffer_small o;
        counts = omega arith;
        other_few = n;
      }

-- ---- what the columns keep
module _ {ts vs : List ℕ} {ds : List ℤ} {ms : List ℕ} {p : Place} (s : Side ts vs ds ms p) (ts' vs' : List ℕ) (ds' : List ℤ) (t : length ts' ≡ length ts) (v : length vs' ≡ length vs) (d : length ds' ≡ length ds) where
  alike_on : Alike ts' vs' ds'
  alike_on = record { values = v ∙ s.alike.values ∙ sym t; diffs = d ∙ s.alike.diffs ∙ sym t }

  long_before : length (edits ts vs ds) ≡ length ts
  long_before = length-edits ts vs ds s.alike

  long_after : length (edits ts' vs' ds') ≡ length ts
  long_after = length-edits ts' vs' ds' alike_on ∙ t

  side_on : (p' : Place) → Placed (length (edits ts vs ds)) p' → p.at ≤ p'.at → drop p'.at (edits ts' vs' ds') ≡ drop p'.at (edits ts vs ds) → Light (history_of (edits ts' vs' ds') p') → Side ts' vs' ds' ms p'
  side_on p' w h e l =
      record {
        alike = alike_on;
        few = omega (arith, s.few);
        placed = record { behind = w.behind; within = omega (arith, w.within, long_before) };
        suffixes = suffixes_later ts' p'.at s.suffixes h t (edits_ahead ts vs ds s.alike p'.at alike_on e);
        light = l;
      }

  module _ {p' : Place} (w : StepsOne (edits ts vs ds) p (edits ts' vs' ds') p') (m : p.at < length ts) where
    stepped-at : p'.at ≡ suc p.at
    unfolding history_of step_one
    stepped-at =
        let e : length (drop p'.at (edits ts' vs' ds')) ≡ length (drop 1 (drop p.at (edits ts vs ds))) = λ i. length (w.history i).ahead in
        let f : length ts - p'.at ≡ length ts - p.at - 1 = rw (length-drop, length-drop, length-drop, long_after, long_before) at e in
        omega (arith, w.placed.within, long_before)

    side_stepped : Side ts' vs' ds' ms p'
    side_stepped = side_on p' w.placed (omega (arith, stepped-at)) w.same_ahead (rw w.history (light_stepped s.light))

  module _ (h : ValueHistory) {p' : Place} (e : history_of (edits ts' vs' ds') p' ≡ advanced_by h (history_of (edits ts vs ds) p)) (w : Placed (length (edits ts vs ds)) p') where
    waited_at : p'.at ≡ p.at
    unfolding history_of advanced_by
    waited_at =
        let f : length (drop p'.at (edits ts' vs' ds')) ≡ length (drop p.at (edits ts vs ds)) = λ i. length (e i).ahead in
        let g : length ts - p'.at ≡ length ts - p.at = rw (length-drop, length-drop, long_after, long_before) at f in
        omega (arith, w.within, long_before, s.placed.within)

    side_advanced : drop p'.at (edits ts' vs' ds') ≡ drop p'.at (edits ts vs ds) → Side ts' vs' ds' ms p'
    side_advanced f = side_on p' w (omega (arith, waited_at)) f (rw e (light_advanced h s.light))

-- ---- a step is a turn
next_ahead : (es : List Edit) (p : Place) → p.at < length es → take 1 (history_of es p).ahead ≡ next_of es p ∷ []
unfolding history_of
next_ahead es p h = rw (drop_more es p.at no_edit h)

module _ (s : Stand) {ts vs : List ℕ} {ds : List ℤ} {ms : List ℕ} {us ws : List ℕ} {es : List ℤ} {ns : List ℕ} (a : Side ts vs ds ms s.first) (b : Side us ws es ns s.second)
    {o : Bool} (e : o ≡ head_earlier (drop s.first.at ts) (drop s.second.at us)) where
  pub first_more : o ≡ true → s.first.at < length ts
  first_more t = head_first ts s.first.at us s.second.at (sym e ∙ t)

  pub second_more : o ≡ false → s.first.at + s.second.at < length ts + length us → s.second.at < length us
  second_more t h = head_second ts s.first.at us s.second.at (sym e ∙ t) h b.placed.within

  head_told : first_steps (history_of (edits ts vs ds) s.first).ahead (history_of (edits us ws es) s.second).ahead ≡ o
  head_told = heads-told a.alike b.alike s.first s.second e

  module _ (ts' vs' : List ℕ) (ds' : List ℤ) (us' ws' : List ℕ) (es' : List ℤ)
      (lt : length ts' ≡ length ts) (lv : length vs' ≡ length vs) (ld : length ds' ≡ length ds) (lu : length us' ≡ length us) (lw : length ws' ≡ length ws) (le : length es' ≡ length es)
      {times firsts seconds : List ℕ} {diffs : List ℤ} {times' firsts' seconds' : List ℕ} {diffs' : List ℤ} {r : Turn} where
    pub turned_first : o ≡ true → Turns (edits ts vs ds) s.first (edits us ws es) s.second s.count times firsts seconds diffs (edits ts' vs' ds') (edits us' ws' es') times' firsts' seconds' diffs' r
        → Turned (edits ts vs ds) (edits us ws es) s times firsts seconds diffs (edits ts' vs' ds') (edits us' ws' es') times' firsts' seconds' diffs' (record { first = r.stepped; second = r.other; count = r.count })
        × (Side ts' vs' ds' ms r.stepped × Side us' ws' es' ns r.other)
    turned_first t w =
        let H = history_of (edits ts vs ds) s.first in
        let K = history_of (edits us ws es) s.second in
        let m : s.first.at < length ts = first_more t in
        let f : first_steps H.ahead K.ahead ≡ true = head_told ∙ t in
        let g : turn_emits H K ≡ map (emission (next_of (edits ts vs ds) s.first)) (advanced_by H K).buffer =
        first_emits H K f (next_ahead (edits ts vs ds) s.first (rw (length-edits ts vs ds a.alike) m)) in (
          record {
            first_is = w.stepped.history ∙ sym (first_stepped H K f);
            second_is = w.advanced ∙ sym (first_waits H K f);
            moved = omega (arith, stepped-at a ts' vs' ds' lt lv ld w.stepped m, waited_at b us' ws' es' lu lw le H w.advanced w.other_placed);
            counted = rw (g, length-map) w.counted;
            emitted = rw g w.emitted;
          },
          (side_stepped a ts' vs' ds' lt lv ld w.stepped m, side_advanced b us' ws' es' lu lw le H w.advanced w.other_placed w.other_ahead),
        )

    pub turned_second : o ≡ false → s.first.at + s.second.at < length ts + length us → Turns (edits us ws es) s.second (edits ts vs ds) s.first s.count times seconds firsts diffs (edits us' ws' es') (edits ts' vs' ds') times' seconds' firsts' diffs' r
        → Turned (edits ts vs ds) (edits us ws es) s times firsts seconds diffs (edits ts' vs' ds') (edits us' ws' es') times' firsts' seconds' diffs' (record { first = r.other; second = r.stepped; count = r.count })
        × (Side ts' vs' ds' ms r.other × Side us' ws' es' ns r.stepped)
    turned_second t h w =
        let H = history_of (edits ts vs ds) s.first in
        let K = history_of (edits us ws es) s.second in
        let m : s.second.at < length us = second_more t h in
        let x = next_of (edits us ws es) s.second in
        let f : first_steps H.ahead K.ahead ≡ false = head_told ∙ t in
        let g : turn_emits H K ≡ cross (advanced_by K H).buffer (x ∷ []) =
        second_emits H K f (next_ahead (edits us ws es) s.second (rw (length-edits us ws es b.alike) m)) in (
          record {
            first_is = w.advanced ∙ sym (second_waits H K f);
            second_is = w.stepped.history ∙ sym (second_steps H K f);
            moved = omega (arith, stepped-at b us' ws' es' lu lw le w.stepped m, waited_at a ts' vs' ds' lt lv ld K w.advanced w.other_placed);
            counted = rw (g, mirrored_length x (advanced_by K H).buffer) w.counted;
            emitted = rw g (emits_mirrored x (advanced_by K H).buffer w.emitted);
          },
          (side_advanced a ts' vs' ds' lt lv ld K w.advanced w.other_placed w.other_ahead, side_stepped b us' ws' es' lu lw le w.stepped m),
        )
