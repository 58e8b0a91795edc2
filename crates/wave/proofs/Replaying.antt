-- The replay, turn after turn.
--
-- over-append: what is written after what was written. emits_none, emits_append: of the emissions in their columns
-- left: how many edits are ahead
-- Replaying goal …: some of the emissions `goal` stand in the columns, and the rest is still to come. replaying_start, replaying_turn, replaying_end: the loop keeps that
use Prim.Native.Nat.{ℕ, suc, ◌+◌, ◌-◌, ◌≤◌}
use native.Mathlib.Omega.{arith}
use native.Mathlib.Nat.{sub-zero}
use mathlib.Core.Bool.{true, false}
use mathlib.Core.List.{List, [], ◌∷◌, ◌++◌, map, append_assoc, append-nil, map-append}
use mathlib.Core.Path.{◌≡◌, refl, sym, ◌∙◌, ap, ap₂}
use lib.IntN.{ℤ}
use lib.ListN.{length, set, length-append, length-map}
use Rattle.rules.specs.Histories.{ValueHistory, loaded}
use Rattle.rules.specs.Wave.{Emission, wave}
use Rattle.histories.specs.Places.{history_of}
use Rattle.edits.specs.Edits.{edits}
use Rattle.emissions.specs.Emissions.{over}
use Rattle.emissions.specs.Heads.{most_emissions, goes_on}
use Rattle.wave.specs.Turns.{emitted_time, emitted_first, emitted_second, emitted_diff, Emits}
use Rattle.wave.specs.Replays.{turn_emits, first_after, second_after, Side, Turned, fresh, Replayed}
use Rattle.emissions.specs.declared.head.Stand.{Stand}
use Rattle.emissions.proofs.Heads.{on_more, on_none}
use Rattle.wave.proofs.Replays.{wave-turn}

-- ---- columns
over-append : {A : Type 0} (xs ys : List A) (k : ℕ) (s : List A) → over ys (k + length xs) (over xs k s) ≡ over (xs ++ ys) k s
unfolding over
over-append [] ys k s = let n : k + 0 ≡ k = omega arith in rw n
over-append (x ∷ xs) ys k s = let n : k + suc (length xs) ≡ k + 1 + length xs = omega arith in rw n (over-append xs ys (k + 1) (set s k x))

emits_none : (times firsts seconds : List ℕ) (diffs : List ℤ) → Emits [] 0 times firsts seconds diffs times firsts seconds diffs
unfolding over
emits_none times firsts seconds diffs = record { times_are = refl; firsts_are = refl; seconds_are = refl; diffs_are = refl }

column_append : {A : Type 0} (f : Emission → A) (xs ys : List Emission) (s : List A) {s' s'' : List A} → s' ≡ over (map f xs) 0 s → s'' ≡ over (map f ys) (length xs) s' → s'' ≡ over (map f (xs ++ ys)) 0 s
column_append f xs ys s {s'} e d =
    let m : length (map f xs) ≡ length xs = length-map xs f in
    let n : length xs ≡ 0 + length (map f xs) = omega arith in
    d ∙ ap₂ (λ k z. over (map f ys) k z) n e ∙ over-append (map f xs) (map f ys) 0 s ∙ ap (λ l. over l 0 s) (sym (map-append f xs ys))

emits_append : (xs ys : List Emission) {count : ℕ} (times firsts seconds : List ℕ) (diffs : List ℤ) {times' firsts' seconds' : List ℕ} {diffs' : List ℤ} {times'' firsts'' seconds'' : List ℕ} {diffs'' : List ℤ}
    → count ≡ length xs → Emits xs 0 times firsts seconds diffs times' firsts' seconds' diffs' → Emits ys count times' firsts' seconds' diffs' times'' firsts'' seconds'' diffs''
    → Emits (xs ++ ys) 0 times firsts seconds diffs times'' firsts'' seconds'' diffs''
emits_append xs ys {count} times firsts seconds diffs c v w =
    let u = rw c at w in
    record {
      times_are = column_append emitted_time xs ys times v.times_are u.times_are;
      firsts_are = column_append emitted_first xs ys firsts v.firsts_are u.firsts_are;
      seconds_are = column_append emitted_second xs ys seconds v.seconds_are u.seconds_are;
      diffs_are = column_append emitted_diff xs ys diffs v.diffs_are u.diffs_are;
    }

-- ---- the loop
abbrev pub left : ℕ → ℕ → Stand → ℕ
left a b s = (a - s.first.at) + (b - s.second.at)

pub record Replaying (goal : List Emission) (times firsts seconds : List ℕ) (diffs : List ℤ) (ts vs : List ℕ) (ds : List ℤ) (ms us ws : List ℕ) (es : List ℤ) (ns : List ℕ) (times' firsts' seconds' : List ℕ) (diffs' : List ℤ) (s : Stand) : Type 0 where
  pub first : Side ts vs ds ms s.first
  pub second : Side us ws es ns s.second
  pub so_far : List Emission
  pub goes : so_far ++ wave (left (length ts) (length us) s) (history_of (edits ts vs ds) s.first) (history_of (edits us ws es) s.second) ≡ goal
  pub counted : s.count ≡ length so_far
  pub emitted : Emits so_far 0 times firsts seconds diffs times' firsts' seconds' diffs'

wave_none : {n : ℕ} (h k : ValueHistory) → n ≡ 0 → wave n h k ≡ []
unfolding wave
wave_none h k e = rw e

pub replaying_start : {ts vs : List ℕ} {ds : List ℤ} {ms us ws : List ℕ} {es : List ℤ} {ns : List ℕ} (times firsts seconds : List ℕ) (diffs : List ℤ) → Side ts vs ds ms fresh → Side us ws es ns fresh
    → Replaying (wave (length ts + length us) (loaded (edits ts vs ds)) (loaded (edits us ws es))) times firsts seconds diffs ts vs ds ms us ws es ns times firsts seconds diffs (record { first = fresh; second = fresh; count = 0 })
unfolding history_of
replaying_start {ts} {us = us} times firsts seconds diffs a b =
    record { first = a; second = b; so_far = []; goes = rw (sub-zero, sub-zero); counted = refl; emitted = emits_none times firsts seconds diffs }

module _ {goal : List Emission} {times firsts seconds : List ℕ} {diffs : List ℤ} {ts vs : List ℕ} {ds : List ℤ} {ms us ws : List ℕ} {es : List ℤ} {ns : List ℕ} {times' firsts' seconds' : List ℕ} {diffs' : List ℤ} {s : Stand}
    (r : Replaying goal times firsts seconds diffs ts vs ds ms us ws es ns times' firsts' seconds' diffs' s) where
  module _ (o : goes_on (length ts) (length us) s ≡ true) {ts' vs' : List ℕ} {ds' : List ℤ} {us' ws' : List ℕ} {es' : List ℤ} {times'' firsts'' seconds'' : List ℕ} {diffs'' : List ℤ} {s' : Stand}
      (lt : length ts' ≡ length ts) (lu : length us' ≡ length us)
      (w : Turned (edits ts vs ds) (edits us ws es) s times' firsts' seconds' diffs' (edits ts' vs' ds') (edits us' ws' es') times'' firsts'' seconds'' diffs'' s') (a : Side ts' vs' ds' ms s'.first) (b : Side us' ws' es' ns s'.second) where
    one_less : left (length ts) (length us) s ≡ suc (left (length ts') (length us') s')
    one_less = omega (arith, on_more (length ts) (length us) s o, r.first.placed.within, r.second.placed.within, w.moved, a.placed.within, b.placed.within)

    pub replaying_turn : Replaying goal times firsts seconds diffs ts' vs' ds' ms us' ws' es' ns times'' firsts'' seconds'' diffs'' s'
    replaying_turn =
        let H = history_of (edits ts vs ds) s.first in
        let K = history_of (edits us ws es) s.second in
        let n = left (length ts') (length us') s' in
        record {
          first = a;
          second = b;
          so_far = r.so_far ++ turn_emits H K;
          goes =
              ap₂ (λ h k. (r.so_far ++ turn_emits H K) ++ wave n h k) w.first_is w.second_is
              ∙ append_assoc r.so_far (turn_emits H K) (wave n (first_after H K) (second_after H K))
              ∙ ap (λ z. r.so_far ++ z) (sym (wave-turn n H K) ∙ ap (λ m. wave m H K) (sym one_less))
              ∙ r.goes;
          counted = w.counted ∙ ap (λ z. z + length (turn_emits H K)) r.counted ∙ sym (length-append r.so_far (turn_emits H K));
          emitted = emits_append r.so_far (turn_emits H K) times firsts seconds diffs r.counted r.emitted w.emitted;
        }

  module _ (o : goes_on (length ts) (length us) s ≡ false) where
    whole : s.count ≤ most_emissions → r.so_far ≡ goal
    whole h =
        let H = history_of (edits ts vs ds) s.first in
        let K = history_of (edits us ws es) s.second in
        let n : left (length ts) (length us) s ≡ 0 = omega (arith, on_none (length ts) (length us) s o h, r.first.placed.within, r.second.placed.within) in
        sym (append-nil r.so_far) ∙ ap (λ z. r.so_far ++ z) (sym (wave_none H K n)) ∙ r.goes

    within_goal : s.count ≤ length goal
    within_goal =
        let n = length-append r.so_far (wave (left (length ts) (length us) s) (history_of (edits ts vs ds) s.first) (history_of (edits us ws es) s.second)) in
        rw (← r.goes) (omega (arith, r.counted))

    pub replaying_end : Replayed goal times firsts seconds diffs times' firsts' seconds' diffs' s.count
    replaying_end =
        record {
          over = λ h. omega (arith, within_goal);
          counted = λ h. r.counted ∙ ap length (whole h);
          emitted = λ h. rw (← whole h) r.emitted;
        }
