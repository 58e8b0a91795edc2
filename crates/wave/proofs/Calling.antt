-- The whole call.
--
-- over_filled: what is written over zeros, and zeros after it. leaves_done, leaves_cleared: what a worked call leaves in a column
-- room_times, room_firsts, room_seconds, room_diffs: the columns of results are long enough. called_over, called_done: the answer to a call that passed the checks
-- called_refused: the answer of a call that does not pass the checks. accepted-lent, called_accepted: what one that does brings, and its answer
use Prim.Native.Nat.{ℕ, zero, suc, ◌+◌, ◌-◌, ◌≤◌, ◌<◌}
use native.Mathlib.Omega.{arith}
use native.Mathlib.Nat.{sub-zero}
use mathlib.Core.Bool.{Bool, true, false, ◌&&◌}
use mathlib.Core.List.{List, [], ◌∷◌, map}
use mathlib.Core.Path.{◌≡◌, refl, sym, ◌∙◌, ap}
use borrow.Author.Tests.{leb-true}
use lib.Dec.{leb}
use lib.IntN.{ℤ, pos}
use lib.ListN.{length, set, replicate, length-map}
use Rattle.grid.specs.Lists.{padded}
use Rattle.grid.proofs.Tests.{by-test, clash, and_l, and_r, and_i}
use Rattle.rules.specs.Histories.{Edit}
use Rattle.rules.specs.Memory.{leaves}
use Rattle.rules.specs.Wave.{Emission, wave_of, good_wave_run, wave_refused, wave_call}
use Rattle.rules.proofs.Wave.{WaveRun, good_run_lem, WaveOutcome, short, unfit, over, worked, wave-outcome_only}
use Rattle.edits.specs.Edits.{edits, Alike}
use Rattle.emissions.specs.Emissions.{over as laid_over, Cleared}
use Rattle.wave.specs.Turns.{emitted_time, emitted_first, emitted_second, emitted_diff}
use Rattle.emissions.specs.Heads.{most_emissions}
use Rattle.wave.specs.Replays.{Replayed}
use Rattle.wave.specs.Calls.{level, roomy, lent_well, status_of, status_before, Called}
use Rattle.wave.specs.declared.call.Refusal.{Refusal}
use Rattle.wave.specs.declared.call.Refusal.TheVariants.{Short, Unfit, Over}
use Rattle.std.specs.Prelude.{Result, Ok, Err}
use Rattle.wave.proofs.Checking.{level-alike}

-- ---- a column of results
module _ {A : Type 0} where
  over-suc : (xs : List A) (k : ℕ) (y : A) (s : List A) → laid_over xs (suc k) (y ∷ s) ≡ y ∷ laid_over xs k s
  unfolding laid_over
  over-suc [] k y s = refl
  over-suc (x ∷ xs) k y s = let n : suc k + 1 ≡ suc (k + 1) = omega arith in rw n (over-suc xs (k + 1) y (set s k x))

  over_filled : (xs : List A) (n : ℕ) (z : A) → length xs ≤ n → laid_over xs 0 (replicate n z) ≡ padded z n xs
  unfolding laid_over
  over_filled [] n z h = rw (sub-zero n)
  over_filled (x ∷ xs) zero z h = absurd (omega arith)
  over_filled (x ∷ xs) (suc n) z h =
      let e : suc n - suc (length xs) ≡ n - length xs = omega arith in
      rw e (over-suc xs 0 x (replicate n z) ∙ ap (λ l. x ∷ l) (over_filled xs n z (omega arith)))

  -- what is left where the emissions were written over zeros
  leaves_done : (f : Emission → A) (es : List Emission) (z : A) (s : List A) {s₀ s' : List A} → length es ≤ length s → s₀ ≡ replicate (length s) z → s' ≡ laid_over (map f es) 0 s₀ → s' ≡ leaves z 0 s (map f es)
  unfolding leaves
  leaves_done f es z s h c e = e ∙ ap (laid_over (map f es) 0) c ∙ over_filled (map f es) (length s) z (rw (length-map es f) h)

  leaves_cleared : (z : A) (s s₀ : List A) {s' : List A} → length s₀ ≡ length s → s' ≡ replicate (length s₀) z → s' ≡ leaves z 18 s []
  unfolding leaves
  leaves_cleared z s s₀ h e = e ∙ ap (λ n. replicate n z) (h ∙ sym (sub-zero (length s)))

-- ---- a call that passed the checks
module _ (a b c : List ℕ) (d : List ℤ) (e : roomy a b c d ≡ true) where
  abbrev enough : {A : Type 0} → List A → Bool
  enough s = leb most_emissions (length s)

  room_times : most_emissions ≤ length a
  unfolding roomy
  room_times = leb-true most_emissions (length a) (and_l (enough a) (enough b) (and_l (enough a && enough b) (enough c) (and_l (enough a && enough b && enough c) (enough d) e)))

  room_firsts : most_emissions ≤ length b
  unfolding roomy
  room_firsts = leb-true most_emissions (length b) (and_r (enough a) (enough b) (and_l (enough a && enough b) (enough c) (and_l (enough a && enough b && enough c) (enough d) e)))

  room_seconds : most_emissions ≤ length c
  unfolding roomy
  room_seconds = leb-true most_emissions (length c) (and_r (enough a && enough b) (enough c) (and_l (enough a && enough b && enough c) (enough d) e))

  room_diffs : most_emissions ≤ length d
  unfolding roomy
  room_diffs = leb-true most_emissions (length d) (and_r (enough a && enough b && enough c) (enough d) e)

module _ {as' bs : List Edit} (r : WaveRun as') (q : WaveRun bs) {times firsts seconds : List ℕ} {diffs : List ℤ} where
  module _ {times₀ firsts₀ seconds₀ : List ℕ} {diffs₀ : List ℤ} {times₁ firsts₁ seconds₁ : List ℕ} {diffs₁ : List ℤ} {count : ℕ}
      (w : Replayed (wave_of as' bs) times₀ firsts₀ seconds₀ diffs₀ times₁ firsts₁ seconds₁ diffs₁ count) where
    pub called_over : most_emissions < count → length times₁ ≡ length times → length firsts₁ ≡ length firsts → length seconds₁ ≡ length seconds → length diffs₁ ≡ length diffs
        → {times' firsts' seconds' : List ℕ} {diffs' : List ℤ} → Cleared times₁ firsts₁ seconds₁ diffs₁ times' firsts' seconds' diffs'
        → Called (wave_call true as' bs) times firsts seconds diffs times' firsts' seconds' diffs' (Err Over)
    unfolding wave_refused
    called_over h lt lf ls ld z =
        let o : WaveOutcome true as' bs (wave_refused 18) = over refl (r, q) (w.over h) in
        rw (← wave-outcome_only o) (record {
          status_is = refl;
          count_is = refl;
          times_are = leaves_cleared 0 times times₁ lt z.times_are;
          firsts_are = leaves_cleared 0 firsts firsts₁ lf z.firsts_are;
          seconds_are = leaves_cleared 0 seconds seconds₁ ls z.seconds_are;
          diffs_are = leaves_cleared (pos 0) diffs diffs₁ ld z.diffs_are;
        })

    pub called_done : count ≤ most_emissions → roomy times firsts seconds diffs ≡ true → Cleared times firsts seconds diffs times₀ firsts₀ seconds₀ diffs₀
        → Called (wave_call true as' bs) times firsts seconds diffs times₁ firsts₁ seconds₁ diffs₁ (Ok count)
    called_done h e z =
        let es = wave_of as' bs in
        let n : count ≡ length es = w.counted h in
        let m = w.emitted h in
        let o : WaveOutcome true as' bs (record { status = 0; emitted = es }) = worked refl (r, q) (omega arith) in
        rw (← wave-outcome_only o) (record {
          status_is = refl;
          count_is = n;
          times_are = leaves_done emitted_time es 0 times (omega (arith, room_times times firsts seconds diffs e)) z.times_are m.times_are;
          firsts_are = leaves_done emitted_first es 0 firsts (omega (arith, room_firsts times firsts seconds diffs e)) z.firsts_are m.firsts_are;
          seconds_are = leaves_done emitted_second es 0 seconds (omega (arith, room_seconds times firsts seconds diffs e)) z.seconds_are m.seconds_are;
          diffs_are = leaves_done emitted_diff es (pos 0) diffs (omega (arith, room_diffs times firsts seconds diffs e)) z.diffs_are m.diffs_are;
        })

-- ---- the status before any work
-- a refusal has one status, whatever was asked for
refusal_is : (x : Refusal) → status_of {A = ℕ} (Err x) ≡ status_of {A = Unit {0}} (Err x)
refusal_is Short = refl
refusal_is Unfit = refl
refusal_is Over = refl

untouched : (n : ℕ) → (leb 11 n && leb n 17) ≡ true → (x : Refusal) → status_of {A = Unit {0}} (Err x) ≡ n → (times firsts seconds : List ℕ) (diffs : List ℤ) → Called (wave_refused n) times firsts seconds diffs times firsts seconds diffs (Err x)
unfolding leaves wave_refused
untouched n t x s times firsts seconds diffs = record { status_is = refusal_is x ∙ s; count_is = refl; times_are = rw t; firsts_are = rw t; seconds_are = rw t; diffs_are = rw t }

unfit_runs : (as' bs : List Edit) → (good_wave_run as' && good_wave_run bs) ≡ false → ¬ (WaveRun as' × WaveRun bs)
unfit_runs as' bs g r = clash (good_wave_run as' && good_wave_run bs) (and_i (good_wave_run as') (good_wave_run bs) ((good_run_lem as').1 r.0) ((good_run_lem bs).1 r.1)) g

refused : (x : Refusal) → status_of {A = Unit {0}} (Err x) ≡ 0 → ⊥
refused Short e = absurd (omega arith)
refused Unfit e = absurd (omega arith)
refused Over e = absurd (omega arith)

-- what the checks say
module _ (l : Bool) (as' bs : List Edit) {s : ℕ} (e : s ≡ status_before l as' bs) where
  status_short : l ≡ false → s ≡ 11
  unfolding status_before
  status_short t = rw t at e

  status_unfit : l ≡ true → (good_wave_run as' && good_wave_run bs) ≡ false → s ≡ 14
  unfolding status_before
  status_unfit t g = rw (t, g) at e

  status_fit : l ≡ true → (good_wave_run as' && good_wave_run bs) ≡ true → s ≡ 0
  unfolding status_before
  status_fit t g = rw (t, g) at e

  accepted : s ≡ 0 → (l ≡ true) × (WaveRun as' × WaveRun bs)
  accepted z =
      by-test l
      (λ t. by-test (good_wave_run as' && good_wave_run bs)
      (λ g. (t, ((good_run_lem as').0 (and_l (good_wave_run as') (good_wave_run bs) g), (good_run_lem bs).0 (and_r (good_wave_run as') (good_wave_run bs) g))))
      (λ g. let u : s ≡ 14 = status_unfit t g in absurd (omega arith)))
      (λ t. let u : s ≡ 11 = status_short t in absurd (omega arith))

pub called_refused : (l : Bool) (as' bs : List Edit) (x : Refusal) → status_of {A = Unit {0}} (Err x) ≡ status_before l as' bs → (times firsts seconds : List ℕ) (diffs : List ℤ)
    → Called (wave_call l as' bs) times firsts seconds diffs times firsts seconds diffs (Err x)
called_refused l as' bs x e times firsts seconds diffs =
    by-test l
    (λ t. by-test (good_wave_run as' && good_wave_run bs) (λ g. absurd (refused x (status_fit l as' bs e t g)))
    (λ g. let o : WaveOutcome l as' bs (wave_refused 14) = unfit t (unfit_runs as' bs g) in rw (← wave-outcome_only o) (untouched 14 refl x (status_unfit l as' bs e t g) times firsts seconds diffs)))
    (λ t. let o : WaveOutcome l as' bs (wave_refused 11) = short t in rw (← wave-outcome_only o) (untouched 11 refl x (status_short l as' bs e t) times firsts seconds diffs))

module _ (ts vs : List ℕ) (ds : List ℤ) (us ws : List ℕ) (es : List ℤ) (times firsts seconds : List ℕ) (diffs : List ℤ) (e : 0 ≡ status_before (lent_well ts vs ds us ws es times firsts seconds diffs) (edits ts vs ds) (edits us ws es)) where
  lent-accepted : lent_well ts vs ds us ws es times firsts seconds diffs ≡ true
  lent-accepted = (accepted (lent_well ts vs ds us ws es times firsts seconds diffs) (edits ts vs ds) (edits us ws es) e refl).0

  pub accepted-lent : (Alike ts vs ds × WaveRun (edits ts vs ds)) × ((Alike us ws es × WaveRun (edits us ws es)) × (roomy times firsts seconds diffs ≡ true))
  unfolding lent_well
  accepted-lent =
      let first = level ts vs ds in
      let second = level us ws es in
      let room = roomy times firsts seconds diffs in
      let both : (first && second) ≡ true = and_l (first && second) room lent-accepted in (
        (level-alike ts vs ds (and_l first second both), (accepted (lent_well ts vs ds us ws es times firsts seconds diffs) (edits ts vs ds) (edits us ws es) e refl).1.0),
        ((level-alike us ws es (and_r first second both), (accepted (lent_well ts vs ds us ws es times firsts seconds diffs) (edits ts vs ds) (edits us ws es) e refl).1.1), and_r (first && second) room lent-accepted),
      )

  pub called_accepted : {times' firsts' seconds' : List ℕ} {diffs' : List ℤ} {a : Result ℕ Refusal} → Called (wave_call true (edits ts vs ds) (edits us ws es)) times firsts seconds diffs times' firsts' seconds' diffs' a
      → Called (wave_call (lent_well ts vs ds us ws es times firsts seconds diffs) (edits ts vs ds) (edits us ws es)) times firsts seconds diffs times' firsts' seconds' diffs' a
  called_accepted w = rw lent-accepted w
