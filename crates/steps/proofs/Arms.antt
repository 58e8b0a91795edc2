-- What becomes of n: the arms of `act`.
--
-- lent, settled: a moment. joined_only: short of upper and not interesting. pended_keen, pended_dull: beyond upper, interesting and not
-- recounted: a walk with other counts of waiting joins and of pended times
use Prim.Native.Nat.{ℕ, ◌+◌, ◌≤◌}
use native.Mathlib.Omega.{arith}
use native.Mathlib.Numerals.{add-one}
use mathlib.Core.Bool.{Bool, true, false}
use mathlib.Core.List.{List, [], ◌∷◌, ◌++◌, map}
use mathlib.Core.Option.{Option}
use mathlib.Core.Path.{◌≡◌, refl, sym, ◌∙◌, ap}
use lib.IntN.{ℤ}
use lib.ListN.{length, take, set}
use lib.Seq.{take-suc-set}
use Rattle.grid.specs.Times.{put}
use Rattle.grid.specs.Frontiers.{beyond}
use Rattle.grid.proofs.Operations.{map-take}
use Rattle.grid.proofs.Slices.{drop-later}
use Rattle.times.specs.Meets.{optional}
use Rattle.times.specs.Meets.{Meet}
use Rattle.rules.specs.Histories.{Edit, time_of, advance_times, advance_edits}
use Rattle.edits.specs.Buffers.{LentBuffer}
use Rattle.edits.specs.Edits.{edits, Alike}
use Rattle.edits.proofs.Edits.{times-edits, diffs-edits}
use Rattle.advances.specs.Renewed.{Renewed}
use Rattle.joins.specs.Sets.{Set, Grown, same, over, Put, Made}
use Rattle.joins.proofs.Sets.{made_then, joins-append}
use Rattle.steps.specs.Parts.{made_of, Acting, Ready}
use Rattle.pops.specs.Standing.{weight}
use Rattle.steps.specs.Walks.{Worked}
use Rattle.pops.specs.declared.Walk.{Walk}

abbrev pub recounted : Walk → ℕ → ℕ → Walk
recounted q w p = record { seeds = q.seeds; pending = q.pending; input = q.input; output = q.output; waiting = w; tracked = q.tracked; moments = q.moments; pended = p; m = q.m }

module _ {seeds tracked times values : List ℕ} {diffs : List ℤ} {output waiting pended moments work places wvalues : List ℕ} {wdiffs : List ℤ} {q : Walk}
    (g : Ready seeds tracked times values diffs output waiting pended moments work places wvalues wdiffs q) where
  -- what is asked where the input's buffer is advanced
  pub lent : LentBuffer q.input.count times values diffs places wvalues work wdiffs
  unfolding weight
  lent =
      let w : Worked seeds times output tracked work places wvalues wdiffs = g.worked in
      let b : q.input.count ≤ q.input.at = g.input_placed.behind in
      let c : q.input.at ≤ length times = g.input_placed.within in
      let w₂ : length times ≤ length work = w.for_times in
      let w₅ : length times ≤ length places = w.for_places in
      let w₆ : length times ≤ length wvalues = w.for_values in
      let w₇ : length times ≤ length wdiffs = w.for_diffs in
      let e : map (λ (e : Edit). e.1) (take q.input.count (edits times values diffs)) ≡ take q.input.count diffs = map-take (λ (e : Edit). e.1) q.input.count (edits times values diffs) ∙ ap (take q.input.count) (diffs-edits times values diffs g.input_alike) in
      record {
        alike = g.input_alike;
        within = omega arith;
        bounded = rw e at g.input_light;
        room_places = omega arith;
        room_firsts = omega arith;
        room_seconds = omega arith;
        room_sums = omega arith;
      }

module _ (upper : List ℕ) (n : ℕ) {seeds tracked times values : List ℕ} {diffs : List ℤ} {output waiting pended moments work places wvalues : List ℕ} {wdiffs : List ℤ} {q : Walk}
    (g : Ready seeds tracked times values diffs output waiting pended moments work places wvalues wdiffs q) where
  pub settled : (m : Meet) (times' values' : List ℕ) (diffs' : List ℤ) {wl pl output' waiting₂ pended₂ : List ℕ} {i o w₂ p₂ : ℕ}
      → beyond upper n ≡ false
      → length times' ≡ length times → length values' ≡ length values → length diffs' ≡ length diffs
      → Renewed (advance_edits (optional m) (take q.input.count (edits times values diffs))) q.input.count (edits times values diffs) (edits times' values' diffs') i
      → Renewed (advance_times (optional m) (take q.output.count output)) q.output.count output output' o
      → Made upper n (take q.seeds.count seeds ++ take q.tracked tracked) (take q.waiting waiting) wl (take q.pended pended) pl
      → (Set waiting₂ w₂ × Set pended₂ p₂) × Made upper n (take i times' ++ take o output') wl (take w₂ waiting₂) pl (take p₂ pended₂)
      → Acting upper n true (optional m) (take q.seeds.count seeds) (take q.tracked tracked) (edits times values diffs) output waiting pended moments q (edits times' values' diffs') output' waiting₂ pended₂ (set moments q.moments n)
      (record { seeds = q.seeds; pending = q.pending; input = record { count = i; at = q.input.at }; output = record { count = o; at = q.output.at }; waiting = w₂; tracked = q.tracked; moments = q.moments + 1; pended = p₂; m = m })
  unfolding made_of
  settled m times' values' diffs' {wl} {pl} {output'} {waiting₂} {pended₂} {i} {o} {w₂} {p₂} b lt lv ld x y u v =
      let a : Alike times values diffs = g.input_alike in
      let a' : Alike times' values' diffs' = record { values = lv ∙ a.values ∙ sym lt; diffs = ld ∙ a.diffs ∙ sym lt } in
      let t : map time_of (take i (edits times' values' diffs')) ≡ take i times' = map-take time_of i (edits times' values' diffs') ∙ ap (take i) (times-edits times' values' diffs' a') in
      let u' : Made upper n ((take i times' ++ take o output') ++ (take q.seeds.count seeds ++ take q.tracked tracked)) (take q.waiting waiting) (take w₂ waiting₂) (take q.pended pended) (take p₂ pended₂) = made_then upper n u v.1 in
      let j = joins-append n (take i times' ++ take o output') (take q.seeds.count seeds ++ take q.tracked tracked) in
      record {
        input_is = rw b x.buffer;
        input_fewer = x.within;
        input_at = refl;
        input_ahead = drop-later (edits times' values' diffs') (edits times values diffs) q.input.count q.input.at g.input_placed.behind x.same_ahead;
        output_is = rw b y.buffer;
        output_fewer = y.within;
        output_at = refl;
        output_ahead = drop-later output' output q.output.count q.output.at g.output_placed.behind y.same_ahead;
        waiting_is = rw (b, t, ← j) u'.waits;
        pended_is = rw (b, t, ← j) u'.pends;
        moments_are = rw (b, add-one, take-suc-set moments q.moments n g.moments_room);
        moments_counted = rw b;
        waiting_set = v.0.0;
        pended_set = v.0.1;
        same_seeds = refl;
        same_pending = refl;
        same_tracked = refl;
      }

module _ (upper : List ℕ) (n : ℕ) (keen : Bool) (m : Option ℕ) (seedb trackb : List ℕ) (E : List Edit) (output waiting pended moments : List ℕ) (q : Walk) where
  module _ (waiting' pended' : List ℕ) {w p : ℕ} where
    pub joined_only : beyond upper n ≡ false → keen ≡ false
        → (Set waiting' w × Set pended' p) × Made upper n (seedb ++ trackb) (take q.waiting waiting) (take w waiting') (take q.pended pended) (take p pended')
        → Acting upper n keen m seedb trackb E output waiting pended moments q E output waiting' pended' moments (recounted q w p)
    unfolding made_of
    joined_only b k u =
        record {
          input_is = rw (b, k);
          input_fewer = omega arith;
          input_at = refl;
          input_ahead = refl;
          output_is = rw (b, k);
          output_fewer = omega arith;
          output_at = refl;
          output_ahead = refl;
          waiting_is = rw (b, k) u.1.waits;
          pended_is = rw (b, k) u.1.pends;
          moments_are = rw (b, k);
          moments_counted = rw (b, k);
          waiting_set = u.0.0;
          pended_set = u.0.1;
          same_seeds = refl;
          same_pending = refl;
          same_tracked = refl;
        }

  one_put : {us l : List ℕ} → Grown (n ∷ []) us l → Grown [] (put n us) l
  one_put (same e) = same e
  one_put (over e f) = over e f

  module _ (b : beyond upper n ≡ true) where
    pub pended_keen : (pended' : List ℕ) {p : ℕ} → keen ≡ true → Set waiting q.waiting → Put n pended q.pended pended' p
        → Acting upper n keen m seedb trackb E output waiting pended moments q E output waiting pended' moments (recounted q q.waiting p)
    unfolding made_of
    pended_keen pended' {p} k s u =
        record {
          input_is = rw (b, k);
          input_fewer = omega arith;
          input_at = refl;
          input_ahead = refl;
          output_is = rw (b, k);
          output_fewer = omega arith;
          output_at = refl;
          output_ahead = refl;
          waiting_is = rw b (same refl);
          pended_is = rw (b, k) (one_put u.grown);
          moments_are = rw (b, k);
          moments_counted = rw (b, k);
          waiting_set = s;
          pended_set = u.set;
          same_seeds = refl;
          same_pending = refl;
          same_tracked = refl;
        }

    pub pended_dull : keen ≡ false → Set waiting q.waiting → Set pended q.pended → Acting upper n keen m seedb trackb E output waiting pended moments q E output waiting pended moments q
    unfolding made_of
    pended_dull k s t =
        record {
          input_is = rw (b, k);
          input_fewer = omega arith;
          input_at = refl;
          input_ahead = refl;
          output_is = rw (b, k);
          output_fewer = omega arith;
          output_at = refl;
          output_ahead = refl;
          waiting_is = rw b (same refl);
          pended_is = rw (b, k) (same refl);
          moments_are = rw (b, k);
          moments_counted = rw (b, k);
          waiting_set = s;
          pended_set = t;
          same_seeds = refl;
          same_pending = refl;
          same_tracked = refl;
        }
