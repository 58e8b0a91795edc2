-- What a step asks of its parts, and what it keeps.
--
-- few: no limit was passed, so there is room for a moment. tracked_within: there is room for what is tracked
-- popped_light: the diffs of the input are as large as they were. ready: what is asked where n is acted upon
-- moments_within: there is room for the moments. known_popped, known-acted, known_kept, standing-kept, roomy-kept: what was known of the columns still is
use Prim.Native.Nat.{ℕ, suc, ◌+◌, ◌-◌, ◌≤◌}
use native.Mathlib.Omega.{arith}
use mathlib.Core.Bool.{Bool, true, cond, ◌&&◌}
use mathlib.Core.List.{List, ◌++◌}
use mathlib.Core.Option.{Option}
use mathlib.Core.Path.{◌≡◌, refl, sym, ◌∙◌, ap}
use lib.Dec.{ltb, eqb}
use lib.IntN.{ℤ}
use lib.ListN.{length, take, drop}
use lib.Seq.{length-take-le}
use borrow.Author.Tests.{ltb-false}
use Rattle.grid.specs.Lists.{front, past}
use Rattle.grid.specs.Frontiers.{short_of}
use Rattle.grid.proofs.Tests.{by-test, or_false_l}
use Rattle.rules.specs.Histories.{ValueHistory, time_of, stepped, moved}
use Rattle.rules.specs.Discover.{most_moments, interesting, is_moment}
use Rattle.rules.proofs.Fuel.{Bounded, waiting_moment}
use Rattle.histories.specs.Places.{history_of}
use Rattle.histories.proofs.Suffixes.{suffixes_later}
use Rattle.consolidation.specs.Entries.{most_mass}
use Rattle.edits.specs.Edits.{edits, Alike}
use Rattle.edits.proofs.Edits.{length-edits, edits_ahead}
use Rattle.pops.specs.Popping.{Popping}
use Rattle.steps.specs.Parts.{is_made, Acting, Finishing, Ready}
use Rattle.pops.specs.Standing.{weight, Standing}
use Rattle.steps.specs.Walks.{state_of, Known, Roomy, Worked, Calm}
use Rattle.pops.specs.declared.Walk.{Walk}
use Rattle.steps.proofs.Weights.{weight-append, weight_past, weight_advance}

pub few : {upper : List ℕ} (seeds pending times values : List ℕ) (diffs : List ℤ) (output waiting tracked moments pended : List ℕ) (p : Walk) → Calm upper (state_of seeds pending times values diffs output waiting tracked moments pended p) → p.moments ≤ most_moments
unfolding state_of
few seeds pending times values diffs output waiting tracked moments pended p c = ltb-false most_moments p.moments (or_false_l (ltb most_moments p.moments) _ c.within)

pub alike-kept : {ts vs : List ℕ} {ds : List ℤ} {ts' vs' : List ℕ} {ds' : List ℤ} → Alike ts vs ds → length ts' ≡ length ts → length vs' ≡ length vs → length ds' ≡ length ds → Alike ts' vs' ds'
alike-kept a t v d = record { values = v ∙ a.values ∙ sym t; diffs = d ∙ a.diffs ∙ sym t }

-- ---- after all five were stepped
module _ {n : ℕ} {seeds pending times values : List ℕ} {diffs : List ℤ} {output waiting tracked : List ℕ} {p : Walk} {seeds₁ : List ℕ} (times₁ values₁ : List ℕ) (diffs₁ : List ℤ) {output₁ waiting₁ tracked₁ : List ℕ} {hit : Bool} {q : Walk}
    (A : Popping n seeds pending (edits times values diffs) output waiting tracked p seeds₁ (edits times₁ values₁ diffs₁) output₁ waiting₁ tracked₁ hit q)
    (S : Standing seeds pending times values diffs output p) where
  pub popped_light : weight (take q.input.count (edits times₁ values₁ diffs₁)) + weight (drop q.input.at (edits times₁ values₁ diffs₁)) ≤ most_mass
  unfolding history_of stepped
  popped_light =
      let b : take q.input.count (edits times₁ values₁ diffs₁) ≡ take p.input.count (edits times values diffs) ++ front (λ e. eqb n (time_of e)) (drop p.input.at (edits times values diffs)) = ap (λ (h : ValueHistory). h.buffer) A.input_is in
      let d : drop q.input.at (edits times₁ values₁ diffs₁) ≡ past (λ e. eqb n (time_of e)) (drop p.input.at (edits times values diffs)) = ap (λ (h : ValueHistory). h.ahead) A.input_is in
      let u = weight-append (take p.input.count (edits times values diffs)) (front (λ e. eqb n (time_of e)) (drop p.input.at (edits times values diffs))) in
      let v = weight_past (λ e. eqb n (time_of e)) (drop p.input.at (edits times values diffs)) in
      let l : weight (take p.input.count (edits times values diffs)) + weight (drop p.input.at (edits times values diffs)) ≤ most_mass = S.input_light in
      rw (b, d) (omega arith)

  module _ (r : (p.tracked + (length pending - p.pending)) + (suc most_moments - p.moments) ≤ length tracked) (f : p.moments ≤ most_moments) where
    pub tracked_within : length tracked₁ ≡ length tracked → q.tracked ≤ length tracked₁
    tracked_within l =
        let u : (q.tracked + p.pending) + q.waiting ≡ (p.tracked + q.pending) + p.waiting = A.tracked_counted in
        let o : p.waiting ≤ q.waiting + 1 = A.waiting_one in
        let i : q.pending ≤ length pending = A.pending_within in
        let j : p.pending ≤ q.pending = A.pending_later in
        omega arith

  pub ready : {moments pended work work₁ places wvalues : List ℕ} {wdiffs : List ℤ} → length seeds₁ ≡ length seeds → length times₁ ≡ length times → length values₁ ≡ length values → length diffs₁ ≡ length diffs → length output₁ ≡ length output → length tracked₁ ≡ length tracked → length work₁ ≡ length work
      → Roomy pending waiting tracked moments pended p → Worked seeds times output tracked work places wvalues wdiffs → p.moments ≤ most_moments
      → Ready seeds₁ tracked₁ times₁ values₁ diffs₁ output₁ waiting₁ pended moments work₁ places wvalues wdiffs q
  ready {moments} {pended} {work} {work₁} {places} {wvalues} {wdiffs} ls lt lv ld lo lk lw R W f =
      let m : q.moments ≡ p.moments = A.same_moments in
      let lg : suc most_moments ≤ length moments = R.moments_long in
      let a₁ : q.seeds.count ≤ q.seeds.at = A.seeds_placed.behind in
      let a₂ : q.seeds.at ≤ length seeds = A.seeds_placed.within in
      let ne : length (edits times values diffs) ≡ length times = length-edits times values diffs S.input_alike in
      let w₁ : length seeds ≤ length work = W.for_seeds in
      let w₂ : length times ≤ length work = W.for_times in
      let w₃ : length output ≤ length work = W.for_output in
      let w₄ : length tracked ≤ length work = W.for_tracked in
      let w₅ : length times ≤ length places = W.for_places in
      let w₆ : length times ≤ length wvalues = W.for_values in
      let w₇ : length times ≤ length wdiffs = W.for_diffs in
      let li = popped_light in
      record {
        seeds_within = omega arith;
        tracked_within = tracked_within R.tracked_room f lk;
        input_alike = alike-kept S.input_alike lt lv ld;
        input_placed = rw (lt, ← ne) A.input_placed;
        input_light = omega arith;
        output_placed = rw lo A.output_placed;
        waiting_set = A.waiting_set;
        pended_set = rw A.same_pended R.pended_set;
        moments_room = omega arith;
        worked = record { for_seeds = omega arith; for_times = omega arith; for_output = omega arith; for_tracked = omega arith; for_places = omega arith; for_values = omega arith; for_diffs = omega arith };
      }

  pub known_popped : {seedm pendm inputm outputm : List ℕ} → Known seeds seedm pending pendm times inputm output outputm p
      → length seeds₁ ≡ length seeds → Alike times₁ values₁ diffs₁ → length times₁ ≡ length times → length output₁ ≡ length output
      → Known seeds₁ seedm pending pendm times₁ inputm output₁ outputm q
  known_popped K ls al lt lo = record {
    of_seeds = suffixes_later seeds₁ q.seeds.at K.of_seeds A.seeds_later ls A.seeds_ahead;
    of_pending = suffixes_later pending q.pending K.of_pending A.pending_later refl refl;
    of_input = suffixes_later times₁ q.input.at K.of_input A.input_later lt (edits_ahead times values diffs S.input_alike q.input.at al A.input_ahead);
    of_output = suffixes_later output₁ q.output.at K.of_output A.output_later lo A.output_ahead;
  }

  -- ---- after n was acted upon
  module _ {upper : List ℕ} {keen : Bool} {m : Option ℕ} {seedb trackb pended moments : List ℕ} (times₂ values₂ : List ℕ) (diffs₂ : List ℤ) {output₂ waiting₂ pended₂ moments₂ : List ℕ} {a : Walk}
      (C : Acting upper n keen m seedb trackb (edits times₁ values₁ diffs₁) output₁ waiting₁ pended moments q (edits times₂ values₂ diffs₂) output₂ waiting₂ pended₂ moments₂ a) where
    pub known-acted : {seedm pendm inputm outputm : List ℕ} → Known seeds seedm pending pendm times inputm output outputm p
        → length seeds₁ ≡ length seeds → Alike times₂ values₂ diffs₂ → length times₂ ≡ length times → length output₂ ≡ length output
        → Known seeds₁ seedm pending pendm times₂ inputm output₂ outputm a
    known-acted {seedm} {pendm} {inputm} {outputm} K ls al lt lo =
        let ia : drop q.input.at (edits times₂ values₂ diffs₂) ≡ drop q.input.at (edits times values diffs) = C.input_ahead ∙ A.input_ahead in
        let oa : drop q.output.at output₂ ≡ drop q.output.at output = C.output_ahead ∙ A.output_ahead in
        record {
          of_seeds = rw C.same_seeds (suffixes_later seeds₁ q.seeds.at K.of_seeds A.seeds_later ls A.seeds_ahead);
          of_pending = rw C.same_pending (suffixes_later pending q.pending K.of_pending A.pending_later refl refl);
          of_input = rw C.input_at (suffixes_later times₂ q.input.at K.of_input A.input_later lt (edits_ahead times values diffs S.input_alike q.input.at al ia));
          of_output = rw C.output_at (suffixes_later output₂ q.output.at K.of_output A.output_later lo oa);
        }

    pub moments_within : (moments₀ : List ℕ) → p.moments ≤ most_moments → suc most_moments ≤ length moments₀ → length moments₂ ≡ length moments₀ → a.moments ≤ length moments₂
    moments_within moments₀ f g l =
        let e : q.moments ≡ p.moments = A.same_moments in
        by-test (is_made upper n keen) (λ y. let z : a.moments ≡ q.moments + 1 = C.moments_counted ∙ rw y in omega arith) (λ y. let z : a.moments ≡ q.moments = C.moments_counted ∙ rw y in omega arith)

    -- ---- after the meet was taken
    module _ {ahead : Option ℕ} {waits tracked₃ : List ℕ} {r : Walk} (F : Finishing ahead waits tracked₁ tracked₃ a r) where
      pub known_kept : {seeds₂ seedm pendm times₃ inputm output₃ outputm : List ℕ} → Known seeds₂ seedm pending pendm times₃ inputm output₃ outputm a → Known seeds₂ seedm pending pendm times₃ inputm output₃ outputm r
      known_kept K = rw F.same_rest (record { of_seeds = K.of_seeds; of_pending = K.of_pending; of_input = K.of_input; of_output = K.of_output })

      acted_light : weight (take a.input.count (edits times₂ values₂ diffs₂)) + weight (drop a.input.at (edits times₂ values₂ diffs₂)) ≤ most_mass
      acted_light =
          let d : drop a.input.at (edits times₂ values₂ diffs₂) ≡ drop q.input.at (edits times₁ values₁ diffs₁) = ap (λ k. drop k (edits times₂ values₂ diffs₂)) C.input_at ∙ C.input_ahead in
          let li = popped_light in
          rw (C.input_is, d)
          (by-test (is_made upper n keen)
          (λ e. rw e (let k = weight_advance m (take q.input.count (edits times₁ values₁ diffs₁)) in omega arith))
          (λ e. rw e (omega arith)))

      pub standing-kept : length seeds₁ ≡ length seeds → Alike times₂ values₂ diffs₂ → length times₂ ≡ length times → length output₂ ≡ length output → Standing seeds₁ pending times₂ values₂ diffs₂ output₂ r
      standing-kept ls al lt lo =
          let ne : length (edits times values diffs) ≡ length times = length-edits times values diffs S.input_alike in
          let i₁ : a.input.count ≤ q.input.count = C.input_fewer in
          let i₂ : q.input.count ≤ q.input.at = A.input_placed.behind in
          let i₃ : q.input.at ≤ length (edits times values diffs) = A.input_placed.within in
          let i₄ : a.input.at ≡ q.input.at = C.input_at in
          let o₁ : a.output.count ≤ q.output.count = C.output_fewer in
          let o₂ : q.output.count ≤ q.output.at = A.output_placed.behind in
          let o₃ : q.output.at ≤ length output = A.output_placed.within in
          let o₄ : a.output.at ≡ q.output.at = C.output_at in
          rw F.same_rest
          (record {
            seeds_placed = rw (C.same_seeds, ls) A.seeds_placed;
            pending_within = rw C.same_pending A.pending_within;
            input_placed = record { behind = omega arith; within = omega arith };
            input_alike = al;
            input_light = acted_light;
            output_placed = record { behind = omega arith; within = omega arith };
          })

      counted : r.moments ≡ cond (is_made upper n keen) (q.moments + 1) q.moments
      counted = ap (λ (w : Walk). w.moments) F.same_rest ∙ C.moments_counted

      -- a popped waiting join is a moment, so there is still room for what is tracked
      pub roomy-kept : {moments₀ pended₀ : List ℕ} → Roomy pending waiting tracked moments₀ pended₀ p → p.moments ≤ most_moments → (moved-moment : ltb q.waiting p.waiting ≡ true → is_made upper n keen ≡ true)
          → length tracked₁ ≡ length tracked → length tracked₃ ≡ length tracked₁ → length moments₂ ≡ length moments₀ → Roomy pending waiting₂ tracked₃ moments₂ pended₂ r
      roomy-kept {moments₀} {pended₀} R f mm l₁ l₃ lm =
          let room : (p.tracked + (length pending - p.pending)) + (suc most_moments - p.moments) ≤ length tracked = R.tracked_room in
          let u : (q.tracked + p.pending) + q.waiting ≡ (p.tracked + q.pending) + p.waiting = A.tracked_counted in
          let o : p.waiting ≤ q.waiting + 1 = A.waiting_one in
          let w : q.waiting ≤ p.waiting = A.waiting_fewer in
          let i : q.pending ≤ length pending = A.pending_within in
          let i' : p.pending ≤ q.pending = A.pending_later in
          let t : r.tracked ≤ a.tracked = F.tracked_fewer in
          let t' : a.tracked ≡ q.tracked = C.same_tracked in
          let p' : r.pending ≡ q.pending = ap (λ (w : Walk). w.pending) F.same_rest ∙ C.same_pending in
          let m : q.moments ≡ p.moments = A.same_moments in
          let lg : suc most_moments ≤ length moments₀ = R.moments_long in
          let grow : (q.moments ≤ r.moments) × (r.moments ≤ q.moments + 1) = by-test (is_made upper n keen) (λ y. let z : r.moments ≡ q.moments + 1 = counted ∙ rw y in (omega arith, omega arith)) (λ y. let z : r.moments ≡ q.moments = counted ∙ rw y in (omega arith, omega arith)) in
          let g₁ : q.moments ≤ r.moments = grow.0 in
          let g₂ : r.moments ≤ q.moments + 1 = grow.1 in
          record {
            waiting_set = rw (ap (λ (w : Walk). w.waiting) F.same_rest) C.waiting_set;
            pended_set = rw (ap (λ (w : Walk). w.pended) F.same_rest) C.pended_set;
            moments_few = omega arith;
            moments_long = omega arith;
            tracked_room =
                by-test (ltb q.waiting p.waiting)
                (λ h. let z : r.moments ≡ q.moments + 1 = counted ∙ rw (mm h) in omega arith)
                (λ h. let x : p.waiting ≤ q.waiting = ltb-false q.waiting p.waiting h in omega arith);
          }

-- a popped waiting join is a moment
pub popped_moment : {upper : List ℕ} (n : ℕ) (seeds pending times values : List ℕ) (diffs : List ℤ) (output waiting tracked moments pended : List ℕ) (p : Walk) {keen : Bool}
    → Calm upper (state_of seeds pending times values diffs output waiting tracked moments pended p) → Roomy pending waiting tracked moments pended p
    → keen ≡ interesting n (state_of seeds pending times values diffs output waiting tracked moments pended p)
    → moved (eqb n) (take p.waiting waiting) ≡ true → is_made upper n keen ≡ true
unfolding state_of is_moment
popped_moment {upper} n seeds pending times values diffs output waiting tracked moments pended p {keen} c R k e =
    let g : suc most_moments ≤ length moments = R.moments_long in
    let h : p.moments ≤ most_moments = few seeds pending times values diffs output waiting tracked moments pended p c in
    let l : length (take p.moments moments) ≡ p.moments = length-take-le p.moments moments (omega arith) in
    let b : Bounded upper (state_of seeds pending times values diffs output waiting tracked moments pended p) = record { short = c.short; few = λ _. rw l h } in
    ap (λ b. b && short_of upper n) k ∙ waiting_moment upper n (state_of seeds pending times values diffs output waiting tracked moments pended p) b e
