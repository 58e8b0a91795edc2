-- The parts of the code's step, at the state that the columns hold.
--
-- keen_is: what the code answers is whether n is interesting. code_step: what the code leaves is the step of the state
use Prim.Native.Nat.{ℕ, ◌≤◌}
use mathlib.Core.Bool.{Bool, true, false, cond, ◌&&◌, ◌||◌}
use mathlib.Core.List.{List, [], ◌∷◌, ◌++◌, map}
use mathlib.Core.Option.{Option, none}
use mathlib.Core.Path.{◌≡◌, refl, sym, ◌∙◌, ap}
use lib.Dec.{ltb, eqb}
use lib.IntN.{ℤ}
use lib.ListN.{length, take, drop}
use lib.Seq.{length-take-le}
use Rattle.grid.specs.Lists.{any}
use Rattle.grid.specs.Times.{below, joined, meets, put, puts}
use Rattle.grid.specs.Frontiers.{beyond}
use Rattle.grid.proofs.Operations.{map-drop}
use Rattle.times.specs.Meets.{optional}
use Rattle.rules.specs.Histories.{Edit, History, TimeHistory, ValueHistory, time_of, stepped, advance_times, advance_edits}
use Rattle.rules.specs.Discover.{most_moments, State, remaining, seeds_past, tracked_past, known, interesting, is_moment, input_past, output_past, made_of_buffers, made_short, made_beyond, made, moments_past, passes}
use Rattle.histories.specs.Places.{history_of}
use Rattle.edits.specs.Edits.{edits, Alike}
use Rattle.edits.proofs.Edits.{times-edits}
use Rattle.joins.specs.Sets.{Grown}
use Rattle.pops.specs.Popping.{seeds_after, Popping}
use Rattle.steps.specs.Parts.{made_of, Acting, Finishing}
use Rattle.steps.specs.Walks.{state_of, Calm, Steps}
use Rattle.pops.specs.declared.Walk.{Walk}
use Rattle.steps.proofs.States.{Fields, fields_step}

abbrev held : {A : Type 0} → List A → List A → History A
held ahead buffer = record { ahead = ahead; buffer = buffer }

cond_history : {A : Type 0} (c : Bool) (ahead x y : List A) → held ahead (cond c x y) ≡ cond c (held ahead x) (held ahead y)
cond_history true ahead x y = refl
cond_history false ahead x y = refl

grown_as : {ts us us' l : List ℕ} → us ≡ us' → Grown ts us l → Grown ts us' l
grown_as e g = rw (← e) g

acting_as : {upper : List ℕ} {n : ℕ} {keen keen' : Bool} {m : Option ℕ} {seedb seedb' trackb trackb' : List ℕ} {E : List Edit} {output waiting pended moments : List ℕ} {q : Walk} {E' : List Edit} {output' waiting' pended' moments' : List ℕ} {a : Walk}
    → keen ≡ keen' → seedb ≡ seedb' → trackb ≡ trackb'
    → Acting upper n keen m seedb trackb E output waiting pended moments q E' output' waiting' pended' moments' a
    → Acting upper n keen' m seedb' trackb' E output waiting pended moments q E' output' waiting' pended' moments' a
acting_as e f g h = rw (← e, ← f, ← g) h

module _ {n : ℕ} {seeds pending : List ℕ} (times values : List ℕ) (diffs : List ℤ) {output waiting tracked : List ℕ} (moments pended : List ℕ) {p : Walk} {seeds₁ : List ℕ} {E₁ : List Edit} {output₁ waiting₁ tracked₁ : List ℕ} {hit : Bool} {q : Walk}
    (A : Popping n seeds pending (edits times values diffs) output waiting tracked p seeds₁ E₁ output₁ waiting₁ tracked₁ hit q) where
  abbrev S : State
  S = state_of seeds pending times values diffs output waiting tracked moments pended p

  seeds_is : history_of seeds₁ q.seeds ≡ seeds_past n S
  unfolding state_of seeds_past seeds_after
  seeds_is = A.seeds_are

  seedb_is : take q.seeds.count seeds₁ ≡ (seeds_past n S).buffer
  unfolding history_of
  seedb_is = ap (λ (h : TimeHistory). h.buffer) seeds_is

  trackb_is : take q.tracked tracked₁ ≡ tracked_past n S
  unfolding state_of tracked_past
  trackb_is = A.tracked_is

  pub keen_is : {keen : Bool} → keen ≡ (hit || beyond (take q.seeds.count seeds₁ ++ take q.tracked tracked₁) n) → keen ≡ interesting n S
  unfolding state_of history_of interesting known beyond
  keen_is k = k ∙ (λ j. A.hit_is j || any (λ t. below t n) (seedb_is j ++ trackb_is j))

  module _ {upper : List ℕ} {keen : Bool} (times₂ values₂ : List ℕ) (diffs₂ : List ℤ) {output₂ waiting₂ pended₂ moments₂ : List ℕ} {a : Walk} {ahead : Option ℕ} {waits tracked₃ : List ℕ} {r : Walk}
      (k : keen ≡ (hit || beyond (take q.seeds.count seeds₁ ++ take q.tracked tracked₁) n))
      (C₀ : Acting upper n keen (optional q.m) (take q.seeds.count seeds₁) (take q.tracked tracked₁) E₁ output₁ waiting₁ pended moments q (edits times₂ values₂ diffs₂) output₂ waiting₂ pended₂ moments₂ a)
      (F : Finishing ahead waits tracked₁ tracked₃ a r)
      (L : optional r.m ≡ meets (drop a.seeds.at seeds₁ ++ (drop a.pending pending ++ (drop a.input.at times₂ ++ (drop a.output.at output₂ ++ take a.waiting waiting₂)))) none) where
    abbrev T : State
    T = state_of seeds₁ pending times₂ values₂ diffs₂ output₂ waiting₂ tracked₃ moments₂ pended₂ r

    C : Acting upper n (interesting n S) (optional q.m) (seeds_past n S).buffer (tracked_past n S) E₁ output₁ waiting₁ pended moments q (edits times₂ values₂ diffs₂) output₂ waiting₂ pended₂ moments₂ a
    C = acting_as (keen_is k) seedb_is trackb_is C₀

    same : {B : Type 0} (f : Walk → B) → (f r ≡ f (record { seeds = a.seeds; pending = a.pending; input = a.input; output = a.output; waiting = a.waiting; tracked = r.tracked; moments = a.moments; pended = a.pended; m = r.m }))
    same f = ap f F.same_rest

    input_is : history_of (edits times₂ values₂ diffs₂) a.input ≡ input_past upper n S
    unfolding state_of history_of input_past stepped is_moment
    input_is =
        let ahead : drop a.input.at (edits times₂ values₂ diffs₂) ≡ (stepped (λ e. eqb n (time_of e)) S.input).ahead = ap (λ i. drop i (edits times₂ values₂ diffs₂)) C.input_at ∙ C.input_ahead ∙ ap (λ (h : ValueHistory). h.ahead) A.input_is in
        let b : take q.input.count E₁ ≡ (stepped (λ e. eqb n (time_of e)) S.input).buffer = ap (λ (h : ValueHistory). h.buffer) A.input_is in
        let buffer : take a.input.count (edits times₂ values₂ diffs₂) ≡ cond (is_moment upper n S) (advance_edits (optional p.m) (stepped (λ e. eqb n (time_of e)) S.input).buffer) (stepped (λ e. eqb n (time_of e)) S.input).buffer = C.input_is ∙ (λ j. cond (is_moment upper n S) (advance_edits (optional (A.same_m j)) (b j)) (b j)) in
        (λ j. record { ahead = ahead j; buffer = buffer j }) ∙ cond_history (is_moment upper n S) (stepped (λ e. eqb n (time_of e)) S.input).ahead (advance_edits (optional p.m) (stepped (λ e. eqb n (time_of e)) S.input).buffer) (stepped (λ e. eqb n (time_of e)) S.input).buffer

    output_is : history_of output₂ a.output ≡ output_past upper n S
    unfolding state_of history_of output_past stepped is_moment
    output_is =
        let ahead : drop a.output.at output₂ ≡ (stepped (eqb n) S.output).ahead = ap (λ i. drop i output₂) C.output_at ∙ C.output_ahead ∙ ap (λ (h : TimeHistory). h.ahead) A.output_is in
        let b : take q.output.count output₁ ≡ (stepped (eqb n) S.output).buffer = ap (λ (h : TimeHistory). h.buffer) A.output_is in
        let buffer : take a.output.count output₂ ≡ cond (is_moment upper n S) (advance_times (optional p.m) (stepped (eqb n) S.output).buffer) (stepped (eqb n) S.output).buffer = C.output_is ∙ (λ j. cond (is_moment upper n S) (advance_times (optional (A.same_m j)) (b j)) (b j)) in
        (λ j. record { ahead = ahead j; buffer = buffer j }) ∙ cond_history (is_moment upper n S) (stepped (eqb n) S.output).ahead (advance_times (optional p.m) (stepped (eqb n) S.output).buffer) (stepped (eqb n) S.output).buffer

    made_is : made_of upper n (interesting n S) (map time_of (take a.input.count (edits times₂ values₂ diffs₂))) (take a.output.count output₂) (seeds_past n S).buffer (tracked_past n S) ≡ made upper n S
    unfolding history_of made_of made made_short made_beyond made_of_buffers known is_moment
    made_is = λ j. made_of upper n (interesting n S) (map time_of (input_is j).buffer) (output_is j).buffer (seeds_past n S).buffer (tracked_past n S)

    module _ (al : Alike times₂ values₂ diffs₂) where
      left_is : drop a.seeds.at seeds₁ ++ (drop a.pending pending ++ (drop a.input.at times₂ ++ (drop a.output.at output₂ ++ take a.waiting waiting₂))) ≡ remaining T
      unfolding state_of history_of remaining
      left_is =
          sym (λ j. drop (same (λ w. w.seeds.at) j) seeds₁ ++ (drop (same (λ w. w.pending) j) pending
          ++ ((map-drop time_of r.input.at (edits times₂ values₂ diffs₂) ∙ ap (drop r.input.at) (times-edits times₂ values₂ diffs₂ al) ∙ ap (λ i. drop i times₂) (same (λ w. w.input.at))) j
          ++ (drop (same (λ w. w.output.at) j) output₂ ++ take (same (λ w. w.waiting) j) waiting₂))))

      pub code_step : Calm upper S → a.waiting ≤ length waiting₂ → a.pended ≤ length pended₂ → a.moments ≤ length moments₂ → Steps upper n S T
      unfolding state_of moments_past is_moment passes
      code_step calm lw lp lm = fields_step upper n S T fields
        where
          moments_long : r.moments ≡ length (take r.moments moments₂)
          moments_long = sym (length-take-le r.moments moments₂ (rw (same (λ w. w.moments)) lm))

          waiting_long : r.waiting ≡ length (take r.waiting waiting₂)
          waiting_long = sym (length-take-le r.waiting waiting₂ (rw (same (λ w. w.waiting)) lw))

          pended_long : r.pended ≡ length (take r.pended pended₂)
          pended_long = sym (length-take-le r.pended pended₂ (rw (same (λ w. w.pended)) lp))

          fields : Fields upper n S T
          fields = record {
            calm = calm.within;
            seeds = ap (history_of seeds₁) (same (λ w. w.seeds) ∙ C.same_seeds) ∙ seeds_is;
            pending = ap (λ i. drop i pending) (same (λ w. w.pending) ∙ C.same_pending) ∙ A.pending_is;
            input = ap (history_of (edits times₂ values₂ diffs₂)) (same (λ w. w.input)) ∙ input_is;
            output = ap (history_of output₂) (same (λ w. w.output)) ∙ output_is;
            waiting = rw (same (λ w. w.waiting), ← made_is, ← A.waiting_is) C.waiting_is;
            pended = rw (same (λ w. w.pended), ← made_is) (grown_as (ap (λ i. cond (beyond upper n && interesting n S) (put n (take i pended)) (take i pended)) A.same_pended) C.pended_is);
            moments = ap (λ i. take i moments₂) (same (λ w. w.moments)) ∙ C.moments_are ∙ ap (λ i. cond (is_moment upper n S) (take i moments ++ (n ∷ [])) (take i moments)) A.same_moments;
            m = L ∙ ap (λ l. meets l none) left_is;
            tracked = F.tracked_is ∙ ap (λ l. puts (map (joined (optional r.m)) l) []) (ap (λ i. take i tracked₁) C.same_tracked ∙ trackb_is);
            limits = λ j. ltb most_moments (moments_long j) || (ltb most_moments (waiting_long j) || ltb most_moments (pended_long j));
          }
