-- A step of the code: its parts together.
--
-- left_met: the waiting joins, met with what was ahead when n was gone, are the meet of all that remains
-- together: what the parts leave is the step of the state, and what was kept still is
use Prim.Native.Nat.{ℕ}
use mathlib.Core.Bool.{Bool, ◌||◌}
use mathlib.Core.List.{List, ◌++◌, append_assoc}
use mathlib.Core.Option.{Option, none}
use mathlib.Core.Path.{◌≡◌, sym, ◌∙◌, ap}
use lib.IntN.{ℤ}
use lib.ListN.{length, take, drop}
use Rattle.grid.specs.Times.{meets}
use Rattle.grid.specs.Frontiers.{beyond}
use Rattle.times.specs.Meets.{optional}
use Rattle.edits.specs.Edits.{edits, Alike}
use Rattle.edits.proofs.Edits.{edits_ahead}
use Rattle.joins.proofs.Heads.{meets_last}
use Rattle.joins.proofs.Sets.{set_within}
use Rattle.pops.specs.Popping.{Popping}
use Rattle.steps.specs.Parts.{Acting, Finishing}
use Rattle.pops.specs.Standing.{Standing}
use Rattle.steps.specs.Walks.{state_of, Known, Roomy, Calm, Steps}
use Rattle.pops.specs.declared.Walk.{Walk}
use Rattle.steps.proofs.Kept.{few, alike-kept, moments_within, known-acted, known_kept, standing-kept, roomy-kept, popped_moment}
use Rattle.steps.proofs.Tied.{keen_is, code_step}

-- what was ahead when n was gone is ahead still
module _ {upper : List ℕ} {n : ℕ} {keen : Bool} {m : Option ℕ} {seedb trackb pended moments : List ℕ} (seeds₁ pending times₁ values₁ : List ℕ) (diffs₁ : List ℤ) {output₁ waiting₁ : List ℕ} {q : Walk}
    (times₂ values₂ : List ℕ) (diffs₂ : List ℤ) {output₂ waiting₂ pended₂ moments₂ tracked₁ tracked₃ : List ℕ} {a r : Walk} {ahead : Option ℕ}
    (e : ahead ≡ meets (drop q.seeds.at seeds₁ ++ (drop q.pending pending ++ (drop q.input.at times₁ ++ drop q.output.at output₁))) none)
    (C : Acting upper n keen m seedb trackb (edits times₁ values₁ diffs₁) output₁ waiting₁ pended moments q (edits times₂ values₂ diffs₂) output₂ waiting₂ pended₂ moments₂ a)
    (F : Finishing ahead (take a.waiting waiting₂) tracked₁ tracked₃ a r) where
  left_met : Alike times₁ values₁ diffs₁ → Alike times₂ values₂ diffs₂
      → optional r.m ≡ meets (drop a.seeds.at seeds₁ ++ (drop a.pending pending ++ (drop a.input.at times₂ ++ (drop a.output.at output₂ ++ take a.waiting waiting₂)))) none
  left_met a₁ a₂ =
      let W = take a.waiting waiting₂ in
      let S = drop q.seeds.at seeds₁ in
      let P = drop q.pending pending in
      let I = drop q.input.at times₁ in
      let O = drop q.output.at output₁ in
      let i : drop a.input.at times₂ ≡ I = ap (λ k. drop k times₂) C.input_at ∙ edits_ahead times₁ values₁ diffs₁ a₁ q.input.at a₂ C.input_ahead in
      let o : drop a.output.at output₂ ≡ O = ap (λ k. drop k output₂) C.output_at ∙ C.output_ahead in
      let row : (S ++ (P ++ (I ++ O))) ++ W ≡ S ++ (P ++ (I ++ (O ++ W))) = append_assoc S (P ++ (I ++ O)) W ∙ ap (λ l. S ++ l) (append_assoc P (I ++ O) W ∙ ap (λ l. P ++ l) (append_assoc I O W)) in
      F.m_is ∙ ap (meets W) e ∙ meets_last (S ++ (P ++ (I ++ O))) W ∙ ap (λ l. meets l none) row
      ∙ sym (λ j. meets (drop (C.same_seeds j).at seeds₁ ++ (drop (C.same_pending j) pending ++ (i j ++ (o j ++ W)))) none)

pub together : {upper : List ℕ} {n : ℕ} {seeds seedm pending pendm times values : List ℕ} {diffs : List ℤ} {inputm output outputm waiting tracked moments pended : List ℕ} {p : Walk}
    {seeds₁ : List ℕ} (times₁ values₁ : List ℕ) (diffs₁ : List ℤ) {output₁ waiting₁ tracked₁ : List ℕ} {hit keen : Bool} {q : Walk}
    (times₂ values₂ : List ℕ) (diffs₂ : List ℤ) {output₂ waiting₂ pended₂ moments₂ : List ℕ} {a : Walk} {ahead : Option ℕ} {tracked₃ : List ℕ} {r : Walk}
    → Standing seeds pending times values diffs output p
    → Known seeds seedm pending pendm times inputm output outputm p
    → Roomy pending waiting tracked moments pended p
    → Calm upper (state_of seeds pending times values diffs output waiting tracked moments pended p)
    → Popping n seeds pending (edits times values diffs) output waiting tracked p seeds₁ (edits times₁ values₁ diffs₁) output₁ waiting₁ tracked₁ hit q
    → keen ≡ (hit || beyond (take q.seeds.count seeds₁ ++ take q.tracked tracked₁) n)
    → ahead ≡ meets (drop q.seeds.at seeds₁ ++ (drop q.pending pending ++ (drop q.input.at times₁ ++ drop q.output.at output₁))) none
    → Acting upper n keen (optional q.m) (take q.seeds.count seeds₁) (take q.tracked tracked₁) (edits times₁ values₁ diffs₁) output₁ waiting₁ pended moments q (edits times₂ values₂ diffs₂) output₂ waiting₂ pended₂ moments₂ a
    → Finishing ahead (take a.waiting waiting₂) tracked₁ tracked₃ a r
    → Alike times₁ values₁ diffs₁ → length seeds₁ ≡ length seeds → length times₂ ≡ length times → length values₂ ≡ length values → length diffs₂ ≡ length diffs → length output₂ ≡ length output → length tracked₁ ≡ length tracked → length tracked₃ ≡ length tracked₁ → length moments₂ ≡ length moments
    → Steps upper n (state_of seeds pending times values diffs output waiting tracked moments pended p) (state_of seeds₁ pending times₂ values₂ diffs₂ output₂ waiting₂ tracked₃ moments₂ pended₂ r)
    × (Standing seeds₁ pending times₂ values₂ diffs₂ output₂ r × (Known seeds₁ seedm pending pendm times₂ inputm output₂ outputm r × Roomy pending waiting₂ tracked₃ moments₂ pended₂ r))
together {upper} {n} {seeds} {seedm} {pending} {pendm} {times} {values} {diffs} {inputm} {output} {outputm} {waiting} {tracked} {moments} {pended} {p} {seeds₁} times₁ values₁ diffs₁ times₂ values₂ diffs₂ S K R c A k e C F a₁ ls lt lv ld lo l₁ l₃ lm =
    let f = few seeds pending times values diffs output waiting tracked moments pended p c in
    let al : Alike times₂ values₂ diffs₂ = alike-kept S.input_alike lt lv ld in (
      code_step times values diffs moments pended A times₂ values₂ diffs₂ k C F (left_met seeds₁ pending times₁ values₁ diffs₁ times₂ values₂ diffs₂ e C F a₁ al) al c (set_within C.waiting_set) (set_within C.pended_set) (moments_within times₁ values₁ diffs₁ A S times₂ values₂ diffs₂ C moments f R.moments_long lm),
      (
        standing-kept times₁ values₁ diffs₁ A S times₂ values₂ diffs₂ C F ls al lt lo,
        (
          known_kept times₁ values₁ diffs₁ A S times₂ values₂ diffs₂ C F (known-acted times₁ values₁ diffs₁ A S times₂ values₂ diffs₂ C K ls al lt lo),
          roomy-kept times₁ values₁ diffs₁ A S times₂ values₂ diffs₂ C F R f
              (λ h. popped_moment n seeds pending times values diffs output waiting tracked moments pended p c R (keen_is times values diffs moments pended A k) (sym A.waiting_told ∙ h)) l₁ l₃ lm,
        ),
      ),
    )
