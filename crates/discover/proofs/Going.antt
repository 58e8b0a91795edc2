-- The walk ends in what the definition's run ends in.
--
-- going_end: nothing remains. going_more, going_less: a step more, which lowers the measure
-- left: what is left of the loop. stands_start, stands_turn, stands_less, stands_end: where the loop stands, and that it keeps that
use Prim.Native.Nat.{ℕ, zero, suc, ◌<◌}
use native.Mathlib.Omega.{arith}
use mathlib.Core.Bool.{Bool, true, false, cond, true≢false}
use mathlib.Core.List.{List}
use mathlib.Core.Option.{none, some, none-ne-some}
use mathlib.Core.Path.{◌≡◌, refl, sym, ◌∙◌, ap}
use Rattle.grid.proofs.Tests.{by-test, clash}
use Rattle.rules.specs.Discover.{State, next, step, run}
use Rattle.rules.proofs.Order.{next-over}
use Rattle.rules.proofs.Fuel.{measure, over_stops, spare, step_bounded, measure_falls}
use Rattle.steps.specs.Walks.{Steps}
use Rattle.discover.specs.Walking.{Turned, stop, go, Going, on, off, Ended, Begun}

pub run_none : (upper : List ℕ) (k : ℕ) (s : State) → next s ≡ none → run upper k s ≡ s
unfolding run
run_none upper zero s e = refl
run_none upper (suc k) s e = rw (e, run)

pub run_some : (upper : List ℕ) (k n : ℕ) (s : State) → next s ≡ some n → run upper (suc k) s ≡ run upper k (step upper n s)
unfolding run
run_some upper k n s e = rw (e, run)

module _ {upper : List ℕ} {R : State} where
  going_end : {s : State} → Going upper R s → next s ≡ none → Ended R s
  going_end {s} (on k m r o b) e = let q : s ≡ R = sym (run_none upper k s e) ∙ r in record { over_is = ap (λ (t : State). t.over) q; same = λ _. q }
  going_end {s} (off o r) e = record { over_is = o ∙ sym r; same = λ f. clash s.over o f }

  going_more : {s s' : State} (n : ℕ) → Going upper R s → next s ≡ some n → Steps upper n s s' → Going upper R s'
  going_more {s} {s'} n (off o r) e st = absurd (none-ne-some n (sym (over_stops s o) ∙ e))
  going_more {s} {s'} n (on zero m r o b) e st = absurd (spare s (b.few o) m)
  going_more {s} {s'} n (on (suc k) m r o b) e st =
      let r' : run upper k (step upper n s) ≡ R = sym (run_some upper k n s e) ∙ r in
      let d : measure (step upper n s) < measure s = measure_falls upper n s b e in
      by-test s'.over
      (λ x. let y : (step upper n s).over ≡ true = sym st.over_is ∙ x in
      off x (sym (ap (λ (z : State). z.over) (sym (run_none upper k (step upper n s) (over_stops (step upper n s) y)) ∙ r')) ∙ y))
      (λ x. let q : s' ≡ step upper n s = st.same x in
      rw q (on k (omega arith) r' (sym st.over_is ∙ x) (step_bounded upper n s b)))

  going_less : {s s' : State} (n : ℕ) → Going upper R s → next s ≡ some n → Steps upper n s s' → s'.over ≡ false → measure s' < measure s
  going_less {s} {s'} n (off o r) e st f = absurd (none-ne-some n (sym (over_stops s o) ∙ e))
  going_less {s} {s'} n (on k m r o b) e st f = rw (st.same f) (measure_falls upper n s b e)

unfoldable pub left : State → ℕ
left s = cond s.over 0 (suc (measure s))

pub stands_start : {upper : List ℕ} (s : State) → Begun upper s → Going upper (run upper (measure s) s) s
stands_start s f = on (measure s) (omega arith) refl f.within f.bounded

pub stands_turn : {upper : List ℕ} {R s s' : State} → Going upper R s → Turned upper s s' true → Going upper R s'
stands_turn g (stop e f q) = absurd (true≢false e)
stands_turn g (go n e f q) = going_more n g f q

fewer : (b b' : Bool) (m m' : ℕ) → b ≡ false → (b' ≡ false → m' < m) → cond b' 0 (suc m') < cond b 0 (suc m)
fewer b true m m' e f = rw e (omega arith)
fewer b false m m' e f = let k : m' < m = f refl in rw e (omega arith)

pub stands_less : {upper : List ℕ} {R s s' : State} → Going upper R s → Turned upper s s' true → left s' < left s
unfolding left
stands_less g (stop e f q) = absurd (true≢false e)
stands_less {s = s} {s'} g (go n e f q) = fewer s.over s'.over (measure s) (measure s') (next-over s n f) (λ x. going_less n g f q x)

pub stands_end : {upper : List ℕ} {R s s' : State} → Going upper R s → Turned upper s s' false → Ended R s'
stands_end g (stop e f q) = rw q (going_end g f)
stands_end g (go n e f q) = absurd (true≢false (sym e))
