-- The definition's run is the same for every fuel that suffices.
--
-- run_settled: a run that ends is the run of as many steps as the measure. discover-run: so is discover
use Prim.Native.Nat.{ℕ, zero, suc, ◌≤◌, ◌<◌}
use native.Mathlib.Omega.{arith}
use mathlib.Core.List.{List}
use mathlib.Core.Option.{Option, none, some}
use mathlib.Core.Path.{◌≡◌, refl, sym, ◌∙◌}
use Rattle.rules.specs.Histories.{Edit}
use Rattle.rules.specs.Discover.{State, start, next, step, run, discover}
use Rattle.rules.proofs.Order.{next-over}
use Rattle.rules.proofs.Fuel.{measure, spare, Bounded, step_bounded, measure_falls, start_bounded, discover_ends}
use Rattle.discover.specs.Walking.{Begun}
use Rattle.discover.proofs.Going.{run_none, run_some}

module _ (upper : List ℕ) where
  run_settled : (j k : ℕ) (s : State) → Bounded upper s → next (run upper j s) ≡ none → measure s ≤ k → run upper k s ≡ run upper j s
  unfolding run
  run_settled zero k s b e h = run_none upper k s e
  run_settled (suc j) k s b e h = go (next s) refl k h (run_settled j)
    where
      go : (o : Option ℕ) → next s ≡ o → (k : ℕ) → measure s ≤ k → ((k : ℕ) (t : State) → Bounded upper t → next (run upper j t) ≡ none → measure t ≤ k → run upper k t ≡ run upper j t) → run upper k s ≡ run upper (suc j) s
      go none f k h ih = run_none upper k s f ∙ sym (run_none upper (suc j) s f)
      go (some n) f zero h ih = absurd (spare s (b.few (next-over s n f)) h)
      go (some n) f (suc k) h ih =
          let d : measure (step upper n s) < measure s = measure_falls upper n s b f in
          run_some upper k n s f ∙ ih k (step upper n s) (step_bounded upper n s b) (rw (run_some upper j n s f) at e) (omega arith) ∙ sym (run_some upper j n s f)

  module _ (seeds pending : List ℕ) (input : List Edit) (output : List ℕ) where
    pub start_begun : Begun upper (start seeds pending input output)
    unfolding start
    start_begun = record { within = refl; bounded = start_bounded upper seeds pending input output }

    pub discover-run : run upper (measure (start seeds pending input output)) (start seeds pending input output) ≡ discover upper seeds pending input output
    unfolding discover
    discover-run = run_settled _ (measure (start seeds pending input output)) (start seeds pending input output) start_begun.bounded (discover_ends upper seeds pending input output) (omega arith)
