-- What the walk ends in is what the definition finds.
--
-- found_none, found: a limit was passed, and none was: the counts of the walk's end, as the answer. begun_at, begun: the walk begins where the definition does. finds: so it finds what the definition finds
use Rattle.std.specs.Prelude.{Option, Some, None}
use Prim.Native.Nat.{ℕ}
use mathlib.Core.Bool.{Bool, true, false}
use mathlib.Core.List.{List}
use mathlib.Core.Path.{◌≡◌, sym, ◌∙◌, ap}
use lib.IntN.{ℤ}
use Rattle.rules.specs.Histories.{Edit}
use Rattle.rules.specs.Discover.{State, start, run, discover}
use Rattle.rules.proofs.Fuel.{measure}
use Rattle.steps.specs.Walks.{over_of, state_of}
use Rattle.pops.specs.declared.Walk.{Walk}
use Rattle.discover.specs.Walking.{Ended, Begun}
use Rattle.discover.specs.Finding.{Finds, limited, counted}
use Rattle.discover.specs.declared.Found.{Found}
use Rattle.discover.proofs.Runs.{start_begun, discover-run}

module _ (upper : List ℕ) {S₀ S : State} (e : S₀ ≡ S) where
  pub begun_at : Begun upper S → Begun upper S₀
  begun_at b = rw e b

  module _ (seeds pending times values : List ℕ) (diffs : List ℤ) (output waiting tracked moments pended : List ℕ) (w : Walk) {b : Bool}
      (h : Ended (run upper (measure S₀) S₀) (state_of seeds pending times values diffs output waiting tracked moments pended w)) (q : b ≡ over_of w) where
    pub found_none : b ≡ true → Finds (run upper (measure S) S) moments pended None
    unfolding state_of
    found_none t = rw (← e) (limited (sym h.over_is ∙ sym q ∙ t))

    pub found : b ≡ false → Finds (run upper (measure S) S) moments pended (Some (record { moments = w.moments; pended = w.pended }))
    unfolding state_of
    found t =
        let o : over_of w ≡ false = sym q ∙ t in
        rw (← e) (counted _ (sym h.over_is ∙ o) (ap (λ (s : State). s.moments) (h.same o)) (ap (λ (s : State). s.pended) (h.same o)))

module _ (upper seedtimes pending : List ℕ) (input : List Edit) (outtimes : List ℕ) {S : State} (e : S ≡ start seedtimes pending input outtimes) where
  pub begun : Begun upper S
  begun = rw e (start_begun upper seedtimes pending input outtimes)

  pub finds : {moments pended : List ℕ} {r : Option Found} → Finds (run upper (measure S) S) moments pended r → Finds (discover upper seedtimes pending input outtimes) moments pended r
  finds h = rw (← discover-run upper seedtimes pending input outtimes, ← e) h
