-- A turn of the walk.
--
-- over_stop: a limit was passed. next_is: the least of the heads that the code reads is the next time. none_stop: nothing remains. calm: what a step asks
use Prim.Native.Nat.{ℕ}
use mathlib.Core.Bool.{true, false}
use mathlib.Core.List.{List, ◌++◌, map}
use mathlib.Core.Option.{Option, none, some}
use mathlib.Core.Path.{◌≡◌, refl, sym, ◌∙◌, ap}
use lib.IntN.{ℤ}
use lib.ListN.{take, drop}
use Rattle.grid.proofs.Operations.{map-drop}
use Rattle.times.specs.Meets.{optional}
use Rattle.times.specs.Meets.{Meet}
use Rattle.rules.specs.Histories.{time_of}
use Rattle.rules.specs.Discover.{State, least, heads, next}
use Rattle.rules.proofs.Fuel.{over_stops}
use Rattle.histories.specs.Places.{history_of}
use Rattle.edits.specs.Edits.{edits, Alike}
use Rattle.edits.proofs.Edits.{times-edits}
use Rattle.steps.specs.Walks.{over_of, state_of, Calm, Steps}
use Rattle.pops.specs.declared.Walk.{Walk}
use Rattle.discover.specs.Walking.{Short, Turned, stop, go}

module _ (seeds pending times values : List ℕ) (diffs : List ℤ) (output waiting tracked moments pended : List ℕ) (p : Walk) where
  abbrev S : State
  S = state_of seeds pending times values diffs output waiting tracked moments pended p

  pub over_stop : {upper : List ℕ} → over_of p ≡ true → Turned upper S S false
  unfolding state_of
  over_stop e = stop refl (over_stops S e) refl

  pub calm : {upper : List ℕ} → Short upper S → over_of p ≡ false → Calm upper S
  unfolding state_of
  calm h e = record { within = e; short = h.short e }

  next_is : Alike times values diffs → over_of p ≡ false → {o : Option ℕ}
      → o ≡ least (take 1 (drop p.seeds.at seeds) ++ (take 1 (drop p.pending pending) ++ (take 1 (drop p.input.at times) ++ (take 1 (drop p.output.at output) ++ take 1 (take p.waiting waiting)))))
      → next S ≡ o
  unfolding state_of history_of next heads
  next_is a e f =
      let t : map time_of (drop p.input.at (edits times values diffs)) ≡ drop p.input.at times = map-drop time_of p.input.at (edits times values diffs) ∙ ap (drop p.input.at) (times-edits times values diffs a) in
      rw (e, t) (sym f)

  pub none_stop : {upper : List ℕ} → Alike times values diffs → over_of p ≡ false → (o : Meet)
      → optional o ≡ least (take 1 (drop p.seeds.at seeds) ++ (take 1 (drop p.pending pending) ++ (take 1 (drop p.input.at times) ++ (take 1 (drop p.output.at output) ++ take 1 (take p.waiting waiting)))))
      → optional o ≡ none → Turned upper S S false
  none_stop a e o f g = stop refl (next_is a e (sym g ∙ f)) refl

  pub steps_on : {upper : List ℕ} → Alike times values diffs → over_of p ≡ false → (o : Meet) {n : ℕ} {s : State}
      → optional o ≡ least (take 1 (drop p.seeds.at seeds) ++ (take 1 (drop p.pending pending) ++ (take 1 (drop p.input.at times) ++ (take 1 (drop p.output.at output) ++ take 1 (take p.waiting waiting)))))
      → optional o ≡ some n → Steps upper n S s → Turned upper S s true
  steps_on a e o {n = n} f g h = go n refl (next_is a e (sym g ∙ f)) h
