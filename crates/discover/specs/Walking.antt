-- The walk: where a loop stands, and what it has found at its end.
--
-- Kept: what the columns and places of a walk keep
-- Short upper s: what waits is short of upper, while no limit was passed
-- Turned upper s s' more: nothing remains or a limit was passed, or a step was made
-- Going upper R s: the walk ends in R, and stands at s: the rest of the walk from s ends in R; or a limit was passed, in R too
-- Ended R s: s is R; or a limit was passed in both
-- Begun upper s: no limit was passed, and nothing waits that is not short of upper
-- walk_after p r: the walk r, or p where there is none
-- first_walk m: the walk that starts with the meet m. first_state: the state in which it starts
use Rattle.std.specs.Prelude.{Option, Some, None, ℕ, ◌≤◌, Bool, true, false, List, [], ◌≡◌, ℤ}
use Rattle.std.proofs.Math.Option.{none, some}
use Rattle.grid.specs.Frontiers.{beyond}
use Rattle.grid.proofs.Lists.{All}
use Rattle.rules.specs.Discover.{State, next, run}
use Rattle.rules.proofs.Fuel.{measure, Bounded}
use Rattle.pops.specs.Standing.{Standing}
use Rattle.steps.specs.Walks.{state_of, Known, Roomy, Worked, Steps}
use Rattle.pops.specs.declared.Walk.{Walk}
use Rattle.times.specs.Meets.{Meet}

pub record Kept (seeds seedm pending pendm times values : List ℕ) (diffs : List ℤ) (inputm output outputm waiting tracked moments pended work places wvalues : List ℕ) (wdiffs : List ℤ) (w : Walk) : Type 0 where
  pub standing : Standing seeds pending times values diffs output w
  pub known : Known seeds seedm pending pendm times inputm output outputm w
  pub roomy : Roomy pending waiting tracked moments pended w
  pub worked : Worked seeds times output tracked work places wvalues wdiffs

pub record Short (upper : List ℕ) (s : State) : Type 0 where
  pub short : s.over ≡ false → All (λ t. beyond upper t ≡ false) s.waiting

pub data Turned (upper : List ℕ) (s s' : State) (more : Bool) : Type 0 where
  stop : more ≡ false → next s ≡ none → s' ≡ s → Turned upper s s' more
  go : (n : ℕ) → more ≡ true → next s ≡ some n → Steps upper n s s' → Turned upper s s' more

pub data Going (upper : List ℕ) (R s : State) : Type 0 where
  on : (k : ℕ) → measure s ≤ k → run upper k s ≡ R → s.over ≡ false → Bounded upper s → Going upper R s
  off : s.over ≡ true → R.over ≡ true → Going upper R s

pub record Ended (R s : State) : Type 0 where
  pub over_is : s.over ≡ R.over
  pub same : s.over ≡ false → s ≡ R

pub record Begun (upper : List ℕ) (s : State) : Type 0 where
  pub within : s.over ≡ false
  pub bounded : Bounded upper s

abbrev pub walk_after : Walk → Option Walk → Walk
walk_after p None = p
walk_after p (Some w) = w

-- nothing was replayed
abbrev pub first_walk : Meet → Walk
first_walk m = record { seeds = record { count = 0; at = 0 }; pending = 0; input = record { count = 0; at = 0 }; output = record { count = 0; at = 0 }; waiting = 0; tracked = 0; moments = 0; pended = 0; m = m }

-- the state of what was loaded, before the first step
abbrev pub first_state : List ℕ → List ℕ → List ℕ → List ℕ → List ℤ → List ℕ → Meet → State
first_state seeds pending times values diffs output m = state_of seeds pending times values diffs output [] [] [] [] (first_walk m)
