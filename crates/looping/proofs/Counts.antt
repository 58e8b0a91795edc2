-- A window has at most as many crossings as a key may have moments.
--
-- crossings_few: so it is if no limit was passed
use Prim.Native.Nat.{ℕ, ◌≤◌}
use native.Mathlib.Omega.{arith}
use mathlib.Core.Bool.{Bool, false}
use mathlib.Core.List.{List, [], ◌∷◌, map}
use mathlib.Core.Path.{◌≡◌, ◌∙◌}
use lib.ListN.{length, length-map}
use Rattle.grid.proofs.Lists.{All, cons}
use Rattle.rules.specs.Discover.{most_moments}
use Rattle.rules.specs.Retire.{Round}
use Rattle.rules.proofs.Width.{longest, window_bound, settle-length}
use Rattle.slots.specs.Slots.{Slot, slot_rounds, crossed_in, window_crossings}
use Rattle.finding.specs.Windowed.{moments_of, window_over}
use Rattle.seeking.proofs.Seeking.{found_few, each_few}
use Rattle.turns.specs.Runs.{Runs, found_of, slot_at}

module _ (mode : ℕ) (R : Runs) where
  -- in which of its rounds a slot crosses
  abbrev crossed : Slot → List Bool
  crossed s = crossed_in (slot_rounds mode s)

  crossed_length : (k : ℕ) → length (crossed (slot_at R k)) ≡ length (found_of R k).moments
  unfolding slot_rounds slot_at
  crossed_length k = length-map (slot_rounds mode (slot_at R k)) (λ (r : Round). r.crossed) ∙ settle-length mode _ _ (found_of R k).moments

  longest_few : (ks : List ℕ) → All (λ m. length m ≤ most_moments) (moments_of (map (found_of R) ks)) → longest (map crossed (map (slot_at R) ks)) ≤ most_moments
  longest_few [] a = omega arith
  longest_few (k ∷ ks) (cons h a) = let l = crossed_length k in let n = longest_few ks a in omega arith

  pub crossings_few : (most : ℕ) (over : Bool) (n : ℕ) (ks : List ℕ) → window_over most over n (map (found_of R) ks) ≡ false → window_crossings mode (map (slot_at R) ks) ≤ most_moments
  unfolding window_crossings
  crossings_few most over n ks e =
      let b = window_bound (map crossed (map (slot_at R) ks)) in
      let l = longest_few ks (each_few most (found_of R) (found_few R.upper _ _ _ _) over n ks e) in
      omega arith
