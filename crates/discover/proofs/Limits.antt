-- What is found without a limit passed is within the limits.
--
-- Few s: so it is of a state. discover_few: so it is of the definition. finds_few: and of the answer
use Rattle.std.specs.Prelude.{Some}
use Prim.Native.Nat.{ℕ, suc, ◌+◌, ◌≤◌}
use native.Mathlib.Omega.{arith}
use mathlib.Core.Bool.{false}
use mathlib.Core.List.{List}
use mathlib.Core.Path.{◌≡◌, ap}
use lib.ListN.{length, length-take}
use borrow.Author.Tests.{ltb-false}
use Rattle.grid.proofs.Tests.{or_false_l, or_false_r}
use Rattle.rules.specs.Histories.{Edit}
use Rattle.rules.specs.Discover.{most_moments, State, start, moments_past, waiting_past, pended_past, passes, acted, remeet, step, discover}
use Rattle.rules.proofs.Order.{run-keeps}
use Rattle.discover.specs.Finding.{Finds, counted}
use Rattle.discover.specs.declared.Found.{Found}

pub record Few (s : State) : Type 0 where
  pub moments : s.over ≡ false → length s.moments ≤ most_moments
  pub pended : s.over ≡ false → length s.pended ≤ most_moments

module _ (upper : List ℕ) where
  step_few : (n : ℕ) (s : State) → Few (step upper n s)
  unfolding step remeet acted passes
  step_few n s =
      record {
        moments = λ e. ltb-false most_moments (length (moments_past upper n s)) (or_false_l (passes (moments_past upper n s)) _ (or_false_r s.over _ e));
        pended = λ e. ltb-false most_moments (length (pended_past upper n s)) (or_false_r (passes (waiting_past upper n s)) _ (or_false_r (passes (moments_past upper n s)) _ (or_false_r s.over _ e)));
      }

  module _ (seeds pending : List ℕ) (input : List Edit) (output : List ℕ) where
    start_few : Few (start seeds pending input output)
    unfolding start
    start_few = record { moments = λ e. omega arith; pended = λ e. omega arith }

    discover_few : Few (discover upper seeds pending input output)
    unfolding discover
    discover_few = run-keeps Few upper (λ s n e h. step_few n s) (length seeds + length pending + length input + length output + suc most_moments) (start seeds pending input output) start_few

    -- the columns have room for one more than the limit
    pub finds_few : {moments pended : List ℕ} {f : Found} → Finds (discover upper seeds pending input output) moments pended (Some f) → suc most_moments ≤ length moments → suc most_moments ≤ length pended
        → (f.moments ≤ most_moments) × (f.pended ≤ most_moments)
    finds_few {moments} {pended} {f} (counted _ d m p) a b =
        let n : length (discover upper seeds pending input output).moments ≤ most_moments = discover_few.moments d in
        let q : length (discover upper seeds pending input output).pended ≤ most_moments = discover_few.pended d in
        (omega (arith, ap length m, length-take f.moments moments), omega (arith, ap length p, length-take f.pended pended))
