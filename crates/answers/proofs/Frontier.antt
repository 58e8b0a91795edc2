-- The next frontier.
--
-- frontier_found, frontier_over: there is room for the minimal times, or there is not
use Prim.Native.Nat.{ℕ, ◌≤◌, ◌<◌}
use native.Mathlib.Omega.{arith}
use mathlib.Core.List.{List}
use mathlib.Core.Path.{◌≡◌, sym, ◌∙◌}
use lib.Dec.{leb}
use lib.ListN.{length, take}
use borrow.Author.Tests.{leb-true, leb-false}
use Rattle.std.specs.Prelude.{Option, Some, None}
use Rattle.grid.specs.Frontiers.{minimal}
use Rattle.grid.specs.Slices.{laid, Laid}
use Rattle.grid.proofs.Tests.{by-test}
use Rattle.grid.proofs.Slices.{laid_front}
use Rattle.times.specs.Fitted.{fitted}

count_fits : (n room : ℕ) {k : ℕ} → Some k ≡ fitted n room → (k ≡ n) × (n ≤ room)
unfolding fitted
count_fits n room {k} e =
    by-test (leb n room)
    (λ t. let c : Some k ≡ Some n = rw t at e in (cc, leb-true n room t))
    (λ t. let c : Some k ≡ None = rw t at e in let z : ◌≡◌ {A = ℕ} 0 1 = cc in absurd (omega arith))

over_more : (n room : ℕ) → None ≡ fitted n room → room < n
unfolding fitted
over_more n room e =
    by-test (leb n room)
    (λ t. let c : None ≡ Some n = rw t at e in let z : ◌≡◌ {A = ℕ} 0 1 = cc in absurd (omega arith))
    (λ t. leb-false n room t)

module _ (ts out : List ℕ) {out' : List ℕ} {f : Option ℕ} (e : (f ≡ fitted (length (minimal ts)) (length out)) × (out' ≡ laid (minimal ts) out)) where
  pub frontier_found : {n : ℕ} → f ≡ Some n → (n ≡ length (minimal ts)) × ((length (minimal ts) ≤ length out) × (take n out' ≡ minimal ts))
  frontier_found {n} s =
      let c = count_fits (length (minimal ts)) (length out) (sym s ∙ e.0) in
      let l : Laid (minimal ts) out out' n = record { counted = c.0; holds = e.1 } in
      (c.0, (omega (arith, c.0, c.1), laid_front l c.1))

  pub frontier_over : f ≡ None → length out < length (minimal ts)
  frontier_over s = over_more (length (minimal ts)) (length out) (sym s ∙ e.0)
