-- The sizes of the diffs: no step raises their sum.
--
-- weight-append: of lists in a row. weight_past: what moves to the buffer is no longer ahead. weight_advance, weight_load: consolidation adds diffs or drops them
use Prim.Native.Nat.{ℕ, ◌+◌, ◌≤◌}
use native.Mathlib.Omega.{arith}
use mathlib.Core.Bool.{Bool}
use mathlib.Core.List.{List, [], ◌∷◌, ◌++◌, map}
use mathlib.Core.Option.{Option, none, some}
use mathlib.Core.Path.{◌≡◌, refl, ap}
use lib.IntN.{nat_abs}
use Rattle.grid.specs.Lists.{front, past}
use Rattle.grid.specs.Consolidate.{consolidate}
use Rattle.grid.proofs.Tests.{by-test}
use Rattle.rules.specs.Histories.{Edit, earlier, by_value, joined_edit, load_edits, advance_edits}
use Rattle.consolidation.specs.Entries.{mass}
use Rattle.grid.proofs.Sizes.{sizing_nat_abs, mass_consolidate}
use Rattle.consolidation.proofs.Laws.{mass-entries}
use Rattle.pops.specs.Standing.{weight}

pub weight-append : (es fs : List Edit) → weight (es ++ fs) ≡ weight es + weight fs
unfolding weight mass
weight-append [] fs = omega arith
weight-append (e ∷ es) fs = let ih = weight-append es fs in omega arith

pub weight_past : (p : Edit → Bool) (es : List Edit) → weight (front p es) + weight (past p es) ≡ weight es
unfolding weight mass
weight_past p [] = refl
weight_past p (e ∷ es) = let ih = weight_past p es in by-test (p e) (λ c. rw c (omega arith)) (λ c. rw c (omega arith))

weight-joined : (m : Option ℕ) (es : List Edit) → weight (map (joined_edit m) es) ≡ weight es
unfolding weight mass joined_edit
weight-joined m [] = refl
weight-joined m (e ∷ es) = ap (λ k. nat_abs e.1 + k) (weight-joined m es)

weight_consolidate : (lt : ℕ × ℕ → ℕ × ℕ → Bool) (es : List Edit) → weight (consolidate lt es) ≤ weight es
unfolding weight
weight_consolidate lt es = rw (← mass-entries (consolidate lt es), ← mass-entries es) (mass_consolidate nat_abs sizing_nat_abs lt es)

pub weight_advance : (m : Option ℕ) (es : List Edit) → weight (advance_edits m es) ≤ weight es
unfolding advance_edits
weight_advance none es = omega arith
weight_advance (some m) es = let a = weight_consolidate by_value (map (joined_edit (some m)) es) in let b = weight-joined (some m) es in omega arith

pub weight_load : (m : Option ℕ) (es : List Edit) → weight (load_edits m es) ≤ weight es
unfolding load_edits
weight_load m es = let a = weight_consolidate earlier (map (joined_edit m) es) in let b = weight-joined m es in omega arith
