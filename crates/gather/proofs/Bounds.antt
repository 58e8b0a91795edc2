-- How much a key holds, and what is ahead of it.
--
-- front_light: what is ahead up to a moment is no larger than all that is ahead. gathered_light: what is held afterwards and what is still ahead is no larger than what was held and what was ahead
-- gathered_ascends: what is held afterwards ascends by value.
use Prim.Native.Nat.{ℕ, ◌+◌, ◌≤◌}
use native.Mathlib.Omega.{arith}
use mathlib.Core.Bool.{true, not, ◌&&◌}
use mathlib.Core.Logic.{⊎_elim}
use mathlib.Core.Path.{◌≡◌, ap}
use mathlib.Core.List.{List, ◌++◌, map}
use mathlib.Core.Option.{some}
use lib.Dec.{leb, ltb}
use lib.IntN.{nat_abs}
use borrow.Author.Tests.{le-leb, ltb-true, ltb-false, not-true}
use Rattle.grid.specs.Lists.{front, past}
use Rattle.grid.proofs.Tests.{and_l, or_cases}
use Rattle.grid.proofs.Lists.{all_imp, all_map}
use Rattle.grid.proofs.Consolidate as consolidate
use Rattle.grid.proofs.Consolidate.{Canon, canon_consolidate}
use Rattle.grid.proofs.Sizes.{sizing_nat_abs, mass, mass-append}
use Rattle.grid.proofs.Sort.{none, more}
use Rattle.rules.specs.Histories.{Edit, value_of, by_value, joined_edit, advance_edits}
use Rattle.rules.proofs.Histories.{strict_by_value}
use Rattle.rules.proofs.Order.{front_past}
use Rattle.rules.proofs.Wave.{advance_mass}
use Rattle.gather.specs.Gather.{Ascends, up_to, gathered}

pub front_light : (t : ℕ) (l : List Edit) → mass nat_abs (front (up_to t) l) ≤ mass nat_abs l
front_light t l = let s : mass nat_abs (front (up_to t) l ++ past (up_to t) l) ≡ mass nat_abs l = ap (mass nat_abs) (front_past (up_to t) l) in omega (arith, mass-append nat_abs (front (up_to t) l) (past (up_to t) l), s)

pub gathered_light : (t m : ℕ) (held ahead : List Edit) → mass nat_abs (gathered t m held ahead) + mass nat_abs (past (up_to t) ahead) ≤ mass nat_abs held + mass nat_abs ahead
gathered_light t m held ahead =
    let f : List Edit = front (up_to t) ahead in
    let p : List Edit = past (up_to t) ahead in
    let s : mass nat_abs (f ++ p) ≡ mass nat_abs ahead = ap (mass nat_abs) (front_past (up_to t) ahead) in
    omega (arith, advance_mass sizing_nat_abs (some m) (held ++ f), mass-append nat_abs held f, mass-append nat_abs f p, s)

-- ---- in which order
value-first : (k l : ℕ × ℕ) → by_value k l ≡ true → k.1 ≤ l.1
value-first k l e =
    ⊎_elim (λ t. let h = ltb-true k.1 l.1 t in omega arith)
    (λ t. ltb-false l.1 k.1 (not-true (ltb l.1 k.1) (and_l (not (ltb l.1 k.1)) (ltb k.0 l.0) t)))
    (or_cases (ltb k.1 l.1) (not (ltb l.1 k.1) && ltb k.0 l.0) e)

canon_ascends : {es : List Edit} → Canon by_value es → Ascends es
unfolding value_of
canon_ascends consolidate.none = none
canon_ascends (consolidate.more {y = y} n h c) = more (all_map {P = λ (v : ℕ). leb y.0.1 v ≡ true} value_of (all_imp (λ (z : Edit) e. le-leb y.0.1 z.0.1 (value-first y.0 z.0 e)) h)) (canon_ascends c)

pub gathered_ascends : (t m : ℕ) (held ahead : List Edit) → Ascends (gathered t m held ahead)
unfolding advance_edits
gathered_ascends t m held ahead = canon_ascends (canon_consolidate strict_by_value (map (joined_edit (some m)) (held ++ front (up_to t) ahead)))
