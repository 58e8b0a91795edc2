-- Loads: a list copied to the front of a column, and sorted there.
--
-- map_same: times joined with no meet are as they are
-- loads: what is copied and then sorted, in a part of the column and with a part of the work slice, is loaded
use Prim.Native.Nat.{ℕ, ◌≤◌}
use native.Mathlib.Omega.{arith}
use mathlib.Core.List.{List, [], ◌∷◌, ◌++◌, map}
use mathlib.Core.Option.{Option, none}
use mathlib.Core.Path.{◌≡◌, refl, sym, ◌∙◌, ap, ap₂}
use lib.Dec.{leb}
use lib.ListN.{length, take, drop, length-map}
use Rattle.grid.specs.Lists.{sort}
use Rattle.grid.specs.Times.{joined}
use Rattle.grid.proofs.Sort.{length_sort}
use Rattle.sorting.specs.Halves.{Done}
use Rattle.grid.specs.Slices.{laid, Laid}
use Rattle.grid.proofs.Slices.{laid_fits, laid_front, laid_back}
use Rattle.rules.specs.Histories.{load_times}
use Rattle.histories.specs.Loads.{Loads}

pub map_same : (xs : List ℕ) → map (joined none) xs ≡ xs
unfolding joined
map_same [] = refl
map_same (x ∷ xs) = ap (λ r. x ∷ r) (map_same xs)

pub loads : (o : Option ℕ) (src : List ℕ) (ts ws : List ℕ) {ts₁ x y : List ℕ} → length src ≤ length ts → length src ≤ length ws → ts₁ ≡ laid (map (joined o) src) ts → Done leb (take (length src) ts₁) x y
    → Loads (load_times o src) ts ws (x ++ drop (length src) ts₁) (y ++ drop (length src) ws)
unfolding load_times
loads o src ts ws {ts₁} {x} {y} h k e d =
    let n : length (map (joined o) src) ≡ length src = length-map src (joined o) in
    let m : length (sort leb (map (joined o) src)) ≡ length src = length_sort leb (map (joined o) src) ∙ n in
    let l : Laid (map (joined o) src) ts ts₁ (length src) = record { counted = sym n; holds = e } in
    let f : take (length src) ts₁ ≡ map (joined o) src = laid_front l (omega arith) in
    let x' : x ≡ sort leb (map (joined o) src) = d.sorted ∙ ap (sort leb) f in
    let q : drop (length src) ws ≡ drop (length (sort leb (map (joined o) src))) ws = rw m in
    let r : drop (length src) ts₁ ≡ drop (length (sort leb (map (joined o) src))) ts = rw m (laid_back l (omega arith)) in
    record {
      holds = ap₂ ◌++◌ x' r ∙ sym (laid_fits (sort leb (map (joined o) src)) ts (omega arith));
      work_holds = ap₂ ◌++◌ (d.work-same ∙ x') q ∙ sym (laid_fits (sort leb (map (joined o) src)) ws (omega arith));
    }
