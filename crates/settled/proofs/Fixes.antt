-- The corrections of keys as records, and the rules' corrections.
--
-- rows_done d: the records of the corrections of a key that was worked on
-- fixes-made: the rules' corrections are the records of all keys' corrections, placed and sorted
-- rows_large: whether some are too many or out of range does not depend on that
use Prim.Native.Nat.{ℕ, ◌+◌}
use native.Mathlib.Omega.{arith}
use mathlib.Core.Bool.{Bool, not, ◌||◌}
use mathlib.Core.List.{List, map, map-map}
use mathlib.Core.Path.{◌≡◌, sym, ◌∙◌, ap, ap₂}
use lib.Dec.{ltb}
use lib.IntN.{ℤ}
use lib.ListN.{length, length-map}
use Rattle.grid.specs.Lists.{any, sort, flat}
use Rattle.grid.specs.Records.{Row, most_records, in_range}
use Rattle.grid.proofs.Sort.{length_sort}
use Rattle.rules.specs.Tiles.{tiles}
use Rattle.rules.specs.Retire.{Round}
use Rattle.rules.specs.Call.{Request, Fix, Done, fixes_of, fix_before, fixes_all, too_large}
use Rattle.slots.specs.Slots.{rows_in, rows_too_large}
use Rattle.settled.specs.Call.{as_fix}
use Rattle.settled.proofs.Flat.{map-flat, any_map, any_sort}

-- ---- the rules' corrections
abbrev pub rows_done : Done → List Row
rows_done d = flat (rows_in d.key) d.rounds

module _ (q : Request) (ds : List Done) where
  abbrev placed : List Fix
  placed = map (as_fix q) (flat rows_done ds)

  pub fixes-made : sort (λ f g. not (fix_before g f)) (map (as_fix q) (flat rows_done ds)) ≡ fixes_all q (tiles q.lower q.upper q.held) ds
  unfolding fixes_all fixes_of rows_in
  fixes-made = ap (sort (λ f g. not (fix_before g f))) (map-flat (as_fix q) rows_done ds ∙ (λ i. flat (λ d. each d i) ds))
    where
      each : (d : Done) → map (as_fix q) (rows_done d) ≡ fixes_of q (tiles q.lower q.upper q.held) d
      each d =
          map-flat (as_fix q) (rows_in d.key) d.rounds
          ∙ (λ i. flat (λ (r : Round). map-map (as_fix q) (λ (p : ℕ × ℤ). record { key = d.key; value = p.0; time = r.time; diff = p.1 }) r.fixes i) d.rounds)

  pub rows_large : rows_too_large most_records 0 (flat rows_done ds) ≡ too_large (fixes_all q (tiles q.lower q.upper q.held) ds)
  unfolding rows_too_large too_large
  rows_large =
      let bad : Fix → Bool = (λ (f : Fix). not (in_range f.row.diff)) in
      let le : Fix → Fix → Bool = (λ f g. not (fix_before g f)) in
      let n : 0 + length (flat rows_done ds) ≡ length (sort le placed) = (let k = length-map (flat rows_done ds) (as_fix q) in let l = length_sort le placed in omega arith) in
      ap₂ (λ b m. b || ltb most_records m) (sym (any_sort bad le placed ∙ any_map bad (as_fix q) (flat rows_done ds))) n
      ∙ ap (λ fs. any bad fs || ltb most_records (length fs)) fixes-made
