-- The windows of a call, one after the other, give the rules' corrections, crossings and status 19.
--
-- Rules q rows count: rows and count are what the rules say of a call. call_settled: those of its windows are
use Prim.Native.Nat.{ℕ, zero, suc, ◌≤◌}
use native.Mathlib.Omega.{arith}
use mathlib.Core.Bool.{Bool, true, not, ◌||◌}
use mathlib.Core.List.{List, [], ◌∷◌, map, map-map}
use mathlib.Core.Path.{◌≡◌, refl, sym, ◌∙◌, ap, ap₂}
use lib.Dec.{eqb, leb}
use lib.ListN.{length, drop, length-map}
use borrow.Author.Tests.{leb-true}
use Rattle.grid.specs.Lists.{keep, sort, flat}
use Rattle.grid.specs.Records.{Row, most_records}
use Rattle.grid.proofs.Tests.{and_l, and_r}
use Rattle.grid.proofs.Operations.{map-take, map-drop}
use Rattle.rules.specs.Retire.{windows, rounds_of, crossings}
use Rattle.rules.specs.Call.{Request, check11, fix_before, changed, work, work_all, crossed_of, too_large}
use Rattle.rules.specs.Runs.{work_of}
use Rattle.rules.proofs.Width.{sum_of, windows_whole}
use Rattle.rules.proofs.Statuses.{Accepted, fixes_found}
use Rattle.slots.specs.Slots.{slot_rounds, crossed_in, slot_rows, rows_too_large, window_rows, window_crossings}
use Rattle.settled.specs.Call.{slot_of, windows_of, rows_of, crossings_of, as_fix}
use Rattle.settled.proofs.Flat.{flat_map, flat-flat, length-flat}
use Rattle.settled.proofs.Fixes.{rows_done, fixes-made, rows_large}

-- ---- windows
windows-map : {A B : Type 0} (f : A → B) (n width : ℕ) (xs : List A) → windows n width (map f xs) ≡ map (map f) (windows n width xs)
windows-map f zero width xs = refl
windows-map f (suc n) width [] = refl
windows-map f (suc n) width (x ∷ xs) =
    ap₂ ◌∷◌ (sym (map-take f width (x ∷ xs))) (ap (windows n width) (sym (map-drop f width (x ∷ xs))) ∙ windows-map f n width (drop width (x ∷ xs)))

-- check 11 gives a width of 1 at least
width_wide : (q : Request) → check11 q ≡ true → 1 ≤ q.width
unfolding check11
width_wide q c = leb-true 1 q.width (and_r (eqb q.mode 1 || eqb q.mode 2) (leb 1 q.width) (and_l _ _ (and_l _ _ (and_l _ _ (and_l _ _ (and_l _ _ c))))))

-- ---- the whole call
pub record Rules (q : Request) (rows : List Row) (count : ℕ) : Type 0 where
  pub fixes_are : sort (λ f g. not (fix_before g f)) (map (as_fix q) rows) ≡ fixes_found q
  pub large_is : rows_too_large most_records 0 rows ≡ too_large (fixes_found q)
  pub crossings_are : count ≡ crossings q.width (map crossed_of (work_all q))

module _ (q : Request) (A : Accepted q) where
  abbrev its_windows : List (List ℕ)
  its_windows = windows_of q (changed q)

  window_rows_lem : (w : List ℕ) → window_rows q.mode (map (slot_of q) w) ≡ flat (λ k. rows_done (work_of q k)) w
  unfolding window_rows slot_rounds slot_of work_of work
  window_rows_lem w = flat_map (slot_rows q.mode) (slot_of q) w

  rows_found : rows_of q its_windows ≡ flat rows_done (work_all q)
  unfolding rows_of windows_of work_all work_of
  rows_found =
      (λ i. flat (λ w. window_rows_lem w i) its_windows)
      ∙ flat-flat (λ k. rows_done (work_of q k)) its_windows
      ∙ ap (flat (λ k. rows_done (work_of q k))) (windows_whole q.width (width_wide q A.holds_11) (length (changed q)) (changed q) (omega arith))
      ∙ sym (flat_map rows_done (work_of q) (changed q))

  -- in which of its rounds a key crossed; the rounds of a window in which some key crossed
  abbrev key_crossed : ℕ → List Bool
  key_crossed k = crossed_of (work_of q k)

  abbrev crossed : List (List Bool) → List Bool
  crossed w = keep (λ b. b) (rounds_of w)

  window_crossings_lem : (w : List ℕ) → window_crossings q.mode (map (slot_of q) w) ≡ length (crossed (map key_crossed w))
  unfolding window_crossings slot_rounds slot_of work_of work crossed_of
  window_crossings_lem w = ap (λ l. length (crossed l)) (map-map (λ s. crossed_in (slot_rounds q.mode s)) (slot_of q) w)

  crossings_found : crossings_of q its_windows ≡ crossings q.width (map crossed_of (work_all q))
  unfolding crossings_of windows_of crossings work_all work_of
  crossings_found =
      (λ i. sum_of (λ w. window_crossings_lem w i) its_windows)
      ∙ sym (length-flat (λ w. crossed (map key_crossed w)) its_windows)
      ∙ ap length (sym (flat_map crossed (map key_crossed) its_windows))
      ∙ ap (λ ws. length (flat crossed ws)) (sym (windows-map key_crossed (length (changed q)) q.width (changed q)))
      ∙ ap (λ n. length (flat crossed (windows n q.width (map key_crossed (changed q))))) (sym (length-map (changed q) key_crossed))
      ∙ ap (λ l. length (flat crossed (windows (length l) q.width l))) (sym (map-map crossed_of (work_of q) (changed q)))

  pub call_settled : Rules q (rows_of q its_windows) (crossings_of q its_windows)
  call_settled = record {
    fixes_are = ap (λ rs. sort (λ f g. not (fix_before g f)) (map (as_fix q) rs)) rows_found ∙ fixes-made q (work_all q);
    large_is = ap (rows_too_large most_records 0) rows_found ∙ rows_large q (work_all q);
    crossings_are = crossings_found;
  }
