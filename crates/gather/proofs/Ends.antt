-- Where the edits ahead up to a moment end.
--
-- times_end: their times end there. ends_bounds: where that is. ends_front, ends_past: the edits up to there, and those past it
use Prim.Native.Nat.{ℕ, ◌+◌, ◌-◌, ◌≤◌}
use native.Mathlib.Omega.{arith}
use mathlib.Core.Path.{◌≡◌, refl, sym, ◌∙◌, ap}
use mathlib.Core.List.{List, [], ◌∷◌, map}
use lib.Dec.{leb}
use lib.IntN.{ℤ}
use lib.ListN.{length, take, drop, length-drop, length-map}
use lib.Seq.{drop-drop}
use Rattle.grid.specs.Lists.{front, past}
use Rattle.grid.proofs.Tests.{by-test}
use Rattle.grid.proofs.Operations.{front_fits, map-drop}
use Rattle.rules.specs.Histories.{Edit, time_of}
use Rattle.histories.proofs.Steps.{front_take, past_drop}
use Rattle.backends.specs.Segments.{part}
use Rattle.moments.specs.Present.{edits}
use Rattle.gather.specs.Gather.{up_to}
use Rattle.gather.proofs.Columns.{edits-times}

map_front : (t : ℕ) (l : List Edit) → map time_of (front (up_to t) l) ≡ front (λ u. leb u t) (map time_of l)
map_front t [] = refl
map_front t (x ∷ l) = by-test (leb (time_of x) t) (λ e. rw e (ap (λ r. time_of x ∷ r) (map_front t l))) (λ e. rw e)

pub times_end : (t a : ℕ) (vs ts : List ℕ) (ds : List ℤ) → length ts ≡ length vs → length ds ≡ length vs → {to : ℕ} → to ≡ a + length (front (λ u. leb u t) (drop a ts))
    → to ≡ a + length (front (up_to t) (drop a (edits vs ts ds)))
times_end t a vs ts ds p q e =
    let s : drop a ts ≡ map time_of (drop a (edits vs ts ds)) = sym (map-drop time_of a (edits vs ts ds) ∙ ap (drop a) (edits-times vs ts ds p q)) in
    e ∙ ap (λ z. a + z) (ap (λ z. length (front (λ u. leb u t) z)) s ∙ ap length (sym (map_front t (drop a (edits vs ts ds)))) ∙ length-map (front (up_to t) (drop a (edits vs ts ds))) time_of)

module _ (t a : ℕ) (l : List Edit) (h : a ≤ length l) {to : ℕ} (q : to ≡ a + length (front (up_to t) (drop a l))) where
  pub ends_bounds : (a ≤ to) × (to ≤ length l)
  ends_bounds =
      let b : length (front (up_to t) (drop a l)) ≤ length (drop a l) = front_fits (up_to t) (drop a l) in
      let n : length (drop a l) ≡ length l - a = length-drop a l in
      (omega arith, omega arith)

  pub ends_front : part a to l ≡ front (up_to t) (drop a l)
  ends_front =
      let z : to - a ≡ length (front (up_to t) (drop a l)) = omega arith in
      ap (λ i. take i (drop a l)) z ∙ sym (front_take (up_to t) (drop a l))

  pub ends_past : drop to l ≡ past (up_to t) (drop a l)
  ends_past = ap (λ i. drop i l) q ∙ sym (drop-drop (length (front (up_to t) (drop a l))) a l) ∙ sym (past_drop (up_to t) (drop a l))
