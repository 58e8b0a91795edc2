-- The pass over a segment that ascends by value, run of equal values by run.
--
-- Passing: the runs before i are summed, and what they give stands before k. pass_skip, pass_write, passing_end: the pass keeps that
-- bounds, run_asks: what a turn asks
use Prim.Native.Nat.{ℕ, ◌+◌, ◌-◌, ◌<◌, ◌≤◌}
use native.Mathlib.Omega.{arith}
use mathlib.Core.Bool.{true, false}
use mathlib.Core.Path.{◌≡◌, sym, ◌∙◌, ap}
use mathlib.Core.List.{List}
use lib.IntN.{ℤ}
use lib.ListN.{length, take, drop, get_or, set, length-drop, drop_of_length-le}
use lib.Seq.{drop-drop}
use Rattle.grid.specs.Times.{below}
use Rattle.grid.specs.Consolidate.{is_zero, unless_zero}
use Rattle.grid.proofs.Lists.{All}
use Rattle.grid.proofs.Consolidate.{tally}
use Rattle.rules.specs.Backends.{Sums}
use Rattle.rules.specs.Retire.{seen}
use Rattle.diffs.specs.Diffs.{modest}
use Rattle.backends.specs.Columns.{entries, Appended}
use Rattle.backends.specs.Segments.{part}
use Rattle.backends.proofs.Columns.{all_take, all_drop, Filling, filling_is, filling_more, filling_end}
use Rattle.backends.proofs.Segments.{part_length}
use Rattle.moments.specs.Present.{edits, Shows}
use Rattle.moments.proofs.Summing.{run, run_within, run_some}
use Rattle.moments.proofs.Shown.{sorted_drop, sorted_least, over_rest, seen_step}

module _ (vs ts : List ℕ) (ds : List ℤ) (t : ℕ) where
  -- what is seen from i on
  abbrev pub left : ℕ → Sums
  left i = seen t (edits (drop i vs) (drop i ts) (drop i ds))

pub record Passing (vs ts : List ℕ) (ds : List ℤ) (t at : ℕ) (sv₀ : List ℕ) (sd₀ : List ℤ) (sv : List ℕ) (sd : List ℤ) (i k : ℕ) : Type 0 where
  pub asks : Shows vs ts ds sv₀ sd₀ at
  pub within : i ≤ length vs
  pub room : k + (length vs - i) ≤ length sv₀
  pub done : Filling sv₀ sd₀ at (left vs ts ds t 0) sv sd k (left vs ts ds t i)

module _ {vs ts : List ℕ} {ds : List ℤ} {t at : ℕ} {sv₀ : List ℕ} {sd₀ : List ℤ} {sv : List ℕ} {sd : List ℤ} {i k : ℕ} (m : Passing vs ts ds t at sv₀ sd₀ sv sd i k) (h : i < length vs) where
  here_v : k < length sv
  here_v =
      let r : k + (length vs - i) ≤ length sv₀ = m.room in
      let s : length sv ≡ length sv₀ = m.done.values.same in
      omega arith

  here_d : k < length sd
  here_d =
      let r : k + (length vs - i) ≤ length sv₀ = m.room in
      let s : length sd ≡ length sd₀ = m.done.diffs.same in
      let u : length sd₀ ≡ length sv₀ = m.asks.same in
      omega arith

  abbrev v : ℕ
  v = get_or vs i 0

  module _ {e : ℕ} (q : e ≡ i + run v (drop i vs)) where
    pub bounds : (i < e) × ((e ≤ length vs) × ((e ≤ length ts) × (e ≤ length ds)))
    bounds =
        let a : run v (drop i vs) ≤ length (drop i vs) = run_within v (drop i vs) in
        let l : length (drop i vs) ≡ length vs - i = length-drop i vs in
        let b : 1 ≤ run v (drop i vs) = run_some vs i h in
        let st : length ts ≡ length vs = m.asks.laid.same_t in
        let sd' : length ds ≡ length vs = m.asks.laid.same_d in
        (omega arith, (omega arith, (omega arith, omega arith)))

    pub run_asks : (length (part i e ds) ≡ length (part i e ts)) × ((length (part i e ts) ≤ 8192) × All modest (part i e ds))
    run_asks =
        let a : i < e = bounds.0 in
        let b : e ≤ length ts = bounds.1.1.0 in
        let c : e ≤ length ds = bounds.1.1.1 in
        let u : length vs ≤ 8192 = m.asks.laid.short in
        let w : e ≤ length vs = bounds.1.0 in
        let x : length (part i e ts) ≡ e - i = part_length i e ts (omega arith) b in
        let y : length (part i e ds) ≡ e - i = part_length i e ds (omega arith) c in
        (y ∙ sym x, (omega arith, all_take (e - i) (all_drop i m.asks.laid.small)))

    dropped : {A : Type 0} (l : List A) → drop (run v (drop i vs)) (drop i l) ≡ drop e l
    dropped l = drop-drop (run v (drop i vs)) i l ∙ ap (λ n. drop n l) (sym q)

    step_is : left vs ts ds t i ≡ unless_zero v (tally (λ u. below u t) (entries (part i e ts) (part i e ds))) (left vs ts ds t e)
    step_is =
        let n : run v (drop i vs) ≡ e - i = omega arith in
        let up = sorted_drop i m.asks.laid.ascends in
        seen_step t v (drop i vs) (drop i ts) (drop i ds)
        (length-drop i ts ∙ ap (λ z. z - i) m.asks.laid.same_t ∙ sym (length-drop i vs))
        (length-drop i ds ∙ ap (λ z. z - i) m.asks.laid.same_d ∙ sym (length-drop i vs))
        (over_rest v up (sorted_least vs i h m.asks.laid.ascends))
        ∙ (λ z. unless_zero v (tally (λ u. below u t) (entries (take (n z) (drop i ts)) (take (n z) (drop i ds)))) (seen t (edits (dropped vs z) (dropped ts z) (dropped ds z))))

    module _ (s : ℤ) (p : s ≡ tally (λ u. below u t) (entries (part i e ts) (part i e ds))) where
      turn_is : left vs ts ds t i ≡ unless_zero v s (left vs ts ds t e)
      turn_is = step_is ∙ ap (λ d. unless_zero v d (left vs ts ds t e)) (sym p)

      pub pass_skip : is_zero s ≡ true → Passing vs ts ds t at sv₀ sd₀ sv sd e k
      pass_skip z =
          let a : i < e = bounds.0 in
          let r : k + (length vs - i) ≤ length sv₀ = m.room in
          record { asks = m.asks; within = bounds.1.0; room = omega arith; done = filling_is m.done (turn_is ∙ rw z) }

      pub pass_write : is_zero s ≡ false → Passing vs ts ds t at sv₀ sd₀ (set sv k v) (set sd k s) e (k + 1)
      pass_write z =
          let a : i < e = bounds.0 in
          let w : e ≤ length vs = bounds.1.0 in
          let r : k + (length vs - i) ≤ length sv₀ = m.room in
          record { asks = m.asks; within = w; room = omega arith; done = filling_more m.done v s here_v here_d (turn_is ∙ rw z) }

pub passing_end : {vs ts : List ℕ} {ds : List ℤ} {t at : ℕ} {sv₀ : List ℕ} {sd₀ : List ℤ} {sv : List ℕ} {sd : List ℤ} {i k : ℕ} → Passing vs ts ds t at sv₀ sd₀ sv sd i k
    → length vs ≤ i → Appended sv₀ sd₀ at (seen t (edits vs ts ds)) sv sd k
unfolding seen edits
passing_end {vs} {ts} {ds} {t} {i = i} m h = filling_end m.done (ap (λ l. seen t (edits l (drop i ts) (drop i ds))) (drop_of_length-le vs {i = i} h))
