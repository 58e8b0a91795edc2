-- The first parts of a frontier ascend and the second parts descend. So the earliest of the times whose second part is under a bound is the first
-- of the minimal ones among them, and the others are the minimal ones under its second part: that is `minimal-first`.
use Prim.Native.Nat.{ℕ, ◌≤◌, ◌<◌}
use native.Mathlib.Omega.{arith}
use mathlib.Core.Bool.{true, false, ◌||◌}
use mathlib.Core.List.{List, [], ◌∷◌}
use mathlib.Core.Path.{◌≡◌, ◌∙◌, ap}
use lib.Dec.{eqb, ltb}
use borrow.Author.Tests.{ltb-true, ltb-false, lt-ltb}
use Rattle.grid.specs.Lists.{any}
use Rattle.grid.specs.Times.{hi, lo, below}
use Rattle.grid.specs.Frontiers.{beyond, minimal}
use Rattle.grid.proofs.Tests.{by-test, clash, same_test, or_false_l, or_false_r}
use Rattle.grid.proofs.Lists.{All, nil, all_imp, all_at, all_both, keep_all, kept_all, none_all, any_none}
use Rattle.grid.proofs.Times.{Below, below_true, true_below, below_trans}
use Rattle.grid.proofs.Frontiers.{Apart, Antichain, more, all_inserted_all, minimal-antichain, minimal-beyond, minimal_only}
use Rattle.times.specs.Frontiers.{under}

later-below : (m u : ℕ) → m ≤ u → lo m ≤ lo u → Below m u
unfolding hi lo
later-below m u h k = record { first = omega arith; second = k }

not-under : (m u : ℕ) → lo u < lo m → below m u ≡ false
not-under m u k = by-test (below m u) (λ b. let w = below_true m u b in absurd (omega arith)) (λ b. b)

later_apart : (m u : ℕ) → m ≤ u → lo u < lo m → Apart m u
later_apart m u h k = record { earlier = other; not-below = not-under m u k }
  where
    other : m < u
    other = by-test (ltb m u) (λ e. ltb-true m u e) (λ e. let q : m ≡ u = omega (arith, ltb-false m u e) in absurd (omega (arith, ap lo q)))

all_minimal : {P : ℕ → Type 0} {ts : List ℕ} → All P ts → All P (minimal ts)
unfolding minimal
all_minimal h = all_inserted_all [] nil h

-- m is one of the times under the bound, and the earliest
module _ (ts : List ℕ) (bound m : ℕ) (one : any (eqb m) ts ≡ true) (small : ltb (lo m) bound ≡ true) (least : All (λ u. ltb (lo u) bound ≡ true → m ≤ u) ts) where
  under_too : (u : ℕ) → ltb (lo u) (lo m) ≡ true → ltb (lo u) bound ≡ true
  under_too u e = lt-ltb (lo u) bound (omega (arith, ltb-true (lo u) (lo m) e, ltb-true (lo m) bound small))

  first_apart : Antichain (m ∷ minimal (under (lo m) ts))
  first_apart =
      more (all_minimal (keep_all (λ u. ltb (lo u) (lo m)) (all_imp (λ u h e. later_apart m u (h (under_too u e)) (ltb-true (lo u) (lo m) e)) least)))
      (minimal-antichain (under (lo m) ts))

  -- at or above m, or beyond the times under its second part
  first-beyond : (s : ℕ) → (below m s || beyond (under (lo m) ts) s) ≡ beyond (under bound ts) s
  unfolding beyond
  first-beyond s =
      same_test _ _
      (λ e. by-test (beyond (under bound ts) s) (λ b. b)
      (λ b. let none = kept_all (λ u. ltb (lo u) bound) ts (none_all (λ u. below u s) (under bound ts) b) in
      clash (below m s || beyond (under (lo m) ts) s) e
      (rw (all_at m ts none one small) (any_none (λ u. below u s) (under (lo m) ts) (keep_all (λ u. ltb (lo u) (lo m)) (all_imp (λ u h k. h (under_too u k)) none))))))
      (λ e. by-test (below m s || beyond (under (lo m) ts) s) (λ b. b)
      (λ b. let none = kept_all (λ u. ltb (lo u) (lo m)) ts (none_all (λ u. below u s) (under (lo m) ts) (or_false_r (below m s) _ b)) in
      clash (beyond (under bound ts) s) e
      (any_none (λ u. below u s) (under bound ts) (keep_all (λ u. ltb (lo u) bound) (all_imp (λ u h k. above u (or_false_l (below m s) _ b) (h.0 k) h.1) (all_both least none))))))
    where
      above : (u : ℕ) → below m s ≡ false → m ≤ u → (ltb (lo u) (lo m) ≡ true → below u s ≡ false) → below u s ≡ false
      above u n l h =
          by-test (ltb (lo u) (lo m)) h
          (λ e. by-test (below u s) (λ b. clash (below m s) (true_below m s (below_trans m u s (later-below m u l (ltb-false (lo u) (lo m) e)) (below_true u s b))) n) (λ b. b))

  pub minimal-first : minimal (under bound ts) ≡ m ∷ minimal (under (lo m) ts)
  unfolding beyond
  minimal-first =
      minimal_only (under bound ts) first_apart (λ s. ap (λ b. below m s || b) (minimal-beyond (under (lo m) ts) s) ∙ first-beyond s)
