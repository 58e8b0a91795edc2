-- The minimal times of a list, found and written one after the other.
--
-- Searching ts bound best i: best is where the earliest of the first i times under a bound stands, or past the end if there is none
-- searching_start, searching_better, searching_worse, searching_end: the search keeps that
-- better_only, better_than, better-not: the answer of `better`, from what the code compares
-- Finding ts s₀ bound s k i: the first k of the minimal times are written to s₀, the others are under the bound, and the next stands at i
-- finding_start, finding_more, finding_end, finding_over: the loop keeps that, until none is left or no room is
use Prim.Native.Nat.{ℕ, suc, ◌+◌, ◌≤◌, ◌<◌}
use native.Mathlib.Numerals.{add-one}
use native.Mathlib.Omega.{arith}
use mathlib.Core.Bool.{Bool, true, false}
use mathlib.Core.List.{List, ◌∷◌, ◌++◌}
use mathlib.Core.Path.{◌≡◌, refl, ap}
use lib.Dec.{leb, ltb}
use lib.ListN.{length, take, get_or, set, length-append}
use lib.Seq.{length-take-le, take-suc, take_all}
use borrow.Author.Tests.{ltb-true, ltb-false, leb-true, leb-false, lt-ltb, le-ltb, le-leb, lt-leb}
use Rattle.grid.specs.Times.{span, lo}
use Rattle.grid.specs.Frontiers.{minimal, all_inserted}
use Rattle.grid.proofs.Tests.{by-test, clash, and_l, and_r}
use Rattle.grid.proofs.Lists.{All, nil, cons, all_imp, all_of, all_append}
use Rattle.grid.proofs.Times.{lo_lt}
use Rattle.grid.specs.Slices.{laid}
use Rattle.times.specs.Fitted.{fitted}
use Rattle.times.specs.Frontiers.{under, better, First}
use Rattle.std.specs.Prelude.{Some, None}
use Rattle.grid.proofs.Loops.{any_at}
use Rattle.grid.proofs.Lists.{keep_none, keep_each}
use Rattle.grid.proofs.Slices.{Laying, laying_start, laying_more, laying_end, laying_over}
use Rattle.times.proofs.First.{minimal-first}

-- ---- the search for the earliest time under a bound
pub record Searching (ts : List ℕ) (bound best i : ℕ) : Type 0 where
  pub within : i ≤ length ts
  pub none : length ts ≤ best → All (λ u. ltb (lo u) bound ≡ false) (take i ts)
  pub small : best < length ts → ltb (lo (get_or ts best 0)) bound ≡ true
  pub least : best < length ts → All (λ u. ltb (lo u) bound ≡ true → get_or ts best 0 ≤ u) (take i ts)

pub searching_start : (ts : List ℕ) (bound : ℕ) → Searching ts bound (length ts) 0
searching_start ts bound = record { within = omega arith; none = λ _. nil; small = λ h. absurd (omega arith); least = λ h. absurd (omega arith) }

module _ {ts : List ℕ} {bound best i : ℕ} (w : Searching ts bound best i) where
  one_more : {P : ℕ → Type 0} → i < length ts → All P (take i ts) → P (get_or ts i 0) → All P (take (i + 1) ts)
  one_more h a p = rw (add-one, take-suc ts i 0 h) (all_append a (cons p nil))

  pub searching_better : i < length ts → better ts bound best i ≡ true → Searching ts bound i (i + 1)
  searching_better h e =
      record {
        within = omega arith;
        none = λ k. absurd (omega arith);
        small = λ _. and_l (ltb (lo (get_or ts i 0)) bound) _ e;
        least = λ _. one_more h (by-test (leb (length ts) best)
            (λ b. all_imp (λ u f k. clash (ltb (lo u) bound) k f) (w.none (leb-true (length ts) best b)))
            (λ b. let q : ltb (get_or ts i 0) (get_or ts best 0) ≡ true = rw b at (and_r (ltb (lo (get_or ts i 0)) bound) _ e) in
            all_imp (λ u f k. omega (arith, f k, ltb-true (get_or ts i 0) (get_or ts best 0) q)) (w.least (leb-false (length ts) best b)))) (λ _. omega arith);
      }

  pub searching_worse : i < length ts → better ts bound best i ≡ false → Searching ts bound best (i + 1)
  searching_worse h e =
      record {
        within = omega arith;
        none = λ k. one_more h (w.none k) (by-test (ltb (lo (get_or ts i 0)) bound) (λ b. clash true refl (rw (b, le-leb (length ts) best k) at e)) (λ b. b));
        small = w.small;
        least = λ k. one_more h (w.least k) (λ b. ltb-false (get_or ts i 0) (get_or ts best 0) (rw (b, lt-leb (length ts) best k) at e));
      }

  pub searching_end : length ts ≤ i → First ts bound best
  unfolding minimal all_inserted
  searching_end h =
      let whole : take i ts ≡ ts = take_all i ts h in
      record {
        none = λ k. rw (keep_none (λ u. ltb (lo u) bound) (rw whole at (w.none k)));
        some = λ k. minimal-first ts bound (get_or ts best 0) (any_at ts best k) (w.small k) (rw whole at (w.least k));
      }

-- ---- the tests of the search
module _ (ts : List ℕ) (bound best i : ℕ) {l : ℕ} (e : l ≡ lo (get_or ts i 0)) where
  pub better_only : l < bound → length ts ≤ best → true ≡ better ts bound best i
  better_only h k = rw (← e, lt-ltb l bound h, le-leb (length ts) best k)

  pub better_than : {b : Bool} → l < bound → best < length ts → b ≡ ltb (get_or ts i 0) (get_or ts best 0) → b ≡ better ts bound best i
  better_than h k q = rw (← e, lt-ltb l bound h, lt-leb (length ts) best k) q

  pub better-not : bound ≤ l → false ≡ better ts bound best i
  better-not h = rw (← e, le-ltb l bound h)

-- ---- the minimal times written one after the other
pub record Finding (ts s₀ : List ℕ) (bound : ℕ) (s : List ℕ) (k i : ℕ) : Type 0 where
  pub first : First ts bound i
  pub laying : Laying s₀ s k (minimal (under bound ts)) (minimal ts)

pub finding_start : (ts s : List ℕ) (i : ℕ) → First ts span i → Finding ts s span s 0 i
finding_start ts s i f =
    let all : under span ts ≡ ts = keep_each (λ u. ltb (lo u) span) (all_of (λ u. lt-ltb (lo u) span (lo_lt u)) ts) in
    record { first = f; laying = rw all (laying_start s (minimal ts)) }

module _ {ts s₀ : List ℕ} {bound : ℕ} {s : List ℕ} {k i : ℕ} (w : Finding ts s₀ bound s k i) where
  pub finding_more : {b i' : ℕ} → i < length ts → (k ≡ length s → ⊥) → b ≡ lo (get_or ts i 0) → First ts b i' → Finding ts s₀ b (set s k (get_or ts i 0)) (k + 1) i'
  finding_more h n e f = record { first = f; laying = laying_more w.laying (get_or ts i 0) (omega (arith, w.laying.within, n)) (rw e (w.first.some h)) }

  pub finding_end : length ts ≤ i → (Some k ≡ fitted (length (minimal ts)) (length s₀)) × (s ≡ laid (minimal ts) s₀)
  unfolding fitted
  finding_end h =
      let l = laying_end w.laying (w.first.none h) in
      (rw (← l.counted, le-leb k (length s₀) (omega (arith, w.laying.within, w.laying.same))), l.holds)

  pub finding_over : i < length ts → k ≡ length s → (None ≡ fitted (length (minimal ts)) (length s₀)) × (s ≡ laid (minimal ts) s₀)
  unfolding fitted
  finding_over h e =
      let rest : List ℕ = minimal (under (lo (get_or ts i 0)) ts) in
      let d : take k s ++ get_or ts i 0 ∷ rest ≡ minimal ts = rw (w.first.some h) at w.laying.done in
      let n : k + suc (length rest) ≡ length (minimal ts)
      = omega (arith, length-append (take k s) (get_or ts i 0 ∷ rest), length-take-le k s w.laying.within, ap length d) in
      (rw (lt-leb (length (minimal ts)) (length s₀) (omega (arith, w.laying.same))), laying_over w.laying (omega arith))
