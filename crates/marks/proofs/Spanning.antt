-- The longest list of moments.
--
-- Spanning: the segments before b are looked at; the next begins at f, and the longest has `most`. span-bound, spanning_more, spanning_end
-- span-least: the longest is no shorter than one before. span_most: no list is longer than 1,024
use Prim.Native.Nat.{ℕ, ◌+◌, ◌-◌, ◌<◌, ◌≤◌, max}
use native.Mathlib.Omega.{arith}
use mathlib.Core.Bool.{cond}
use mathlib.Core.Path.{◌≡◌, refl, sym, ◌∙◌, ap, subst}
use mathlib.Core.List.{List, [], ◌∷◌}
use lib.Dec.{ltb}
use lib.ListN.{length, drop, get_or, drop_of_length-le}
use borrow.Author.Tests.{ltb-true, ltb-false}
use Rattle.grid.proofs.Tests.{by-test}
use Rattle.grid.proofs.Loops.{drop_more}
use Rattle.rules.specs.Discover.{most_moments}
use Rattle.marks.specs.Marks.{span_from, Steps, done, next}

pub record Spanning (es : List ℕ) (b f most : ℕ) : Type 0 where
  pub bn : b ≤ length es
  pub steps : Steps f (drop b es)
  pub span : span_from most f (drop b es) ≡ span_from 0 0 es

steps_parts : {f e : ℕ} {es : List ℕ} → Steps f (e ∷ es) → (f ≤ e) × ((e - f ≤ most_moments) × Steps e es)
steps_parts (next a b s) = (a, (b, s))

module _ {es : List ℕ} {b f most : ℕ} (m : Spanning es b f most) where
  module _ (h : b < length es) where
    abbrev e : ℕ
    e = get_or es b 0

    here : (f ≤ e) × ((e - f ≤ most_moments) × Steps e (drop (b + 1) es))
    here = steps_parts (subst (Steps f) (drop_more es b 0 h) m.steps)

    pub span-bound : f ≤ e
    span-bound = here.0

    step : (n : ℕ) → cond (ltb most (e - f)) (e - f) most ≡ n → Spanning es (b + 1) e n
    unfolding span_from
    step n q = record {
      bn = omega arith;
      steps = here.1.1;
      span = ap (λ x. span_from x e (drop (b + 1) es)) (sym q) ∙ sym (ap (span_from most f) (drop_more es b 0 h)) ∙ m.span;
    }

    pub spanning_more : {n : ℕ} → n ≡ max most (e - f) → Spanning es (b + 1) e n
    spanning_more {n} q =
        step n
        (by-test (ltb most (e - f)) (λ t. let g : most < e - f = ltb-true most (e - f) t in rw t (omega arith))
        (λ t. let g : e - f ≤ most = ltb-false most (e - f) t in rw t (omega arith)))

  pub spanning_end : length es ≤ b → most ≡ span_from 0 0 es
  unfolding span_from
  spanning_end h = sym (ap (span_from most f) (drop_of_length-le es {i = b} h)) ∙ m.span

-- ---- laws of the longest
pub span-least : (m f : ℕ) (es : List ℕ) → m ≤ span_from m f es
unfolding span_from
span-least m f [] = omega arith
span-least m f (e ∷ es) =
    let h : cond (ltb m (e - f)) (e - f) m ≤ span_from (cond (ltb m (e - f)) (e - f) m) e es = span-least (cond (ltb m (e - f)) (e - f) m) e es in
    let g : m ≤ cond (ltb m (e - f)) (e - f) m = by-test (ltb m (e - f)) (λ q. rw q (let z : m < e - f = ltb-true m (e - f) q in omega arith)) (λ q. rw q (omega arith)) in
    omega arith

pub span_most : (m : ℕ) {f : ℕ} {es : List ℕ} → m ≤ most_moments → Steps f es → span_from m f es ≤ most_moments
unfolding span_from
span_most m h done = h
span_most m h (next {f} {e} {es} a b s) = span_most (cond (ltb m (e - f)) (e - f) m) (by-test (ltb m (e - f)) (λ q. rw q b) (λ q. rw q h)) s
