-- What a time sees of edits that were visited up to a time n at or below it, by the two corners to the left of n.
--
-- corner n t: one to the left of n, at the height of t. corner_below, corner_self, corner_before: it is below t, above `corner n n`, before n
-- left_of: what t sees and n does not is to the left of n. corner_left: what a corner and n see, the lower corner sees
-- Within n t: an edit that t sees was visited by n
-- level_corners, corners_level: of such edits t sees what n sees exactly if the two corners see the same
use Prim.Native.Nat.{ℕ, ◌-◌, ◌<◌, ◌≤◌}
use mathlib.Core.Bool.{Bool, true, cond, ◌&&◌}
use mathlib.Core.List.{List}
use mathlib.Core.Path.{◌≡◌, refl, sym, ◌∙◌, ap}
use native.Mathlib.Omega.{arith}
use lib.Dec.{leb}
use lib.IntN.{ℤ, pos, ◌+ℤ◌, +ℤ_comm}
use borrow.Author.Tests.{leb-true, leb-false}
use Rattle.grid.specs.Times.{hi, lo, at, below}
use Rattle.grid.proofs.Tests.{by-test}
use Rattle.grid.proofs.Lists.{All, nil, cons, all_imp}
use Rattle.grid.proofs.Times.{Below, below_true, true_below, hi_at, lo_at, lo_lt}
use Rattle.grid.proofs.Meets.{Unseen, same-below, false_unseen}
use Rattle.grid.proofs.Sums.{sum, sum_plus}
use Rattle.grid.proofs.Consolidate.{tally, cancel_l}
use Rattle.rules.specs.Histories.{Edit}
use Rattle.rules.proofs.Histories.{visible}

unfoldable pub corner : ℕ → ℕ → ℕ
corner n t = at (hi n - 1) (lo t)

corner_hi : (n t : ℕ) → hi (corner n t) ≡ hi n - 1
unfolding corner
corner_hi n t = hi_at (hi n - 1) (lo t) (lo_lt t)

corner_lo : (n t : ℕ) → lo (corner n t) ≡ lo t
unfolding corner
corner_lo n t = lo_at (hi n - 1) (lo t) (lo_lt t)

-- visited in ascending order
lex-hi : (x n : ℕ) → x ≤ n → hi x ≤ hi n
unfolding hi
lex-hi x n h = omega arith

lex-lo : (x n : ℕ) → x ≤ n → hi n ≤ hi x → lo x ≤ lo n
unfolding hi lo
lex-lo x n h k = omega arith

pub corner_below : (n t : ℕ) → Below n t → Below (corner n t) t
corner_below n t b = omega (arith, corner_hi n t, corner_lo n t)

pub corner_self : (n t : ℕ) → Below n t → Below (corner n n) (corner n t)
corner_self n t b = omega (arith, corner_hi n n, corner_lo n n, corner_hi n t, corner_lo n t)

pub corner_before : (n t : ℕ) → 0 < hi n → corner n t < n
unfolding hi lo
corner_before n t z = omega (arith, corner_hi n t, corner_lo n t)

pub corner_left : (x n t : ℕ) → Below x (corner n t) → Below x n → Below x (corner n n)
corner_left x n t a b = omega (arith, corner_hi n t, corner_hi n n, corner_lo n n)

pub left_of : (x n t : ℕ) → x ≤ n → Below x t → Unseen n x → (0 < hi n) × Below x (corner n t)
left_of x n t v b f =
    let l : hi x < hi n = by-test (leb (hi n) (hi x)) (λ e. absurd (f (record { first = lex-hi x n v; second = lex-lo x n v (leb-true (hi n) (hi x) e) }))) (λ e. leb-false (hi n) (hi x) e) in
    (omega arith, record { first = omega (arith, corner_hi n t); second = omega (arith, corner_lo n t) })

module _ (n t : ℕ) (b : Below n t) (z : 0 < hi n) where
  -- an edit under the corner of t, and one that is not
  under : (x : ℕ) → Below x (corner n t) → (below x t ≡ true) × (below x (corner n n) ≡ below x n)
  under x u = (
    true_below x t (omega (arith, corner_hi n t, corner_lo n t)),
    same-below x (corner n n) x n (λ v. omega (arith, corner_hi n n, corner_lo n n)) (λ v. corner_left x n t u v),
  )

  aside : (x : ℕ) → (Below x t → x ≤ n) → Unseen (corner n t) x → (below x (corner n n) ≡ below x (corner n t)) × (below x t ≡ below x n)
  aside x w f = (
    same-below x (corner n n) x (corner n t) (λ u. omega (arith, corner_hi n n, corner_hi n t, corner_lo n n, corner_lo n t)) (λ u. absurd (f u)),
    same-below x t x n (λ u. by-test (below x n) (λ e. below_true x n e) (λ e. absurd (f (left_of x n t (w u) u (false_unseen n x e)).1))) (λ u. omega arith),
  )

  square : (x : ℕ) (v : Bool) (d : ℤ) → (Below x t → x ≤ n) →
      cond (below x t && v) d (pos 0) +ℤ cond (below x (corner n n) && v) d (pos 0) ≡ cond (below x n && v) d (pos 0) +ℤ cond (below x (corner n t) && v) d (pos 0)
  square x v d w =
      by-test (below x (corner n t))
      (λ e. let r = under x (below_true x (corner n t) e) in rw (r.0, r.1, e) (+ℤ_comm (cond v d (pos 0)) (cond (below x n && v) d (pos 0))))
      (λ e. let r = aside x w (false_unseen (corner n t) x e) in rw (r.0, r.1))

sum_each : {A : Type 0} (f g : A → ℤ) {xs : List A} → All (λ x. f x ≡ g x) xs → sum f xs ≡ sum g xs
sum_each f g nil = refl
sum_each f g (cons p h) = rw (p, sum_each f g h)

abbrev pub Within : ℕ → ℕ → List Edit → Type 0
Within n t es = All (λ e. Below e.0.0 t → e.0.0 ≤ n) es

module _ (n t : ℕ) (p : ℕ → Bool) (b : Below n t) (z : 0 < hi n) {es : List Edit} (w : Within n t es) where
  squares : tally (visible t p) es +ℤ tally (visible (corner n n) p) es ≡ tally (visible n p) es +ℤ tally (visible (corner n t) p) es
  squares =
      sym (sum_plus _ _ es)
      ∙ sum_each _ _ (all_imp (λ (e : Edit) k. square n t b z e.0.0 (p e.0.1) e.1 k) w)
      ∙ sum_plus _ _ es

  pub level_corners : tally (visible t p) es ≡ tally (visible n p) es → tally (visible (corner n n) p) es ≡ tally (visible (corner n t) p) es
  level_corners same = cancel_l (tally (visible n p) es) _ _ (ap (λ y. y +ℤ tally (visible (corner n n) p) es) (sym same) ∙ squares)

  pub corners_level : tally (visible (corner n n) p) es ≡ tally (visible (corner n t) p) es → tally (visible t p) es ≡ tally (visible n p) es
  corners_level same =
      cancel_l (tally (visible (corner n n) p) es) _ _
      (+ℤ_comm (tally (visible (corner n n) p) es) (tally (visible t p) es) ∙ squares ∙ ap (λ y. tally (visible n p) es +ℤ y) (sym same)
      ∙ +ℤ_comm (tally (visible n p) es) (tally (visible (corner n n) p) es))
