-- Products of integers, and sums of diffs that are weighted by a function of what is added up.
--
-- plus_times, times_plus: a product spreads over a sum. times-sum: over the sum of a list
-- sum_all: functions that agree on the elements of a list have the same sum over it. sum_swap: a double sum, in either order
-- weigh g: the sum over the entries of the diff times g of what is added up; `tally p` is the case of g 1 where p passes and else 0
-- weigh_consolidate: consolidation keeps every weighted sum
use Prim.Native.Nat.{zero, suc}
use mathlib.Core.Bool.{Bool}
use mathlib.Core.List.{List, [], ◌∷◌}
use mathlib.Core.Path.{◌≡◌, refl, sym, ◌∙◌, ap, ap₂}
use lib.IntN.{ℤ, pos, negsuc, ◌+ℤ◌, ◌-ℤ◌, ◌*ℤ◌, neg_ℤ, suc_ℤ, pred_ℤ, +ℤ_assoc, +ℤ_idl, suc_ℤ-+ℤ, pred_ℤ-+ℤ, suc_ℤ-*ℤ, pred_ℤ-*ℤ, zero-*ℤ, *ℤ-zero, *ℤ_comm}
use Rattle.grid.specs.Consolidate.{is_zero, unless_zero, add, consolidate}
use Rattle.grid.proofs.Tests.{by-test}
use Rattle.grid.proofs.Lists.{All, nil, cons}
use Rattle.grid.proofs.Sums.{sum, sum_plus, sum-zero, left_comm, acℤ}
use Rattle.grid.proofs.Consolidate.{Strict, zero_is}

-- ---- products
last_in : (a b c : ℤ) → (a +ℤ b) +ℤ c ≡ (a +ℤ c) +ℤ b
last_in a b c = simp acℤ

times_up : (a b c : ℤ) → (a +ℤ b) *ℤ c ≡ a *ℤ c +ℤ b *ℤ c → (suc_ℤ a +ℤ b) *ℤ c ≡ suc_ℤ a *ℤ c +ℤ b *ℤ c
times_up a b c h =
    ap (λ z. z *ℤ c) (suc_ℤ-+ℤ a b) ∙ suc_ℤ-*ℤ (a +ℤ b) c ∙ ap (λ z. z +ℤ c) h
    ∙ last_in (a *ℤ c) (b *ℤ c) c ∙ ap (λ z. z +ℤ b *ℤ c) (sym (suc_ℤ-*ℤ a c))

times_down : (a b c : ℤ) → (a +ℤ b) *ℤ c ≡ a *ℤ c +ℤ b *ℤ c → (pred_ℤ a +ℤ b) *ℤ c ≡ pred_ℤ a *ℤ c +ℤ b *ℤ c
times_down a b c h =
    ap (λ z. z *ℤ c) (pred_ℤ-+ℤ a b) ∙ pred_ℤ-*ℤ (a +ℤ b) c ∙ ap (λ z. z -ℤ c) h
    ∙ last_in (a *ℤ c) (b *ℤ c) (neg_ℤ c) ∙ ap (λ z. z +ℤ b *ℤ c) (sym (pred_ℤ-*ℤ a c))

times-start : (b c : ℤ) → (pos zero +ℤ b) *ℤ c ≡ pos zero *ℤ c +ℤ b *ℤ c
times-start b c = ap (λ z. z *ℤ c) (+ℤ_idl b) ∙ sym (+ℤ_idl (b *ℤ c)) ∙ ap (λ z. z +ℤ b *ℤ c) (sym (zero-*ℤ c))

pub plus_times : (a b c : ℤ) → (a +ℤ b) *ℤ c ≡ a *ℤ c +ℤ b *ℤ c
plus_times (pos zero) b c = times-start b c
plus_times (pos (suc n)) b c = times_up (pos n) b c (plus_times (pos n) b c)
plus_times (negsuc zero) b c = times_down (pos zero) b c (times-start b c)
plus_times (negsuc (suc n)) b c = times_down (negsuc n) b c (plus_times (negsuc n) b c)

pub times_plus : (a b c : ℤ) → a *ℤ (b +ℤ c) ≡ a *ℤ b +ℤ a *ℤ c
times_plus a b c = *ℤ_comm a (b +ℤ c) ∙ plus_times b c a ∙ ap₂ ◌+ℤ◌ (*ℤ_comm b a) (*ℤ_comm c a)

-- ---- sums over lists
pub sum_swap : {A B : Type 0} (f : A → B → ℤ) (xs : List A) (ys : List B) → sum (λ x. sum (f x) ys) xs ≡ sum (λ y. sum (λ x. f x y) xs) ys
sum_swap f [] ys = sym (sum-zero ys)
sum_swap f (x ∷ xs) ys = ap (λ z. sum (f x) ys +ℤ z) (sum_swap f xs ys) ∙ sym (sum_plus (f x) (λ y. sum (λ x. f x y) xs) ys)

module _ {A : Type 0} where
  pub sum_all : (f g : A → ℤ) {xs : List A} → All (λ x. f x ≡ g x) xs → sum f xs ≡ sum g xs
  sum_all f g nil = refl
  sum_all f g (cons e h) = ap₂ ◌+ℤ◌ e (sum_all f g h)

  pub times-sum : (d : ℤ) (f : A → ℤ) (xs : List A) → d *ℤ sum f xs ≡ sum (λ x. d *ℤ f x) xs
  times-sum d f [] = *ℤ-zero d
  times-sum d f (x ∷ xs) = times_plus d (f x) (sum f xs) ∙ ap (λ z. d *ℤ f x +ℤ z) (times-sum d f xs)

  -- ---- weighted sums
  abbrev pub weigh : (A → ℤ) → List (A × ℤ) → ℤ
  weigh g es = sum (λ y. y.1 *ℤ g y.0) es

  weigh_unless_zero : (g : A → ℤ) (a : A) (d : ℤ) (r : List (A × ℤ)) → weigh g (unless_zero a d r) ≡ d *ℤ g a +ℤ weigh g r
  weigh_unless_zero g a d r = by-test (is_zero d) (λ e. rw (e, zero_is d e, zero-*ℤ (g a)) (sym (+ℤ_idl (weigh g r)))) (λ e. rw e)

  module _ {lt : A → A → Bool} (S : Strict lt) (g : A → ℤ) where
    weigh_add : (a : A) (d : ℤ) (r : List (A × ℤ)) → weigh g (add lt a d r) ≡ d *ℤ g a +ℤ weigh g r
    weigh_add a d [] = weigh_unless_zero g a d []
    weigh_add a d (y ∷ r) =
        by-test (lt a y.0) (λ e. rw e (weigh_unless_zero g a d (y ∷ r)))
        (λ e. by-test (lt y.0 a)
        (λ e'. rw (e, e', weigh_add a d r) (left_comm (y.1 *ℤ g y.0) (d *ℤ g a) (weigh g r)))
        (λ e'. rw (e, e')
        (weigh_unless_zero g a (d +ℤ y.1) r ∙ ap (λ z. z +ℤ weigh g r) (plus_times d y.1 (g a)) ∙ +ℤ_assoc (d *ℤ g a) (y.1 *ℤ g a) (weigh g r)
        ∙ ap (λ z. d *ℤ g a +ℤ (y.1 *ℤ g z +ℤ weigh g r)) (S.connected a y.0 e e'))))

    pub weigh_consolidate : (es : List (A × ℤ)) → weigh g (consolidate lt es) ≡ weigh g es
    weigh_consolidate [] = refl
    weigh_consolidate (y ∷ r) = weigh_add y.0 y.1 (consolidate lt r) ∙ ap (λ z. y.1 *ℤ g y.0 +ℤ z) (weigh_consolidate r)
