-- Adding up runs of equal keys in a sorted list consolidates it.
--
-- Alike: a test that tells whether two keys are equal. squash: the sum of each run, unless it is zero; `acc` is the sum so far of the run that the list begins in
-- squash_consolidate: of a sorted list, its consolidation. consolidate_sort: the consolidation of a list is that of its sort
use mathlib.Core.Bool.{Bool, true, false, cond, not}
use mathlib.Core.List.{List, [], ◌∷◌, map}
use mathlib.Core.Path.{◌≡◌, refl, sym, ◌∙◌, ap}
use lib.IntN.{ℤ, pos, ◌+ℤ◌, +ℤ_idl}
use borrow.Author.Tests.{not-true}
use Rattle.grid.specs.Lists.{sort}
use Rattle.grid.specs.Consolidate.{unless_zero, add, consolidate}
use Rattle.grid.proofs.Tests.{by-test, clash}
use Rattle.grid.proofs.Lists.{All, nil, cons, all_imp}
use Rattle.grid.proofs.Sums.{sum_sort}
use Rattle.grid.proofs.Consolidate.{Strict, tally, share, share_plus, all_consolidate, consolidate_ext}
use Rattle.grid.proofs.Sort.{Sorted, more}
use Rattle.distinct.specs.Sets.{ends_run}

pub record Alike {A : Type 0} (same : A → A → Bool) : Type 0 where
  pub same_eq : (x y : A) → same x y ≡ true → x ≡ y
  pub same_refl : (x : A) → same x x ≡ true

abbrev pub key : {A : Type 0} → A × ℤ → A
key e = e.0

-- by the order of the keys
abbrev pub not_after : {A : Type 0} → (A → A → Bool) → A × ℤ → A × ℤ → Bool
not_after lt e f = not (lt f.0 e.0)

module _ {A : Type 0} (same : A → A → Bool) where
  unfoldable pub squash : ℤ → List (A × ℤ) → List (A × ℤ)
  squash acc [] = []
  squash acc (e ∷ l) = cond (ends_run same (map key (e ∷ l))) (unless_zero e.0 (acc +ℤ e.1) (squash (pos 0) l)) (squash (acc +ℤ e.1) l)

module _ {A : Type 0} {lt : A → A → Bool} {same : A → A → Bool} (S : Strict lt) (E : Alike same) where
  -- two entries of one key in front
  fuse : (k : A) (c d : ℤ) (l : List (A × ℤ)) → consolidate lt ((k, c) ∷ (k, d) ∷ l) ≡ consolidate lt ((k, c +ℤ d) ∷ l)
  fuse k c d l = consolidate_ext S ((k, c) ∷ (k, d) ∷ l) ((k, c +ℤ d) ∷ l) (λ p. sym (share_plus (p k) c d (tally p l)))

  fuse_zero : (e : A × ℤ) (l : List (A × ℤ)) → consolidate lt ((e.0, pos 0) ∷ e ∷ l) ≡ consolidate lt (e ∷ l)
  fuse_zero e l = fuse e.0 (pos 0) e.1 l ∙ ap (λ z. consolidate lt ((e.0, z) ∷ l)) (+ℤ_idl e.1)

  add_front : (k : A) (d : ℤ) {r : List (A × ℤ)} → All (λ (z : A × ℤ). lt k z.0 ≡ true) r → add lt k d r ≡ unless_zero k d r
  add_front k d nil = refl
  add_front k d (cons e h) = rw e

  -- the next key is another, so it is later, and so are all that follow
  later : (e f : A × ℤ) {l : List (A × ℤ)} → not_after lt e f ≡ true → same e.0 f.0 ≡ false → All (λ z. not_after lt f z ≡ true) l → All (λ (z : A × ℤ). lt e.0 z.0 ≡ true) (f ∷ l)
  later e f p n h =
      let q : lt e.0 f.0 ≡ true =
      by-test (lt e.0 f.0) (λ t. t)
      (λ t. clash (same e.0 f.0) (ap (same e.0) (sym (S.connected e.0 f.0 t (not-true _ p))) ∙ E.same_refl e.0) n) in
      cons q (all_imp (λ z g. by-test (lt f.0 z.0) (λ t. S.transitive e.0 f.0 z.0 q t) (λ t. ap (lt e.0) (sym (S.connected f.0 z.0 t (not-true _ g))) ∙ q)) h)

  squash_is : (acc : ℤ) (e : A × ℤ) (l : List (A × ℤ)) → Sorted (not_after lt) (e ∷ l) → squash same acc (e ∷ l) ≡ consolidate lt ((e.0, acc) ∷ e ∷ l)
  unfolding squash ends_run
  squash_is acc e [] s = sym (fuse e.0 acc e.1 [])
  squash_is acc e (f ∷ l) (more (cons p h) s) =
      by-test (same e.0 f.0)
      (λ t. rw t (squash_is (acc +ℤ e.1) f l s ∙ ap (λ k. consolidate lt ((k, acc +ℤ e.1) ∷ f ∷ l)) (sym (E.same_eq e.0 f.0 t)) ∙ sym (fuse e.0 acc e.1 (f ∷ l))))
      (λ t. rw t (ap (unless_zero e.0 (acc +ℤ e.1)) (squash_is (pos 0) f l s ∙ fuse_zero f l)
      ∙ sym (add_front e.0 (acc +ℤ e.1) (all_consolidate S (λ k. lt e.0 k ≡ true) (later e f p t (all_after s))))
      ∙ sym (fuse e.0 acc e.1 (f ∷ l))))
    where
      all_after : Sorted (not_after lt) (f ∷ l) → All (λ z. not_after lt f z ≡ true) l
      all_after (more g s) = g

  pub squash_consolidate : (es : List (A × ℤ)) → Sorted (not_after lt) es → squash same (pos 0) es ≡ consolidate lt es
  unfolding squash
  squash_consolidate [] s = refl
  squash_consolidate (e ∷ l) s = squash_is (pos 0) e l s ∙ fuse_zero e l

pub consolidate_sort : {A : Type 0} {lt : A → A → Bool} → Strict lt → (le : A × ℤ → A × ℤ → Bool) (es : List (A × ℤ)) → consolidate lt (sort le es) ≡ consolidate lt es
consolidate_sort S le es = consolidate_ext S (sort le es) es (λ p. sum_sort (share p) le es)
