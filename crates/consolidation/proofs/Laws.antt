-- Consolidation along a function of the keys, and the mass of entries.
--
-- on_keys f: an entry with f of its key. consolidate_map: to consolidate what f makes of the keys, consolidate by what f makes of them, so one
-- order of pairs serves (time, value) and (value, time). mass-entries: the mass of a column is the mass of its entries
use mathlib.Core.Bool.{Bool}
use mathlib.Core.List.{List, [], ◌∷◌, map}
use mathlib.Core.Path.{◌≡◌, refl, ◌∙◌, ap}
use Prim.Native.Nat.{◌+◌}
use lib.IntN.{ℤ, nat_abs, ◌+ℤ◌}
use Rattle.grid.specs.Consolidate.{is_zero, unless_zero, add, consolidate}
use Rattle.grid.proofs.Tests.{by-test}
use Rattle.grid.proofs.Sizes.{mass as entry_mass}
use Rattle.consolidation.specs.Entries.{Entry, diff, mass}

abbrev pub on_keys : {A B : Type 0} → (A → B) → A × ℤ → B × ℤ
on_keys f e = (f e.0, e.1)

module _ {A B : Type 0} (f : A → B) (lt : B → B → Bool) where
  unless_zero-map : (a : A) (d : ℤ) (r : List (A × ℤ)) → unless_zero (f a) d (map (on_keys f) r) ≡ map (on_keys f) (unless_zero a d r)
  unless_zero-map a d r = by-test (is_zero d) (λ e. rw e) (λ e. rw e)

  add-map : (a : A) (d : ℤ) (r : List (A × ℤ)) → add lt (f a) d (map (on_keys f) r) ≡ map (on_keys f) (add (λ x y. lt (f x) (f y)) a d r)
  add-map a d [] = unless_zero-map a d []
  add-map a d (y ∷ r) =
      by-test (lt (f a) (f y.0))
      (λ e. rw e (unless_zero-map a d (y ∷ r)))
      (λ e. by-test (lt (f y.0) (f a)) (λ e'. rw (e, e') (ap (λ l. on_keys f y ∷ l) (add-map a d r))) (λ e'. rw (e, e') (unless_zero-map a (d +ℤ y.1) r)))

  pub consolidate_map : (es : List (A × ℤ)) → consolidate lt (map (on_keys f) es) ≡ map (on_keys f) (consolidate (λ x y. lt (f x) (f y)) es)
  consolidate_map [] = refl
  consolidate_map (y ∷ r) = ap (add lt (f y.0) y.1) (consolidate_map r) ∙ add-map y.0 y.1 (consolidate (λ x y. lt (f x) (f y)) r)

-- the mass of a column of diffs is the mass of its entries, which consolidation does not raise
pub mass-entries : (es : List Entry) → entry_mass nat_abs es ≡ mass (map diff es)
unfolding mass
mass-entries [] = refl
mass-entries (y ∷ r) = ap (λ n. nat_abs y.1 + n) (mass-entries r)
