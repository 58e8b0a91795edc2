-- Edits that are consolidated already: their consolidation is themselves.
--
-- key_at: the key of the edit at a place, from the columns. length_keys: as many as there are times
-- two_tests: the order of the keys and the diffs are tested apart
use Prim.Native.Nat.{ℕ, zero, suc}
use native.Mathlib.Omega.{arith}
use mathlib.Core.Bool.{Bool, true, ◌&&◌, not}
use mathlib.Core.List.{List, [], ◌∷◌, map}
use mathlib.Core.Path.{◌≡◌, refl, sym, ◌∙◌, ap}
use lib.Dec.{ltb}
use lib.IntN.{ℤ}
use lib.ListN.{length, get_or, length-map}
use borrow.Author.Tests.{not-true}
use Rattle.grid.specs.Consolidate.{is_zero, lex, consolidate}
use Rattle.grid.specs.Lists.{every, ascending}
use Rattle.grid.proofs.Tests.{and_l, and_r}
use Rattle.grid.proofs.Lists.{map_all}
use Rattle.grid.proofs.Ascending.{ascending_rest, ascending_above}
use Rattle.grid.proofs.Consolidate.{Canon, none, more, consolidate_canon}
use Rattle.rules.specs.Histories.{Edit, by_value}
use Rattle.rules.proofs.Histories.{strict_by_value}
use Rattle.edits.specs.Edits.{edits, Alike, key_of, is_consolidated}
use Rattle.edits.proofs.Edits.{length-edits, diff_of, diffs-edits}

pub key_at : (ts vs : List ℕ) (ds : List ℤ) → Alike ts vs ds → (i : ℕ) → get_or (map key_of (edits ts vs ds)) i (0, 0) ≡ (get_or ts i 0, get_or vs i 0)
unfolding edits
key_at [] [] ds a i = refl
key_at [] (v ∷ vs) ds a i = absurd (omega (arith, a.values))
key_at (t ∷ ts) [] ds a i = absurd (omega (arith, a.values))
key_at (t ∷ ts) (v ∷ vs) [] a i = absurd (omega (arith, a.diffs))
key_at (t ∷ ts) (v ∷ vs) (d ∷ ds) a zero = refl
key_at (t ∷ ts) (v ∷ vs) (d ∷ ds) a (suc i) = key_at ts vs ds (record { values = omega (arith, a.values); diffs = omega (arith, a.diffs) }) i

module _ (ts vs : List ℕ) (ds : List ℤ) (a : Alike ts vs ds) where
  pub length_keys : length (map key_of (edits ts vs ds)) ≡ length ts
  length_keys = length-map (edits ts vs ds) key_of ∙ length-edits ts vs ds a

  -- the test of two neighbours
  pub keys_before : {b : Bool} (i j : ℕ) → b ≡ lex ltb ltb (get_or vs i 0, get_or ts i 0) (get_or vs j 0, get_or ts j 0) → by_value (get_or (map key_of (edits ts vs ds)) i (0, 0)) (get_or (map key_of (edits ts vs ds)) j (0, 0)) ≡ b
  keys_before i j e = rw (key_at ts vs ds a i, key_at ts vs ds a j) (sym e)

  every_diff : every (λ (e : Edit). not (is_zero e.1)) (edits ts vs ds) ≡ every (λ d. not (is_zero d)) ds
  every_diff = sym (every_map (edits ts vs ds)) ∙ ap (every (λ d. not (is_zero d))) (diffs-edits ts vs ds a)
    where
      every_map : (es : List Edit) → every (λ d. not (is_zero d)) (map diff_of es) ≡ every (λ (e : Edit). not (is_zero e.1)) es
      every_map [] = refl
      every_map (e ∷ es) = ap (λ b. not (is_zero e.1) && b) (every_map es)

  -- the two tests make one
  pub two_tests : is_consolidated (edits ts vs ds) ≡ (ascending by_value (map key_of (edits ts vs ds)) && every (λ d. not (is_zero d)) ds)
  unfolding is_consolidated
  two_tests = ap (λ b. ascending by_value (map key_of (edits ts vs ds)) && b) every_diff

canon_of : (es : List Edit) → ascending by_value (map key_of es) ≡ true → every (λ e. not (is_zero e.1)) es ≡ true → Canon by_value es
canon_of [] a e = none
canon_of (y ∷ es) a e =
    more (not-true _ (and_l (not (is_zero y.1)) _ e))
    (map_all key_of es (ascending_above by_value strict_by_value y.0 (map key_of es) a))
    (canon_of es (ascending_rest by_value y.0 (map key_of es) a) (and_r (not (is_zero y.1)) _ e))

pub consolidated-same : (es : List Edit) → true ≡ is_consolidated es → consolidate by_value es ≡ es
unfolding is_consolidated
consolidated-same es t =
    let e : is_consolidated es ≡ true = sym t in
    consolidate_canon strict_by_value (canon_of es (and_l (ascending by_value (map key_of es)) _ e) (and_r (ascending by_value (map key_of es)) _ e))
