-- Loops that compare each entry of zipped columns with the next one.
--
-- zipped-length, zipped-at: of two columns of one length
-- climb_hit, climb_miss, climb_end: the entry at i is not before the next one, is before it, no two entries are left
use Prim.Native.Nat.{ℕ, zero, suc, ◌+◌, ◌≤◌, ◌<◌}
use native.Mathlib.Omega.{arith}
use mathlib.Core.Bool.{Bool, true, false, ◌&&◌}
use mathlib.Core.List.{List, [], ◌∷◌}
use mathlib.Core.Path.{◌≡◌, refl, sym, ◌∙◌, ap}
use lib.ListN.{length, drop, get_or}
use Rattle.grid.specs.Lists.{ascending}
use Rattle.grid.proofs.Loops.{drop_more}
use Rattle.grid.proofs.Operations.{no_length}
use Rattle.checks.specs.Checks.{zipped}

module _ {A B : Type 0} where
  pub zipped-length : (as' : List A) (bs : List B) → length bs ≡ length as' → length (zipped as' bs) ≡ length as'
  zipped-length [] bs e = refl
  zipped-length (a ∷ as') [] e = no_length (length as') (sym e)
  zipped-length (a ∷ as') (b ∷ bs) e = ap suc (zipped-length as' bs (omega (arith, e)))

  pub zipped-at : (a : A) (b : B) (as' : List A) (bs : List B) (i : ℕ) → length bs ≡ length as' → get_or (zipped as' bs) i (a, b) ≡ (get_or as' i a, get_or bs i b)
  zipped-at a b [] [] i e = refl
  zipped-at a b [] (y ∷ bs) i e = no_length (length bs) e
  zipped-at a b (x ∷ as') [] i e = no_length (length as') (sym e)
  zipped-at a b (x ∷ as') (y ∷ bs) zero e = refl
  zipped-at a b (x ∷ as') (y ∷ bs) (suc i) e = zipped-at a b as' bs i (omega (arith, e))

module _ {A : Type 0} (d : A) (lt : A → A → Bool) (l : List A) (i : ℕ) where
  ascending_here : i + 1 < length l → ascending lt (drop i l) ≡ (lt (get_or l i d) (get_or l (i + 1) d) && ascending lt (drop (i + 1) l))
  ascending_here h =
      ap (ascending lt) (drop_more l i d (omega arith) ∙ ap (λ r. get_or l i d ∷ r) (drop_more l (i + 1) d h))
      ∙ ap (λ r. lt (get_or l i d) (get_or l (i + 1) d) && ascending lt r) (sym (drop_more l (i + 1) d h))

ascending_short : {A : Type 0} (lt : A → A → Bool) (l : List A) (i : ℕ) → length l ≤ i + 1 → ascending lt (drop i l) ≡ true
ascending_short lt [] zero h = refl
ascending_short lt [] (suc i) h = refl
ascending_short lt (x ∷ []) zero h = refl
ascending_short lt (x ∷ y ∷ l) zero h = absurd (omega arith)
ascending_short lt (x ∷ l) (suc i) h = ascending_short lt l i (omega arith)

module _ {B : Type 0} (b : B) (lt : ℕ × B → ℕ × B → Bool) (ks : List ℕ) (bs : List B) (i : ℕ) (l : length bs ≡ length ks) {a : Bool} where
  climb : {x y : B} → get_or bs i b ≡ x → get_or bs (i + 1) b ≡ y → i + 1 < length ks → ascending lt (drop i (zipped ks bs)) ≡ a
      → (lt (get_or ks i 0, x) (get_or ks (i + 1) 0, y) && ascending lt (drop (i + 1) (zipped ks bs))) ≡ a
  climb p q h e =
      let n : length (zipped ks bs) ≡ length ks = zipped-length ks bs l in
      rw (← p, ← q, ← zipped-at 0 b ks bs i l, ← zipped-at 0 b ks bs (i + 1) l) (sym (ascending_here (0, b) lt (zipped ks bs) i (omega arith)) ∙ e)

  pub climb_hit : {x y : B} → get_or bs i b ≡ x → get_or bs (i + 1) b ≡ y → i + 1 < length ks → ascending lt (drop i (zipped ks bs)) ≡ a
      → lt (get_or ks i 0, x) (get_or ks (i + 1) 0, y) ≡ false → false ≡ a
  climb_hit p q h e t = rw t at (climb p q h e)

  pub climb_miss : {x y : B} → get_or bs i b ≡ x → get_or bs (i + 1) b ≡ y → i + 1 < length ks → ascending lt (drop i (zipped ks bs)) ≡ a
      → lt (get_or ks i 0, x) (get_or ks (i + 1) 0, y) ≡ true → ascending lt (drop (i + 1) (zipped ks bs)) ≡ a
  climb_miss p q h e t = rw t at (climb p q h e)

  pub climb_end : length ks ≤ i + 1 → ascending lt (drop i (zipped ks bs)) ≡ a → true ≡ a
  climb_end h e = let n : length (zipped ks bs) ≡ length ks = zipped-length ks bs l in sym (ascending_short lt (zipped ks bs) i (omega arith)) ∙ e

-- ---- three columns
module _ (lt : ℕ × (ℕ × ℕ) → ℕ × (ℕ × ℕ) → Bool) (ks vs ts : List ℕ) (i : ℕ) (l : (length vs ≡ length ks) × (length ts ≡ length ks)) where
  rest_alike : length ts ≡ length vs
  rest_alike = l.1 ∙ sym l.0

  rest_long : length (zipped vs ts) ≡ length ks
  rest_long = zipped-length vs ts rest_alike ∙ l.0

  pub ranks_hit : {a : Bool} → i + 1 < length ks → ascending lt (drop i (zipped ks (zipped vs ts))) ≡ a
      → lt (get_or ks i 0, (get_or vs i 0, get_or ts i 0)) (get_or ks (i + 1) 0, (get_or vs (i + 1) 0, get_or ts (i + 1) 0)) ≡ false → false ≡ a
  ranks_hit = climb_hit (0, 0) lt ks (zipped vs ts) i rest_long (zipped-at 0 0 vs ts i rest_alike) (zipped-at 0 0 vs ts (i + 1) rest_alike)

  pub ranks_miss : {a : Bool} → i + 1 < length ks → ascending lt (drop i (zipped ks (zipped vs ts))) ≡ a
      → lt (get_or ks i 0, (get_or vs i 0, get_or ts i 0)) (get_or ks (i + 1) 0, (get_or vs (i + 1) 0, get_or ts (i + 1) 0)) ≡ true → ascending lt (drop (i + 1) (zipped ks (zipped vs ts))) ≡ a
  ranks_miss = climb_miss (0, 0) lt ks (zipped vs ts) i rest_long (zipped-at 0 0 vs ts i rest_alike) (zipped-at 0 0 vs ts (i + 1) rest_alike)

  pub ranks_end : {a : Bool} → length ks ≤ i + 1 → ascending lt (drop i (zipped ks (zipped vs ts))) ≡ a → true ≡ a
  ranks_end = climb_end (0, 0) lt ks (zipped vs ts) i rest_long
