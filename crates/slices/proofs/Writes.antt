-- What the loops that count and gather keep.
--
-- up_more, up_none: places still to be written. gather_more, gather_none: entries still to be gathered
use Prim.Native.Nat.{ℕ, suc, ◌≤◌, ◌<◌, ◌+◌, ◌-◌}
use native.Mathlib.Omega.{arith}
use native.Mathlib.Numerals.{add-one}
use mathlib.Core.List.{List, [], ◌∷◌, map}
use mathlib.Core.Path.{◌≡◌, sym, ◌∙◌, ap}
use lib.ListN.{length, drop, get_or, drop_of_length-le}
use Rattle.grid.proofs.Loops.{map_more}
use Rattle.slices.specs.Places.{up_from}

pub up_more : (n k : ℕ) → k < n → up_from k (n - k) ≡ k ∷ up_from (k + 1) (n - (k + 1))
unfolding up_from
up_more n k h = let e : n - k ≡ suc (n - (k + 1)) = omega arith in rw (e, add-one)

pub up_none : (n k : ℕ) → n ≤ k → up_from k (n - k) ≡ []
unfolding up_from
up_none n k h = let e : n - k ≡ 0 = omega arith in rw e

module _ {A B : Type 0} (f : A → B) (l : List A) (i : ℕ) where
  pub gather_more : (d : A) {x : B} → i < length l → x ≡ f (get_or l i d) → map f (drop i l) ≡ x ∷ map f (drop (i + 1) l)
  gather_more d h e = map_more f l i d h ∙ ap (λ z. z ∷ map f (drop (i + 1) l)) (sym e)

  pub gather_none : length l ≤ i → map f (drop i l) ≡ []
  gather_none h = ap (map f) (drop_of_length-le l h)
