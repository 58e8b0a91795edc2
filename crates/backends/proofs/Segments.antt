-- Laws of segments that lie in a row.
--
-- part_length: of a part
-- cut-next: what a cut says of its first segment. segments_next, ends_next: the first segment, and the others
-- consolidate_length: a list has no fewer entries than what it consolidates to
use Prim.Native.Nat.{ℕ, ◌+◌, ◌-◌, ◌<◌, ◌≤◌}
use native.Mathlib.Omega.{arith}
use mathlib.Core.Path.{◌≡◌, sym, ap, subst}
use mathlib.Core.List.{List, ◌∷◌}
use lib.Dec.{ltb}
use lib.ListN.{length, drop, get_or, length-drop}
use lib.Seq.{length-take-le}
use Rattle.grid.specs.Consolidate.{consolidate}
use Rattle.grid.proofs.Sizes.{sizing_one, mass_consolidate, mass_one}
use Rattle.grid.proofs.Loops.{drop_more}
use Rattle.rules.specs.Backends.{Sums}
use Rattle.backends.specs.Segments.{part, segments, ends, Cut, next}

pub part_length : {A : Type 0} (f t : ℕ) (l : List A) → f ≤ t → t ≤ length l → length (part f t l) ≡ t - f
part_length f t l h k = length-take-le (t - f) (drop f l) (rw length-drop (omega arith))

module _ {A : Type 0} {P : List A → Type 0} {l : List A} where
  cut_parts : {f e : ℕ} {es : List ℕ} → Cut P l f (e ∷ es) → (f ≤ e) × ((e ≤ length l) × (P (part f e l) × Cut P l e es))
  cut_parts (next a b p c) = (a, (b, (p, c)))

  pub cut-next : {f : ℕ} (es : List ℕ) (b : ℕ) → b < length es → Cut P l f (drop b es)
      → (f ≤ get_or es b 0) × ((get_or es b 0 ≤ length l) × (P (part f (get_or es b 0) l) × Cut P l (get_or es b 0) (drop (b + 1) es)))
  cut-next {f} es b h c = cut_parts (subst (Cut P l f) (drop_more es b 0 h) c)

module _ {A : Type 0} where
  pub segments_next : (f : ℕ) (es : List ℕ) (l : List A) (b : ℕ) → b < length es → segments f (drop b es) l ≡ part f (get_or es b 0) l ∷ segments (get_or es b 0) (drop (b + 1) es) l
  unfolding segments
  segments_next f es l b h = ap (λ z. segments f z l) (drop_more es b 0 h)

  pub ends_next : (k : ℕ) (s : List A) (ss : List (List A)) {r : ℕ} → r ≡ k + length s → ends k (s ∷ ss) ≡ r ∷ ends r ss
  unfolding ends
  ends_next k s ss e = let q = sym e in λ t. q t ∷ ends (q t) ss

-- ---- how many entries a correction has at most
pub consolidate_length : (l : Sums) → length (consolidate ltb l) ≤ length l
consolidate_length l = omega (arith, mass_consolidate (λ d. 1) sizing_one ltb l, mass_one (consolidate ltb l), mass_one l)
