-- "Backends. Count: total c of all diffs; if c is not 0, one record, value id 2^63 + c, diff 1. Distinct: each value whose sum is not 0, diff
-- 1. The correction is wanted minus present, by ascending value."
--
-- Sums: values, ascending, with their nonzero sums
-- count, distinct: the two reductions. listed: a sum for which distinct lists the value
-- wanted: by mode (1 count, 2 distinct). minus: all diffs negated. correction: wanted minus present
use Rattle.std.specs.Prelude.{ℕ, Bool, cond, not, List, [], ◌∷◌, ◌++◌, map, ltb, eqb, ℤ, pos, ◌+ℤ◌, neg_ℤ, nat_abs}
use Rattle.grid.specs.Lists.{keep}
use Rattle.grid.specs.Consolidate.{is_zero, consolidate, total}

abbrev pub Sums : Type 0
Sums = List (ℕ × ℤ)

unfoldable pub count : Sums → Sums
count c = cond (is_zero (total c)) [] ((nat_abs (pos 9223372036854775808 +ℤ total c), pos 1) ∷ [])

unfoldable pub listed : ℤ → Bool
listed d = not (is_zero d)

unfoldable pub distinct : Sums → Sums
distinct c = map (λ p. (p.0, pos 1)) (keep (λ p. listed p.1) c)

unfoldable pub wanted : ℕ → Sums → Sums
wanted mode c = cond (eqb mode 1) (count c) (distinct c)

unfoldable pub minus : Sums → Sums
minus c = map (λ p. (p.0, neg_ℤ p.1)) c

unfoldable pub correction : ℕ → Sums → Sums → Sums
correction mode input output = consolidate ltb (wanted mode input ++ minus output)
