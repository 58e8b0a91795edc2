-- "Consolidate: sort ascending, add the diffs of equal entries, drop zeros."
--
-- An entry is (a, d): what is added up, and its diff. One definition serves every order `lt` of what is added up.
--
-- is_zero: of a diff
-- lex l r: the lexicographic order of pairs
-- unless_zero a d r: (a, d) in front of r, unless d is zero
-- add a d r: (a, d) added to a consolidated list
-- consolidate: of any list of entries
-- total: the sum of all diffs
use Rattle.std.specs.Prelude.{Bool, false, cond, ◌&&◌, ◌||◌, not, List, [], ◌∷◌, eqb, ℤ, pos, negsuc, ◌+ℤ◌}

abbrev pub is_zero : ℤ → Bool
is_zero (pos n) = eqb n 0
is_zero (negsuc n) = false

abbrev pub lex : {A B : Type 0} → (A → A → Bool) → (B → B → Bool) → A × B → A × B → Bool
lex l r p q = l p.0 q.0 || (not (l q.0 p.0) && r p.1 q.1)

abbrev pub unless_zero : {A : Type 0} → A → ℤ → List (A × ℤ) → List (A × ℤ)
unless_zero a d r = cond (is_zero d) r ((a, d) ∷ r)

module _ {A : Type 0} (lt : A → A → Bool) where
  abbrev pub add : A → ℤ → List (A × ℤ) → List (A × ℤ)
  add a d [] = unless_zero a d []
  add a d (y ∷ r) =
      let rest = add a d r in
      cond (lt a y.0) (unless_zero a d (y ∷ r)) (cond (lt y.0 a) (y ∷ rest) (unless_zero a (d +ℤ y.1) r))

  abbrev pub consolidate : List (A × ℤ) → List (A × ℤ)
  consolidate [] = []
  consolidate (y ∷ r) = add y.0 y.1 (consolidate r)

abbrev pub total : {A : Type 0} → List (A × ℤ) → ℤ
total [] = pos 0
total (y ∷ r) = y.1 +ℤ total r
