-- A key's correction is what the walk appends: of its input where distinct is wanted, of its one count where that is wanted, of nothing where the count is 0.
--
-- ready_none, ready_one: what the walk asks, with no input, with one count
-- end_distinct, end_none, end_one: the walk's answer is the correction
use Prim.Native.Nat.{ℕ, suc, ◌+◌, ◌≤◌}
use native.Mathlib.Omega.{arith}
use mathlib.Core.Bool.{true, false}
use mathlib.Core.Path.{◌≡◌, refl, sym, ap, subst}
use mathlib.Core.List.{List, [], ◌∷◌, ◌++◌}
use lib.Dec.{ltb, eqb}
use lib.IntN.{ℤ, pos, ◌+ℤ◌, nat_abs}
use lib.ListN.{length}
use Rattle.grid.specs.Consolidate.{is_zero, consolidate, total}
use Rattle.grid.proofs.Tests.{clash}
use Rattle.grid.proofs.Lists.{nil}
use Rattle.grid.proofs.Sums.{sum}
use Rattle.grid.proofs.Consolidate.{none, more}
use Rattle.grid.proofs.Operations.{no_length}
use Rattle.rules.specs.Backends.{Sums, listed, count, distinct, wanted, minus, correction}
use Rattle.backends.specs.Columns.{entries, Appended}
use Rattle.backends.specs.Correct.{distinct_minus, Ready, Segment}
use Rattle.backends.specs.Modes.{mode_number}
use Rattle.backends.specs.declared.mode.Mode.{Mode}
use Rattle.backends.proofs.Columns.{less}

total-entries : (vs : List ℕ) (ds : List ℤ) → length ds ≡ length vs → total (entries vs ds) ≡ sum (λ x. x) ds
unfolding entries
total-entries [] [] e = refl
total-entries [] (d ∷ ds) e = no_length (length ds) e
total-entries (v ∷ vs) [] e = no_length (length vs) (sym e)
total-entries (v ∷ vs) (d ∷ ds) e = ap (λ z. d +ℤ z) (total-entries vs ds (less e))

some_input : (vs : List ℕ) (ds : List ℤ) → length ds ≡ length vs → is_zero (sum (λ x. x) ds) ≡ false → 1 ≤ length vs
some_input vs [] e z = clash true refl z
some_input vs (d ∷ ds) e z = let k : suc (length ds) ≡ length vs = e in omega arith

module _ {iv : List ℕ} {id : List ℤ} {ov : List ℕ} {od : List ℤ} {cv : List ℕ} {cd : List ℤ} {at : ℕ} (s : Segment iv id ov od cv cd at) where
  pub ready_none : Ready [] [] ov od cv cd at
  unfolding entries
  ready_none =
      let h : at + length iv + length ov ≤ length cv = s.ready.room in
      record { same_i = refl; same_o = s.ready.same_o; same_c = s.ready.same_c; room = omega arith; canon_i = none; canon_o = s.ready.canon_o; small_o = s.ready.small_o }

  pub ready_one : (v : ℕ) → is_zero (sum (λ x. x) id) ≡ false → Ready (v ∷ []) (pos 1 ∷ []) ov od cv cd at
  unfolding entries
  ready_one v z =
      let h : at + length iv + length ov ≤ length cv = s.ready.room in
      let k : 1 ≤ length iv = some_input iv id s.ready.same_i z in
      record { same_i = refl; same_o = s.ready.same_o; same_c = s.ready.same_c; room = omega arith; canon_i = more refl nil none; canon_o = s.ready.canon_o; small_o = s.ready.small_o }

  module _ {v : List ℕ} {d : List ℤ} {r : ℕ} (mode : Mode) where
    finish : (e : Sums) → distinct e ≡ wanted (mode_number mode) (entries iv id) → Appended cv cd at (distinct_minus e (entries ov od)) v d r
        → Appended cv cd at (correction (mode_number mode) (entries iv id) (entries ov od)) v d r
    unfolding distinct_minus correction
    finish e q a = subst (λ (l : Sums). Appended cv cd at l v d r) (ap (λ l. consolidate ltb (l ++ minus (entries ov od))) q) a

    pub end_distinct : eqb (mode_number mode) 1 ≡ false → Appended cv cd at (distinct_minus (entries iv id) (entries ov od)) v d r → Appended cv cd at (correction (mode_number mode) (entries iv id) (entries ov od)) v d r
    unfolding wanted
    end_distinct m a = finish (entries iv id) (rw m refl) a

    pub end_none : eqb (mode_number mode) 1 ≡ true → is_zero (sum (λ x. x) id) ≡ true → Appended cv cd at (distinct_minus (entries [] []) (entries ov od)) v d r
        → Appended cv cd at (correction (mode_number mode) (entries iv id) (entries ov od)) v d r
    unfolding entries wanted count distinct
    end_none m z a = finish [] (rw (m, total-entries iv id s.ready.same_i, z) refl) a

    pub end_one : (x : ℕ) → eqb (mode_number mode) 1 ≡ true → is_zero (sum (λ x. x) id) ≡ false → x ≡ nat_abs (pos 9223372036854775808 +ℤ sum (λ x. x) id)
        → Appended cv cd at (distinct_minus (entries (x ∷ []) (pos 1 ∷ [])) (entries ov od)) v d r → Appended cv cd at (correction (mode_number mode) (entries iv id) (entries ov od)) v d r
    unfolding entries wanted count distinct listed
    end_one x m z e a = finish ((x, pos 1) ∷ []) (rw (m, total-entries iv id s.ready.same_i, z) (ap (λ y. (y, pos 1) ∷ []) e)) a
