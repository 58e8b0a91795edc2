-- Advances of a buffer: joined, sorted, equals removed.
--
-- puts_ascending: a strictly ascending list is its own set
-- advanced_ascending: all of a column was advanced, where the joined times ascend
-- advances_some, advances_none: the first `count` entries were advanced by a time; there was none
use Prim.Native.Nat.{ℕ, ◌-◌, ◌≤◌}
use native.Mathlib.Omega.{arith}
use mathlib.Core.Bool.{true}
use mathlib.Core.List.{List, [], ◌∷◌, ◌++◌, map, append_assoc, append-nil}
use mathlib.Core.Option.{Option, none, some}
use mathlib.Core.Path.{◌≡◌, refl, sym, ◌∙◌, ap}
use lib.Dec.{leb, ltb}
use lib.ListN.{length, take, drop, length-append, length-map, length-replicate, take-append-drop}
use lib.Seq.{length-take-le, take_at, drop_at}
use Rattle.grid.specs.Lists.{sort, ascending, padded}
use Rattle.grid.specs.Times.{join, put, puts}
use Rattle.grid.proofs.Tests.{by-test, and_l}
use Rattle.grid.proofs.Ascending.{ascending_rest}
use Rattle.grid.proofs.Sort.{length_sort}
use Rattle.grid.proofs.Slices.{laid_fits}
use Rattle.rules.specs.Histories.{advance_times}
use Rattle.histories.specs.Advances.{work_after, Advanced, Advances}

put-before : (t : ℕ) (us : List ℕ) → ascending ltb (t ∷ us) ≡ true → put t us ≡ t ∷ us
put-before t [] e = refl
put-before t (u ∷ us) e = rw (and_l (ltb t u) (ascending ltb (u ∷ us)) e)

pub puts_ascending : (ts : List ℕ) → ascending ltb ts ≡ true → puts ts [] ≡ ts
puts_ascending [] e = refl
puts_ascending (t ∷ ts) e = ap (put t) (puts_ascending ts (ascending_rest ltb t ts e)) ∙ put-before t ts e

-- ---- a whole column
module _ (f : ℕ → ℕ) (s w : List ℕ) {s₁ : List ℕ} (e : s₁ ≡ map f s) where
  -- where it ascends nothing is done
  pub advanced_ascending : true ≡ ascending ltb s₁ → Advanced f s w s₁ w (length s₁)
  advanced_ascending t =
      let a : ascending ltb (map f s) ≡ true = ap (ascending ltb) (sym e) ∙ sym t in
      let p : puts (map f s) [] ≡ map f s = puts_ascending (map f s) a in
      let l : length (map f s) ≡ length s = length-map s f in
      let n : length s - length (map f s) ≡ 0 = omega arith in
      record {
        within = omega (arith, ap length e);
        removed = record { count_is = ap length (e ∙ sym p); exit_is = rw (p, n) (e ∙ sym (append-nil (map f s))) };
        work = rw a;
      }

-- ---- the front of a column
-- a list and zeros, up to `count`, and then what was there
module _ (xs col : List ℕ) {col' : List ℕ} {count r : ℕ} (h : r ≤ count) (n : r ≡ length xs) (e : col' ≡ padded 0 count xs ++ drop count col) where
  padded_front : take r col' ≡ xs
  padded_front = rw (e, append_assoc) (take_at xs _ r (sym n))

  padded_back : drop count col' ≡ drop count col
  padded_back = rw e (drop_at (padded 0 count xs) (drop count col) count (rw (length-append, length-replicate) (omega arith)))

module _ {o : Option ℕ} (count : ℕ) (col work : List ℕ) (h : count ≤ length col) (k : count ≤ length work) where
  pub advances_none : o ≡ none → Advances o count col work col work count
  unfolding advance_times work_after
  advances_none e =
      let n : length (take count col) ≡ count = length-take-le count col h in
      let z : count - length (take count col) ≡ 0 = omega arith in
      record {
        within = omega arith;
        buffer = rw e;
        holds = rw (e, z, append-nil) (sym (take-append-drop count col));
        same_ahead = refl;
        work_holds = rw e;
      }

  pub advances_some : {m : ℕ} {x y : List ℕ} {r : ℕ} → o ≡ some m → Advanced (join m) (take count col) (take count work) x y r → Advances o count col work (x ++ drop count col) (y ++ drop count work) r
  unfolding advance_times work_after
  advances_some {m} {x} {y} {r} e a =
      let n : length (take count col) ≡ count = length-take-le count col h in
      let b : r ≤ count = rw (← n) a.within in
      let xs = map (join m) (take count col) in
      let l : length (sort leb xs) ≡ count = length_sort leb xs ∙ length-map (take count col) (join m) ∙ n in
      let x' : x ≡ padded 0 count (puts xs []) = a.removed.exit_is ∙ ap (λ c. padded 0 c (puts xs [])) n in
      let t : x ++ drop count col ≡ padded 0 count (puts xs []) ++ drop count col = rw x' in
      record {
        within = b;
        buffer = rw e (padded_front (puts xs []) col b a.removed.count_is t);
        holds = rw e t;
        same_ahead = padded_back (puts xs []) col b a.removed.count_is t;
        work_holds =
            rw e
            (by-test (ascending ltb xs)
            (λ q. let w : y ≡ take count work = rw q at a.work in rw (q, w) (take-append-drop count work))
            (λ q. let w : y ≡ sort leb xs = rw q at a.work in rw (q, w, laid_fits (sort leb xs) work (omega arith), l)));
      }
