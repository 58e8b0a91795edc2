-- The loop that adds up the diffs at times at or below t, and runs of equal values.
--
-- Summing: s is the sum over the entries before ts' and ds'. summing_start, summing_skip, summing_add, summing_end: the loop keeps that. sum_fits: what it asks
-- run_taken: a run is what is taken while the value is the same. run_within, run_some: its length
use Prim.Native.Nat.{ℕ, suc, ◌+◌, ◌*◌, ◌<◌, ◌≤◌, ◌^◌}
use native.Mathlib.Omega.{arith}
use mathlib.Core.Bool.{true, false}
use mathlib.Core.Path.{◌≡◌, refl, sym, ◌∙◌, ap, subst}
use mathlib.Core.List.{List, [], ◌∷◌}
use lib.Dec.{eqb}
use lib.IntN.{ℤ, pos, ◌+ℤ◌, nat_abs, +ℤ_assoc, +ℤ_idl, +ℤ_idr}
use lib.Signed.{mag}
use lib.ListN.{length, drop, get_or}
use lib.Seq.{drop-cons}
use borrow.Author.Tests.{eq-eqb}
use native.Mathlib.Numerals.{one-add}
use Rattle.std.specs.Prelude.{take_while}
use Rattle.grid.specs.Lists.{front}
use Rattle.grid.specs.Times.{below}
use Rattle.grid.proofs.Tests.{by-test}
use Rattle.grid.proofs.Lists.{All, head, tail}
use Rattle.grid.proofs.Consolidate.{tally}
use Rattle.grid.proofs.Sizes.{sizing_nat_abs}
use Rattle.diffs.specs.Diffs.{modest}
use Rattle.backends.specs.Columns.{entries}
use Rattle.backends.proofs.Columns.{less}
use mir.Syntax.{w64}
use mir.Val.{to_z, of_z, SFits}
use Rattle.grid.proofs.Operations.{no_length}
use Rattle.grid.proofs.Signed.{mag_le}
use Rattle.diffs.proofs.Signed.{added_fits, added}

-- ---- sums
none_left : (l : List ℕ) → length l ≡ 0 → l ≡ []
none_left [] n = refl
none_left (x ∷ l) n = no_length (length l) n

pub record Summing (ts : List ℕ) (ds : List ℤ) (t : ℕ) (s : ℤ) (ts' : List ℕ) (ds' : List ℤ) : Type 0 where
  pub same : length ds' ≡ length ts'
  pub small : All modest ds'
  pub size : nat_abs s + length ts' * 2 ^ 48 ≤ 2 ^ 61
  pub done : s +ℤ tally (λ u. below u t) (entries ts' ds') ≡ tally (λ u. below u t) (entries ts ds)

pub summing_start : (ts : List ℕ) (ds : List ℤ) (t : ℕ) → (length ds ≡ length ts) × ((length ts ≤ 8192) × All modest ds) → {ts' : List ℕ} {ds' : List ℤ} → ts' ≡ ts → ds' ≡ ds → Summing ts ds t (pos 0) ts' ds'
summing_start ts ds t a p q = rw (p, q) record { same = a.0; small = a.1.1; size = omega arith; done = +ℤ_idl (tally (λ u. below u t) (entries ts ds)) }

module _ {ts : List ℕ} {ds : List ℤ} {t : ℕ} {s : ℤ} {ts' : List ℕ} {ds' : List ℤ} (m : Summing ts ds t s ts' ds') where
  module _ {u : ℕ} {d : ℤ} {ts'' : List ℕ} {ds'' : List ℤ} (p : ts' ≡ u ∷ ts'') (q : ds' ≡ d ∷ ds'') where
    next_size : nat_abs (s +ℤ d) + length ts'' * 2 ^ 48 ≤ 2 ^ 61
    next_size =
        let n : length ts' ≡ suc (length ts'') = ap length p in
        let b : nat_abs d ≤ 2 ^ 48 = head (subst (All modest) q m.small) in
        omega (arith, m.size, sizing_nat_abs.plus s d)

    sum_small : mag (s +ℤ d) < 2 ^ 63
    sum_small = omega (arith, mag_le (s +ℤ d), next_size)

    diff_small : mag d < 2 ^ 63
    diff_small = let b : nat_abs d ≤ 2 ^ 48 = head (subst (All modest) q m.small) in omega (arith, mag_le d)

    pub sum_fits : SFits w64 (s +ℤ to_z w64 (of_z w64 d))
    sum_fits = added_fits s d diff_small sum_small

    sum_stored : to_z w64 (of_z w64 (s +ℤ to_z w64 (of_z w64 d))) ≡ s +ℤ d
    sum_stored = added s d diff_small sum_small

    later : length ds'' ≡ length ts''
    later = less (sym (ap length q) ∙ m.same ∙ ap length p)

    pub summing_skip : below u t ≡ false → Summing ts ds t s ts'' ds''
    unfolding entries
    summing_skip e = record {
      same = later;
      small = tail (subst (All modest) q m.small);
      size = (let n : length ts' ≡ suc (length ts'') = ap length p in omega (arith, m.size));
      done = ap (λ y. s +ℤ y) (sym ((λ z. tally (λ u. below u t) (entries (p z) (q z))) ∙ rw e (+ℤ_idl _))) ∙ m.done;
    }

    pub summing_add : below u t ≡ true → Summing ts ds t (to_z w64 (of_z w64 (s +ℤ to_z w64 (of_z w64 d)))) ts'' ds''
    unfolding entries
    summing_add e = record {
      same = later;
      small = tail (subst (All modest) q m.small);
      size = rw sum_stored next_size;
      done = ap (λ y. y +ℤ tally (λ u. below u t) (entries ts'' ds'')) sum_stored ∙ +ℤ_assoc s d (tally (λ u. below u t) (entries ts'' ds''))
          ∙ ap (λ y. s +ℤ y) (sym ((λ z. tally (λ u. below u t) (entries (p z) (q z))) ∙ rw e)) ∙ m.done;
    }

  pub summing_end : length ts' ≡ 0 → s ≡ tally (λ u. below u t) (entries ts ds)
  unfolding entries
  summing_end n = let e : ts' ≡ [] = none_left ts' n in sym (+ℤ_idr s) ∙ ap (λ l. s +ℤ tally (λ u. below u t) (entries l ds')) (sym e) ∙ m.done

-- ---- runs of one value
abbrev pub run : ℕ → List ℕ → ℕ
run v l = length (front (λ x. eqb x v) l)

pub run_taken : (v : ℕ) (l : List ℕ) → length (take_while (λ x. eqb x v) l) ≡ run v l
run_taken v [] = refl
run_taken v (x ∷ l) = by-test (eqb x v) (λ e. rw (e, one-add) (ap suc (run_taken v l))) (λ e. rw e)

pub run_within : (v : ℕ) (l : List ℕ) → run v l ≤ length l
run_within v [] = omega arith
run_within v (x ∷ l) =
    let h : run v l ≤ length l = run_within v l in
    by-test (eqb x v) (λ e. rw e (omega arith)) (λ e. rw e (omega arith))

pub run_some : (l : List ℕ) (i : ℕ) → i < length l → 1 ≤ run (get_or l i 0) (drop i l)
run_some l i h = rw (drop-cons l i 0 h, eq-eqb (get_or l i 0) (get_or l i 0) refl) (omega arith)
