-- The head comparison over times is that of the edits.
--
-- heads_none, heads_other, heads_both: what decides it at two places
-- chosen-first, chosen-second: what is handed back
-- heads-edits: it is the edits' comparison
-- head_first, head_second: the history that steps has an edit ahead
-- on_over, on_rest: what decides whether another turn is made. on_more, on_few, on_none: what follows if it is, and if it is not
use Prim.Native.Nat.{ℕ, ◌-◌, ◌≤◌, ◌<◌, ◌+◌}
use native.Mathlib.Omega.{arith}
use mathlib.Core.Bool.{Bool, true, false, not}
use mathlib.Core.List.{List, [], ◌∷◌, map}
use mathlib.Core.Path.{◌≡◌, refl, sym, ◌∙◌, ap}
use Rattle.std.specs.Prelude.{◌==◌}
use Rattle.std.proofs.lemmas.Bool.Decides.{nat_tests}
use lib.Dec.{ltb, leb}
use lib.ListN.{length, take, drop, get_or, length-drop, drop_of_length-le}
use lib.Seq.{take_all}
use Rattle.grid.proofs.Loops.{drop_more}
use Rattle.grid.proofs.Tests.{by-test, clash, and_l, and_r}
use Rattle.rules.specs.Histories.{Edit, time_of}
use Rattle.rules.specs.Wave.{first_steps}
use Rattle.emissions.specs.Heads.{head_earlier, chosen_times, most_emissions, goes_on}
use Rattle.emissions.specs.declared.head.Stand.{Stand}
use borrow.Author.Tests.{leb-true, ltb-true, ltb-false, le-leb, lt-leb, le-ltb, lt-ltb}

module _ (ss : List ℕ) (i : ℕ) (ts : List ℕ) (j : ℕ) where
  pub heads_none : length ss ≤ i → false ≡ head_earlier (drop i ss) (drop j ts)
  unfolding head_earlier
  heads_none h = rw (drop_of_length-le ss h) refl

  pub heads_other : i < length ss → length ts ≤ j → true ≡ head_earlier (drop i ss) (drop j ts)
  unfolding head_earlier
  heads_other h k = rw (drop_more ss i 0 h, drop_of_length-le ts k) refl

  pub heads_both : i < length ss → j < length ts → ltb (get_or ss i 0) (get_or ts j 0) ≡ head_earlier (drop i ss) (drop j ts)
  unfolding head_earlier
  heads_both h k = rw (drop_more ss i 0 h, drop_more ts j 0 k) refl

remaining : (s : List ℕ) (i : ℕ) → take (length s - i) (drop i s) ≡ drop i s
remaining s i = take_all (length s - i) (drop i s) (simp length-drop (omega arith))

module _ (ss : List ℕ) (i : ℕ) (ts : List ℕ) (j : ℕ) {b : Bool} (e : b ≡ head_earlier (drop i ss) (drop j ts)) where
  pub chosen-first : b ≡ true → take (length ss - i) (drop i ss) ≡ chosen_times (drop i ss) (drop j ts)
  unfolding chosen_times
  chosen-first t = let f : head_earlier (drop i ss) (drop j ts) ≡ true = sym e ∙ t in rw f (remaining ss i)

  pub chosen-second : b ≡ false → take (length ts - j) (drop j ts) ≡ chosen_times (drop i ss) (drop j ts)
  unfolding chosen_times
  chosen-second t = let f : head_earlier (drop i ss) (drop j ts) ≡ false = sym e ∙ t in rw f (remaining ts j)

pub heads-edits : (as' bs : List Edit) → head_earlier (map time_of as') (map time_of bs) ≡ first_steps as' bs
unfolding head_earlier first_steps
heads-edits [] bs = refl
heads-edits (a ∷ as') [] = refl
heads-edits (a ∷ as') (b ∷ bs) = refl

-- ---- the history that steps
module _ (ss : List ℕ) (i : ℕ) (ts : List ℕ) (j : ℕ) where
  pub head_first : head_earlier (drop i ss) (drop j ts) ≡ true → i < length ss
  unfolding head_earlier
  head_first e = by-test (ltb i (length ss)) (λ t. ltb-true i (length ss) t) (λ t. let n : drop i ss ≡ [] = drop_of_length-le ss {i = i} (ltb-false i (length ss) t) in clash false (rw n at e) refl)

  pub head_second : head_earlier (drop i ss) (drop j ts) ≡ false → i + j < length ss + length ts → j ≤ length ts → j < length ts
  unfolding head_earlier
  head_second e h w =
      by-test (ltb j (length ts)) (λ t. ltb-true j (length ts) t)
      (λ t. let k : length ts ≤ j = ltb-false j (length ts) t in let n : drop j ts ≡ [] = drop_of_length-le ts {i = j} k in clash true refl (rw (n, drop_more ss i 0 (omega arith)) at e))

-- ---- whether another turn is made
positive : (n : ℕ) → not (n == 0) ≡ ltb 0 n
positive n = grind (arith, nat_tests)

pub on_over : (a b : ℕ) (s : Stand) → most_emissions < s.count → false ≡ goes_on a b s
unfolding goes_on
on_over a b s h = rw (lt-leb s.count most_emissions h)

module _ (ss : List ℕ) (i : ℕ) (ts : List ℕ) (j : ℕ) (u : i ≤ length ss) (v : j ≤ length ts) where
  rest_ahead : ltb 0 (length (chosen_times (drop i ss) (drop j ts))) ≡ ltb (i + j) (length ss + length ts)
  unfolding chosen_times
  rest_ahead =
      by-test (head_earlier (drop i ss) (drop j ts))
      (λ e. let h : i < length ss = head_first ss i ts j e in rw (e, length-drop) (lt-ltb 0 (length ss - i) (omega arith) ∙ sym (lt-ltb (i + j) (length ss + length ts) (omega arith))))
      (λ e. by-test (ltb (i + j) (length ss + length ts))
      (λ t. let h : j < length ts = head_second ss i ts j e (ltb-true (i + j) (length ss + length ts) t) v in rw (e, t, length-drop) (lt-ltb 0 (length ts - j) (omega arith)))
      (λ t. let h : length ss + length ts ≤ i + j = ltb-false (i + j) (length ss + length ts) t in rw (e, t, length-drop) (le-ltb 0 (length ts - j) (omega arith))))

  pub on_rest : (s : Stand) → s.first.at ≡ i → s.second.at ≡ j → s.count ≤ most_emissions → {rest : List ℕ} {b : Bool} → rest ≡ chosen_times (drop i ss) (drop j ts) → b ≡ (length rest == 0) → not b ≡ goes_on (length ss) (length ts) s
  unfolding goes_on
  on_rest s p q h {rest} e f = ap not f ∙ positive (length rest) ∙ rw (e, le-leb s.count most_emissions h, p, q) rest_ahead

module _ (a b : ℕ) (s : Stand) (e : goes_on a b s ≡ true) where
  pub on_few : s.count ≤ most_emissions
  unfolding goes_on
  on_few = leb-true s.count most_emissions (and_l (leb s.count most_emissions) (ltb (s.first.at + s.second.at) (a + b)) e)

  pub on_more : s.first.at + s.second.at < a + b
  unfolding goes_on
  on_more = ltb-true (s.first.at + s.second.at) (a + b) (and_r (leb s.count most_emissions) (ltb (s.first.at + s.second.at) (a + b)) e)

pub on_none : (a b : ℕ) (s : Stand) → goes_on a b s ≡ false → s.count ≤ most_emissions → a + b ≤ s.first.at + s.second.at
unfolding goes_on
on_none a b s e h = let f = rw (le-leb s.count most_emissions h) at e in ltb-false (s.first.at + s.second.at) (a + b) f
