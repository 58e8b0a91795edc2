-- The form is canonical: a request is read from no other bytes than those that print it.
--
-- From show P s x r: s is the text of x and then r, and P holds of x
-- Canonical p show P: whatever p reads is so
-- Printed s q: s is the text of the request q, which fits
-- request_canonical: the requests that are read are exactly the printed ones
use Prim.Native.Nat.{ℕ, zero, suc, ◌≤◌, ◌<◌, ◌^◌}
use Prim.Native.String.{String}
use native.Mathlib.Omega.{arith}
use mathlib.Core.Bool.{Bool, true, false, false≢true}
use mathlib.Core.List.{List, [], ◌∷◌, ◌++◌, append_assoc, append-nil}
use mathlib.Core.Logic.{◌⊎◌, inl, inr, ◌↔◌}
use mathlib.Core.Option.{Option, none, some}
use mathlib.Core.Path.{◌≡◌, refl, sym, ◌∙◌, ap, subst}
use lib.Dec.{ltb, eqb}
use lib.IntN.{ℤ, pos}
use lib.ListN.{length}
use lib.Signed.{mag}
use borrow.Author.Tests.{ltb-false, eqb-true}
use Rattle.grid.specs.Lists.{flat}
use Rattle.grid.specs.Times.{at}
use Rattle.grid.specs.Frontiers.{most_times}
use Rattle.grid.proofs.Tests.{by-test}
use Rattle.grid.proofs.Times.{hi_at, lo_at}
use Rattle.grid.proofs.Lists.{All, nil, cons}
use Rattle.rules.specs.Call.{Request}
use Rattle.form.specs.Text.{ascii}
use Rattle.form.specs.Read.{most_bytes, most_lines, Reader, then, word, ending, number, max32, max63, max64, negated, signed, time, times, list, mode, line, the_row, row, pair, many, Asked, bad, asked, at-line, ended, Sections, sections, request_from, line_after, body, request, parse}
use Rattle.form.specs.Show.{decimal, signed_decimal, show_time, show_more, show_list, show_row, show_pair, show_line, show_mode, show_request}
use Rattle.form.proofs.Digits.{same_some, not_some, number_is}
use Rattle.form.proofs.Back.{list-times, RowFits, PairFits, TimesFit, LinesFit, Fits, shown_rows, shown_pairs, body_text, request_text, request_back}

record From {A : Type 0} (show : A → List ℕ) (P : A → Type 0) (s : List ℕ) (y : A × List ℕ) : Type 0 where
  pub is : s ≡ show y.0 ++ y.1
  pub fits : P y.0

record Canonical {A : Type 0} (p : Reader A) (show : A → List ℕ) (P : A → Type 0) : Type 0 where
  pub only : (s : List ℕ) (y : A × List ℕ) → p s ≡ some y → From show P s y

-- ---- what `then` went through
record Went {A B : Type 0} (o : Option A) (f : A → Option B) (y : B) : Type 0 where
  pub value : A
  pub was : o ≡ some value
  pub gave : f value ≡ some y

went : {A B : Type 0} (o : Option A) (f : A → Option B) {y : B} → then o f ≡ some y → Went o f y
went none f e = not_some e
went (some x) f e = record { value = x; was = refl; gave = e }

-- ---- words
word_is : (w s : List ℕ) {r : List ℕ} → word w s ≡ some r → s ≡ w ++ r
unfolding word
word_is [] s e = same_some e
word_is (c ∷ w) [] e = not_some e
word_is (c ∷ w) (b ∷ s) {r} e =
    by-test (eqb b c)
    (λ t. let q : b ≡ c = eqb-true b c t in let h : s ≡ w ++ r = word_is w s (rw t at e) in λ i. q i ∷ h i)
    (λ t. not_some (rw t at e))

ending_only : {A : Type 0} {p : Reader A} {show : A → List ℕ} {P : A → Type 0} (w : List ℕ) → Canonical p show P → Canonical (ending w p) (λ x. show x ++ w) P
unfolding ending
ending_only {A} {p} {show} {P} w C = record {
  only = λ s y e.
      let a = went (p s) (λ x. then (word w x.1) (λ r. some (x.0, r))) e in
      let b = went (word w a.value.1) (λ r. some (a.value.0, r)) a.gave in
      let F : From show P s a.value = C.only s a.value a.was in
      subst (From (λ x. show x ++ w) P s) (same_some b.gave) (record {
        is = F.is ∙ ap (λ l. show a.value.0 ++ l) (word_is w a.value.1 b.was) ∙ sym (append_assoc (show a.value.0) w b.value);
        fits = F.fits;
      });
}

-- ---- numbers, times, diffs
number_only : (most : ℕ) → most < 2 ^ 64 → Canonical (number most) decimal (λ n. n ≤ most)
number_only most h = record { only = λ s y e. let N = number_is most s h e in record { is = N.is; fits = N.small } }

time_of_lem : (a b : ℕ) → a ≤ max32 → b ≤ max32 → decimal a ++ (58 ∷ []) ++ decimal b ≡ show_time (at a b)
unfolding show_time
time_of_lem a b h k = rw (hi_at a b (omega arith), lo_at a b (omega arith))

at_small : (a b : ℕ) → a ≤ max32 → b ≤ max32 → at a b < 2 ^ 64
unfolding at
at_small a b h k = omega arith

time_only : Canonical time show_time (λ t. t < 2 ^ 64)
unfolding time
time_only = record {
  only = λ s y e.
      let a = went (ending (ascii ":") (number max32) s) (λ x. then (number max32 x.1) (λ b. some (at x.0 b.0, b.1))) e in
      let b = went (number max32 a.value.1) (λ x. some (at a.value.0 x.0, x.1)) a.gave in
      let F = (ending_only (58 ∷ []) (number_only max32 (omega arith))).only s a.value a.was in
      let G = (number_only max32 (omega arith)).only a.value.1 b.value b.was in
      subst (From show_time (λ t. t < 2 ^ 64) s) (same_some b.gave) (record {
        is =
            F.is
            ∙ ap (λ l. (decimal a.value.0 ++ (58 ∷ [])) ++ l) G.is
            ∙ sym (append_assoc (decimal a.value.0 ++ (58 ∷ [])) (decimal b.value.0) b.value.1)
            ∙ ap (λ l. l ++ b.value.1) (time_of_lem a.value.0 b.value.0 F.fits G.fits);
        fits = at_small a.value.0 b.value.0 F.fits G.fits;
      });
}

negated_is : (y : ℕ × List ℕ) {z : ℤ × List ℕ} (s : List ℕ) → From decimal (λ n. n ≤ suc max63) s y → negated y ≡ some z → From signed_decimal (λ d. mag d < 2 ^ 63) (45 ∷ s) z
unfolding negated signed_decimal
negated_is (zero, r) s F e = not_some e
negated_is (suc n, r) s F e =
    let h : suc n ≤ suc max63 = F.fits in
    subst (From signed_decimal (λ d. mag d < 2 ^ 63) (45 ∷ s)) (same_some e) (record { is = ap (λ l. 45 ∷ l) F.is; fits = omega arith })

positive_is : (y : ℕ × List ℕ) {z : ℤ × List ℕ} (s : List ℕ) → From decimal (λ n. n ≤ max63) s y → ◌≡◌ {A = Option (ℤ × List ℕ)} (some (pos y.0, y.1)) (some z) → From signed_decimal (λ d. mag d < 2 ^ 63) s z
unfolding signed_decimal
positive_is y s F e =
    let h : y.0 ≤ max63 = F.fits in
    subst (From signed_decimal (λ d. mag d < 2 ^ 63) s) (same_some e) (record { is = F.is; fits = omega arith })

signed_is : (s : List ℕ) (z : ℤ × List ℕ) → signed s ≡ some z → From signed_decimal (λ d. mag d < 2 ^ 63) s z
unfolding signed
signed_is [] z e = not_some e
signed_is (b ∷ s) z e = by-test (eqb b 45) minus plus
  where
    minus : eqb b 45 ≡ true → From signed_decimal (λ d. mag d < 2 ^ 63) (b ∷ s) z
    minus t =
        let q : b ≡ 45 = eqb-true b 45 t in
        let a = went (number (suc max63) s) negated (rw t at e) in
        rw q (negated_is a.value s ((number_only (suc max63) (omega arith)).only s a.value a.was) a.gave)

    plus : eqb b 45 ≡ false → From signed_decimal (λ d. mag d < 2 ^ 63) (b ∷ s) z
    plus t =
        let a = went (number max63 (b ∷ s)) (λ n. some (pos n.0, n.1)) (rw t at e) in
        positive_is a.value (b ∷ s) ((number_only max63 (omega arith)).only (b ∷ s) a.value a.was) a.gave

signed_only : Canonical signed signed_decimal (λ d. mag d < 2 ^ 63)
signed_only = record { only = signed_is }

-- ---- lists
record SomeTimes (k : ℕ) (ts : List ℕ) : Type 0 where
  pub some_time : 0 < length ts
  pub each_fits : All (λ t. t < 2 ^ 64) ts
  pub few_times : length ts ≤ k

list_more : (t : ℕ) (ts : List ℕ) → 0 < length ts → show_time t ++ ((59 ∷ []) ++ show_list ts) ≡ show_list (t ∷ ts)
unfolding show_list show_more
list_more t [] h = absurd (omega arith)
list_more t (u ∷ us) h = refl

list_one : (t : ℕ) → show_time t ≡ show_list (t ∷ [])
unfolding show_list show_more
list_one t = sym (append-nil (show_time t))

times_is : (k : ℕ) (s : List ℕ) (y : List ℕ × List ℕ) → times k s ≡ some y → From show_list (SomeTimes k) s y
unfolding times
times_is zero s y e = not_some e
times_is (suc k) s y e = go a.value C.is C.fits (word (59 ∷ []) a.value.1) refl a.gave (times_is k)
  where
    a : Went (time s) (λ t. elim (word (ascii ";") t.1) [ none ↦ some (t.0 ∷ [], t.1) | some r ↦ then (times k r) (λ ts. some (t.0 ∷ ts.0, ts.1)) ]) y
    a = went (time s) (λ t. elim (word (ascii ";") t.1) [ none ↦ some (t.0 ∷ [], t.1) | some r ↦ then (times k r) (λ ts. some (t.0 ∷ ts.0, ts.1)) ]) e

    C : From show_time (λ t. t < 2 ^ 64) s a.value
    C = time_only.only s a.value a.was

    go : (t : ℕ × List ℕ) → s ≡ show_time t.0 ++ t.1 → t.0 < 2 ^ 64 → (o : Option (List ℕ)) → word (59 ∷ []) t.1 ≡ o →
        elim o as (λ x. Option (List ℕ × List ℕ)) [ none ↦ some (t.0 ∷ [], t.1) | some r ↦ then (times k r) (λ ts. some (t.0 ∷ ts.0, ts.1)) ] ≡ some y →
        ((s : List ℕ) (y : List ℕ × List ℕ) → times k s ≡ some y → From show_list (SomeTimes k) s y) → From show_list (SomeTimes (suc k)) s y
    go t i f none w g ih =
        subst (From show_list (SomeTimes (suc k)) s) (same_some g) (record {
          is = i ∙ ap (λ l. l ++ t.1) (list_one t.0);
          fits = record { some_time = omega arith; each_fits = cons f nil; few_times = omega arith };
        })
    go t i f (some r) w g ih =
        let b = went (times k r) (λ ts. some (t.0 ∷ ts.0, ts.1)) g in
        let G : From show_list (SomeTimes k) r b.value = ih r b.value b.was in
        let few : length b.value.0 ≤ k = G.fits.few_times in
        subst (From show_list (SomeTimes (suc k)) s) (same_some b.gave) (record {
          is =
              i
              ∙ ap (λ l. show_time t.0 ++ l) (word_is (59 ∷ []) t.1 w ∙ ap (λ l. 59 ∷ l) G.is)
              ∙ sym (append_assoc (show_time t.0) ((59 ∷ []) ++ show_list b.value.0) b.value.1)
              ∙ ap (λ l. l ++ b.value.1) (list_more t.0 b.value.0 G.fits.some_time);
          fits = record { some_time = omega arith; each_fits = cons f G.fits.each_fits; few_times = omega arith };
        })

list_some : (s : List ℕ) {r : List ℕ} → word (45 ∷ []) s ≡ some r → list s ≡ some ([], r)
unfolding list
list_some s e = rw (e, list)

empty_list : (s r : List ℕ) → word (45 ∷ []) s ≡ some r → From show_list TimesFit s ([], r)
unfolding show_list
empty_list s r w = record { is = word_is (45 ∷ []) s w; fits = record { each_fits = nil; few_times = omega arith } }

list_only : Canonical list show_list TimesFit
list_only = record { only = λ s y e. go s y e (word (45 ∷ []) s) refl }
  where
    go : (s : List ℕ) (y : List ℕ × List ℕ) → list s ≡ some y → (o : Option (List ℕ)) → word (45 ∷ []) s ≡ o → From show_list TimesFit s y
    go s y e none w =
        let F : From show_list (SomeTimes most_times) s y = times_is most_times s y (sym (list-times s w) ∙ e) in
        record { is = F.is; fits = record { each_fits = F.fits.each_fits; few_times = F.fits.few_times } }
    go s y e (some r) w = subst (From show_list TimesFit s) (same_some (sym (list_some s w) ∙ e)) (empty_list s r w)

-- ---- the mode
mode-count : (s : List ℕ) {r : List ℕ} → word (ascii "count") s ≡ some r → mode s ≡ some (1, r)
unfolding mode
mode-count s e = rw (e, mode)

mode_other : (s : List ℕ) → word (ascii "count") s ≡ none → mode s ≡ then (word (ascii "distinct") s) (λ r. some (2, r))
unfolding mode
mode_other s e = rw (e, mode)

mode_only : Canonical mode show_mode (λ m. (m ≡ 1) ⊎ (m ≡ 2))
unfolding show_mode
mode_only = record { only = λ s y e. go s y e (word (ascii "count") s) refl }
  where
    go : (s : List ℕ) (y : ℕ × List ℕ) → mode s ≡ some y → (o : Option (List ℕ)) → word (ascii "count") s ≡ o → From show_mode (λ m. (m ≡ 1) ⊎ (m ≡ 2)) s y
    go s y e none w =
        let a = went (word (ascii "distinct") s) (λ r. some (2, r)) (sym (mode_other s w) ∙ e) in
        subst (From show_mode (λ m. (m ≡ 1) ⊎ (m ≡ 2)) s) (same_some a.gave) (record { is = word_is (ascii "distinct") s a.was; fits = inr refl })
    go s y e (some r) w = subst (From show_mode (λ m. (m ≡ 1) ⊎ (m ≡ 2)) s) (same_some (sym (mode-count s w) ∙ e)) (record { is = word_is (ascii "count") s w; fits = inl refl })

-- ---- records
row-joined : (k v t d r : List ℕ) → (k ++ (44 ∷ [])) ++ ((v ++ (44 ∷ [])) ++ ((t ++ (44 ∷ [])) ++ (d ++ r))) ≡ (k ++ (44 ∷ []) ++ v ++ (44 ∷ []) ++ t ++ (44 ∷ []) ++ d) ++ r
row-joined k v t d r = simp append_assoc refl

row_from : {s s₁ s₂ s₃ : List ℕ} {k v t : ℕ} {d : ℤ} {r : List ℕ} →
    From (λ n. decimal n ++ (44 ∷ [])) (λ n. n ≤ max64) s (k, s₁) →
    From (λ n. decimal n ++ (44 ∷ [])) (λ n. n ≤ max64) s₁ (v, s₂) →
    From (λ n. show_time n ++ (44 ∷ [])) (λ n. n < 2 ^ 64) s₂ (t, s₃) →
    From signed_decimal (λ z. mag z < 2 ^ 63) s₃ (d, r) →
    From show_row RowFits s (the_row k v t d, r)
unfolding show_row
row_from {k = k} {v} {t} {d} {r} K L T D =
    let a : k ≤ max64 = K.fits in
    let b : v ≤ max64 = L.fits in
    record {
      is =
          K.is
          ∙ ap (λ l. (decimal k ++ (44 ∷ [])) ++ l) (L.is ∙ ap (λ l. (decimal v ++ (44 ∷ [])) ++ l) (T.is ∙ ap (λ l. (show_time t ++ (44 ∷ [])) ++ l) D.is))
          ∙ row-joined (decimal k) (decimal v) (show_time t) (signed_decimal d) r;
      fits = record { key_fits = omega arith; value_fits = omega arith; time_fits = T.fits; diff_fits = D.fits };
    }

row_only : Canonical row show_row RowFits
unfolding row
row_only = record {
  only = λ s y e.
      let k = went (ending (ascii ",") (number max64) s) (λ k. then (ending (ascii ",") (number max64) k.1) (λ v. then (ending (ascii ",") time v.1) (λ t. then (signed t.1) (λ d. some (the_row k.0 v.0 t.0 d.0, d.1))))) e in
      let v = went (ending (ascii ",") (number max64) k.value.1) (λ v. then (ending (ascii ",") time v.1) (λ t. then (signed t.1) (λ d. some (the_row k.value.0 v.0 t.0 d.0, d.1)))) k.gave in
      let t = went (ending (ascii ",") time v.value.1) (λ t. then (signed t.1) (λ d. some (the_row k.value.0 v.value.0 t.0 d.0, d.1))) v.gave in
      let d = went (signed t.value.1) (λ d. some (the_row k.value.0 v.value.0 t.value.0 d.0, d.1)) t.gave in
      subst (From show_row RowFits s) (same_some d.gave)
      (row_from
      ((ending_only (44 ∷ []) (number_only max64 (omega arith))).only s k.value k.was)
      ((ending_only (44 ∷ []) (number_only max64 (omega arith))).only k.value.1 v.value v.was)
      ((ending_only (44 ∷ []) time_only).only v.value.1 t.value t.was)
      (signed_only.only t.value.1 d.value d.was));
}

pair_only : Canonical pair show_pair PairFits
unfolding pair show_pair
pair_only = record {
  only = λ s y e.
      let k = went (ending (ascii ",") (number max64) s) (λ x. then (time x.1) (λ t. some ((x.0, t.0), t.1))) e in
      let t = went (time k.value.1) (λ t. some ((k.value.0, t.0), t.1)) k.gave in
      let K = (ending_only (44 ∷ []) (number_only max64 (omega arith))).only s k.value k.was in
      let T = time_only.only k.value.1 t.value t.was in
      let small : k.value.0 ≤ max64 = K.fits in
      subst (From show_pair PairFits s) (same_some t.gave) (record {
        is = K.is ∙ ap (λ l. (decimal k.value.0 ++ (44 ∷ [])) ++ l) T.is ∙ sym (append_assoc (decimal k.value.0 ++ (44 ∷ [])) (show_time t.value.0) t.value.1);
        fits = record { key_fits = omega arith; time_fits = T.fits };
      });
}

-- ---- lines
line_only : {A : Type 0} {p : Reader A} {show : A → List ℕ} {P : A → Type 0} (name : String) → Canonical p show P → Canonical (line (ascii name) p) (λ x. show_line name (show x)) P
unfolding line show_line
line_only {A} {p} {show} {P} name C = record {
  only = λ s y e.
      let a = went (word (ascii name) s) (ending (ascii "\n") p) e in
      let F : From (λ x. show x ++ (10 ∷ [])) P a.value y = (ending_only (10 ∷ []) C).only a.value y a.gave in
      record {
        is = word_is (ascii name) s a.was ∙ ap (λ l. ascii name ++ l) F.is ∙ (simp append_assoc refl);
        fits = F.fits;
      };
}

record Many {A : Type 0} (show : A → List ℕ) (P : A → Type 0) (k : ℕ) (s : List ℕ) (y : List A × List ℕ) : Type 0 where
  pub is : s ≡ flat show y.0 ++ y.1
  pub each_fits : All P y.0
  pub few : length y.0 ≤ k

many_none : {A : Type 0} (p : Reader A) (k : ℕ) (s : List ℕ) → p s ≡ none → ([], s) ≡ many p (suc k) s
unfolding many
many_none p k s e = rw (e, many)

many_some : {A : Type 0} (p : Reader A) (k : ℕ) (s : List ℕ) {x : A × List ℕ} → p s ≡ some x → (x.0 ∷ (many p k x.1).0, (many p k x.1).1) ≡ many p (suc k) s
unfolding many
many_some p k s e = rw (e, many)

many-zero : {A : Type 0} (p : Reader A) (s : List ℕ) → ([], s) ≡ many p 0 s
unfolding many
many-zero p s = refl

module _ {A : Type 0} {p : Reader A} {show : A → List ℕ} {P : A → Type 0} (C : Canonical p show P) where
  no_lines : (k : ℕ) (s : List ℕ) → Many show P k s ([], s)
  no_lines k s = record { is = refl; each_fits = nil; few = omega arith }

  many_only : (k : ℕ) (s : List ℕ) → Many show P k s (many p k s)
  many_only zero s = subst (Many show P 0 s) (many-zero p s) (no_lines 0 s)
  many_only (suc k) s = go (p s) refl (many_only k)
    where
      go : (o : Option (A × List ℕ)) → p s ≡ o → ((s : List ℕ) → Many show P k s (many p k s)) → Many show P (suc k) s (many p (suc k) s)
      go none e ih = subst (Many show P (suc k) s) (many_none p k s e) (no_lines (suc k) s)
      go (some x) e ih =
          let F : From show P s x = C.only s x e in
          let M : Many show P k x.1 (many p k x.1) = ih x.1 in
          let few : length (many p k x.1).0 ≤ k = M.few in
          subst (Many show P (suc k) s) (many_some p k s e) (record {
            is = F.is ∙ ap (λ l. show x.0 ++ l) M.is ∙ sym (append_assoc (show x.0) (flat show (many p k x.1).0) (many p k x.1).1);
            each_fits = cons F.fits M.each_fits;
            few = omega arith;
          })

-- ---- the whole
abbrev is_asked : Asked → Bool
is_asked (bad n) = false
is_asked (asked q) = true

abbrev the_asked : Request → Asked → Request
the_asked q (bad n) = q
the_asked q (asked r) = r

not-asked : {C : Type 0} {n : ℕ} {q : Request} → bad n ≡ asked q → C
not-asked e = absurd (false≢true (ap is_asked e))

same_asked : {q r : Request} → asked q ≡ asked r → q ≡ r
same_asked {q} e = ap (the_asked q) e

record WentAt {A : Type 0} (o : Option (A × List ℕ)) (f : A → List ℕ → Asked) (q : Request) : Type 0 where
  pub value : A × List ℕ
  pub was : o ≡ some value
  pub gave : f value.0 value.1 ≡ asked q

went_at : {A : Type 0} (n : ℕ) (o : Option (A × List ℕ)) (f : A → List ℕ → Asked) {q : Request} → at-line n o f ≡ asked q → WentAt o f q
went_at n none f e = not-asked e
went_at n (some x) f e = record { value = x; was = refl; gave = e }

record Ended (q r : Request) (o : Option (List ℕ)) : Type 0 where
  pub same : q ≡ r
  pub nothing_after : o ≡ some []

ended_is : (n : ℕ) (q : Request) (o : Option (List ℕ)) {r : Request} → ended n q o ≡ asked r → Ended q r o
unfolding ended
ended_is n q none e = not-asked e
ended_is n q (some []) e = record { same = same_asked e; nothing_after = refl }
ended_is n q (some (b ∷ s)) e = not-asked e

-- s is the text of the request q, which fits
pub record Printed (s : List ℕ) (q : Request) : Type 0 where
  pub is : s ≡ show_request q
  pub fits : Fits q

-- what stands after the first five lines
record BodyFrom (s : List ℕ) (q : Request) : Type 0 where
  pub is : s ≡ body_text q
  pub old_fits : LinesFit RowFits q.old
  pub new_fits : LinesFit RowFits q.new
  pub out_fits : LinesFit RowFits q.out
  pub pending_fits : LinesFit PairFits q.pending

lines_fit : {A : Type 0} {show : A → List ℕ} {P : A → Type 0} {s : List ℕ} {y : List A × List ℕ} → Many show P most_lines s y → LinesFit P y.0
lines_fit m = record { each_fits = m.each_fits; few_lines = m.few }

module _ (m w : ℕ) (l u h s : List ℕ) where
  body_from : word (ascii "end=\n") (sections s).rest ≡ some [] → BodyFrom s (request_from m w l u h (sections s))
  unfolding sections body_text show_line
  body_from e =
      let O = many_only (line_only "old=" row_only) most_lines s in
      let N = many_only (line_only "new=" row_only) most_lines (many (line (ascii "old=") row) most_lines s).1 in
      let X = many_only (line_only "out=" row_only) most_lines (many (line (ascii "new=") row) most_lines (many (line (ascii "old=") row) most_lines s).1).1 in
      let Y = many_only (line_only "pend=" pair_only) most_lines (many (line (ascii "out=") row) most_lines (many (line (ascii "new=") row) most_lines (many (line (ascii "old=") row) most_lines s).1).1).1 in
      record {
        is = O.is ∙ ap (λ r. shown_rows "old=" (sections s).old ++ r) (N.is ∙ ap (λ r. shown_rows "new=" (sections s).new ++ r) (X.is ∙ ap (λ r. shown_rows "out=" (sections s).out ++ r) (Y.is ∙ ap (λ r. shown_pairs (sections s).pending ++ r) (word_is (ascii "end=\n") (sections s).rest e))));
        old_fits = lines_fit O;
        new_fits = lines_fit N;
        out_fits = lines_fit X;
        pending_fits = lines_fit Y;
      }

  body_only : {q : Request} → body m w l u h s ≡ asked q → BodyFrom s q × (request_from m w l u h (sections s) ≡ q)
  unfolding body
  body_only e =
      let E = ended_is (line_after (sections s)) (request_from m w l u h (sections s)) (word (ascii "end=\n") (sections s).rest) e in
      (subst (BodyFrom s) E.same (body_from E.nothing_after), E.same)

moved : {A : Type 0} {show : A → List ℕ} {P : A → Type 0} {s : List ℕ} {x x' : A} {r : List ℕ} → From show P s (x, r) → x ≡ x' → From show P s (x', r)
moved {show = show} {P} {s} {r = r} F e = subst (λ z. From show P s (z, r)) e F

printed : (s : List ℕ) (q : Request) → length s ≤ most_bytes → {a b : ℕ × List ℕ} {c d f : List ℕ × List ℕ} (x : Sections) →
    From (λ m. show_line "mode=" (show_mode m)) (λ m. (m ≡ 1) ⊎ (m ≡ 2)) s a →
    From (λ w. show_line "width=" (decimal w)) (λ n. n ≤ max64) a.1 b →
    From (λ l. show_line "lower=" (show_list l)) TimesFit b.1 c →
    From (λ l. show_line "upper=" (show_list l)) TimesFit c.1 d →
    From (λ l. show_line "held=" (show_list l)) TimesFit d.1 f →
    BodyFrom f.1 q → request_from a.0 b.0 c.0 d.0 f.0 x ≡ q → Printed s q
printed s q short {a} {b} {c} {d} {f} x M W L U H B e =
    let M' : From (λ m. show_line "mode=" (show_mode m)) (λ m. (m ≡ 1) ⊎ (m ≡ 2)) s (q.mode, a.1) = moved M (ap (λ q. q.mode) e) in
    let W' : From (λ w. show_line "width=" (decimal w)) (λ n. n ≤ max64) a.1 (q.width, b.1) = moved W (ap (λ q. q.width) e) in
    let L' : From (λ l. show_line "lower=" (show_list l)) TimesFit b.1 (q.lower, c.1) = moved L (ap (λ q. q.lower) e) in
    let U' : From (λ l. show_line "upper=" (show_list l)) TimesFit c.1 (q.upper, d.1) = moved U (ap (λ q. q.upper) e) in
    let H' : From (λ l. show_line "held=" (show_list l)) TimesFit d.1 (q.held, f.1) = moved H (ap (λ q. q.held) e) in
    let i : s ≡ show_request q =
    M'.is
    ∙ ap (λ r. show_line "mode=" (show_mode q.mode) ++ r) (W'.is
    ∙ ap (λ r. show_line "width=" (decimal q.width) ++ r) (L'.is
    ∙ ap (λ r. show_line "lower=" (show_list q.lower) ++ r) (U'.is
    ∙ ap (λ r. show_line "upper=" (show_list q.upper) ++ r) (H'.is
    ∙ ap (λ r. show_line "held=" (show_list q.held) ++ r) B.is))))
    ∙ sym (request_text q) in
    let w : q.width ≤ max64 = W'.fits in
    record {
      is = i;
      fits = record {
        mode_fits = M'.fits;
        width_fits = omega arith;
        lower_fits = L'.fits;
        upper_fits = U'.fits;
        held_fits = H'.fits;
        old_fits = B.old_fits;
        new_fits = B.new_fits;
        out_fits = B.out_fits;
        pending_fits = B.pending_fits;
        bytes_fit = rw i at short;
      };
    }

request_is : (s : List ℕ) {q : Request} → length s ≤ most_bytes → request s ≡ asked q → Printed s q
unfolding request
request_is s {q} short e =
    let a = went_at 1 (line (ascii "mode=") mode s) (λ m s₁. at-line 2 (line (ascii "width=") (number max64) s₁) (λ w s₂. at-line 3 (line (ascii "lower=") list s₂) (λ l s₃. at-line 4 (line (ascii "upper=") list s₃) (λ u s₄. at-line 5 (line (ascii "held=") list s₄) (λ h s₅. body m w l u h s₅))))) e in
    let b = went_at 2 (line (ascii "width=") (number max64) a.value.1) (λ w s₂. at-line 3 (line (ascii "lower=") list s₂) (λ l s₃. at-line 4 (line (ascii "upper=") list s₃) (λ u s₄. at-line 5 (line (ascii "held=") list s₄) (λ h s₅. body a.value.0 w l u h s₅)))) a.gave in
    let c = went_at 3 (line (ascii "lower=") list b.value.1) (λ l s₃. at-line 4 (line (ascii "upper=") list s₃) (λ u s₄. at-line 5 (line (ascii "held=") list s₄) (λ h s₅. body a.value.0 b.value.0 l u h s₅))) b.gave in
    let d = went_at 4 (line (ascii "upper=") list c.value.1) (λ u s₄. at-line 5 (line (ascii "held=") list s₄) (λ h s₅. body a.value.0 b.value.0 c.value.0 u h s₅)) c.gave in
    let f = went_at 5 (line (ascii "held=") list d.value.1) (λ h s₅. body a.value.0 b.value.0 c.value.0 d.value.0 h s₅) d.gave in
    let g = body_only a.value.0 b.value.0 c.value.0 d.value.0 f.value.0 f.value.1 f.gave in
    printed s q short (sections f.value.1)
    ((line_only "mode=" mode_only).only s a.value a.was)
    ((line_only "width=" (number_only max64 (omega arith))).only a.value.1 b.value b.was)
    ((line_only "lower=" list_only).only b.value.1 c.value c.was)
    ((line_only "upper=" list_only).only c.value.1 d.value d.was)
    ((line_only "held=" list_only).only d.value.1 f.value f.was)
    g.0 g.1

pub request_only : (s : List ℕ) {q : Request} → parse s ≡ asked q → Printed s q
unfolding parse
request_only s e =
    by-test (ltb most_bytes (length s))
    (λ t. not-asked (rw t at e))
    (λ t. request_is s (ltb-false most_bytes (length s) t) (rw t at e))

pub request_canonical : (s : List ℕ) (q : Request) → (parse s ≡ asked q) ↔ Printed s q
request_canonical s q = (request_only s, λ p. ap parse p.is ∙ request_back q p.fits)
