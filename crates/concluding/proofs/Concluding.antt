-- The answer that a call comes to once its windows are done is the rules'.
--
-- looped_fits: where there was room in less memory, there is in full memory. looped_call: 18, 19 or 0, as the call. tries_some: an answer is the try's
use Prim.Native.Nat.{ℕ, ◌+◌, ◌≤◌}
use native.Mathlib.Omega.{arith}
use mathlib.Core.Bool.{Bool, true, false, ◌||◌, not}
use mathlib.Core.List.{List, map, append-nil}
use mathlib.Core.Path.{◌≡◌, sym, ◌∙◌, ap, subst}
use lib.IntN.{ℤ}
use Rattle.std.specs.Prelude.{Some}
use Rattle.answers.specs.declared.Outcome.{Outcome}
use Rattle.turns.specs.Runs.{Runs}
use Rattle.concluding.specs.Answered.{Answered, Tries}
use lib.Dec.{ltb}
use lib.ListN.{length}
use lib.Seq.{drop-length}
use borrow.Author.Tests.{ltb-false, le-ltb}
use Rattle.grid.specs.Lists.{any}
use Rattle.grid.specs.Frontiers.{most_times, minimal}
use Rattle.grid.specs.Records.{Row, most_records, in_range}
use Rattle.grid.proofs.Tests.{by-test, or_false_l, or_false_r}
use Rattle.rules.specs.Call.{Request, Done, changed, work_all, pended_all, too_many, call}
use Rattle.rules.proofs.Statuses.{Works}
use Rattle.slots.specs.Slots.{rows_too_large}
use Rattle.settled.specs.Call.{windows_of, rows_of, crossings_of}
use Rattle.settled.proofs.Through.{Through}
use Rattle.settled.proofs.Answer.{answer-many, answer_large, answer-worked}
use Rattle.results.specs.Told.{placed, published}
use Rattle.answers.specs.Tells.{concluded}
use Rattle.answers.specs.declared.Course.{Course}
use Rattle.looping.specs.Looped.{passed, Looped}

-- ---- less memory
module _ {most : ℕ} (few : most ≤ most_records) where
  fewer : (b : Bool) (n : ℕ) → (b || ltb most n) ≡ false → (b || ltb most_records n) ≡ false
  fewer b n e = let h : n ≤ most = ltb-false most n (or_false_r b _ e) in rw (or_false_l b _ e) (le-ltb most_records n (omega arith))

  pub looped_fits : {q : Request} {c : Course} {rs : List Row} {ps : List (ℕ × ℕ)} → c.over ≡ false → c.large ≡ false → Looped most q c rs ps → Looped most_records q c rs ps
  unfolding passed rows_too_large
  looped_fits {q} {c} o l L = record {
    over_is = o ∙ sym (fewer (any (λ (d : Done). d.found.over) (work_all q)) (length (pended_all (work_all q))) (sym L.over_is ∙ o));
    next_is = L.next_is;
    large_is = λ _. l ∙ sym (fewer (any (λ (r : Row). not (in_range r.diff)) (rows_of q (windows_of q (changed q)))) (0 + length (rows_of q (windows_of q (changed q)))) (sym (L.large_is o) ∙ l));
    rows_are = L.rows_are;
    crossings_are = L.crossings_are;
  }

-- ---- the answer
module _ {q : Request} {c : Course} {rs : List Row} {ps : List (ℕ × ℕ)} (W : Works q) (L : Looped most_records q c rs ps) where
  abbrev all : List Row
  all = rows_of q (windows_of q (changed q))

  abbrev wide : Bool
  wide = ltb most_times (length (minimal (map (λ p. p.1) (pended_all (work_all q)))))

  many_is : too_many (work_all q) ≡ (c.over || wide)
  unfolding too_many passed
  many_is = ap (λ b. b || wide) (sym L.over_is)

  past_all : (e : c.over ≡ false) → c.large ≡ false → Through most_records q (length (changed q)) rs c.crossings
  unfolding rows_of windows_of crossings_of
  past_all e l = record {
    within = omega arith;
    rows_are = rw (drop-length (changed q)) (append-nil rs ∙ L.rows_are e l);
    rows_fit = ap (rows_too_large most_records 0) (L.rows_are e l) ∙ sym (L.large_is e) ∙ l;
    count_is = rw (drop-length (changed q)) (let z : c.crossings + 0 ≡ c.crossings = omega arith in z ∙ L.crossings_are e l);
  }

  pub looped_call : concluded c q.lower q.upper q.held rs ps ≡ call q
  unfolding concluded published placed
  looped_call =
      by-test c.over
      (λ e. rw (e, answer-many W (many_is ∙ ap (λ b. b || wide) e)))
      (λ e. let n = L.next_is e in
      by-test wide
      (λ w. let m : too_many (work_all q) ≡ true = many_is ∙ rw (e, w) in rw (e, n, w, answer-many W m))
      (λ w. let m : too_many (work_all q) ≡ false = many_is ∙ rw (e, w) in
      by-test c.large
      (λ l. rw (e, n, w, l, answer_large W m (sym (L.large_is e) ∙ l)))
      (λ l. rw (e, n, w, l) (sym (answer-worked W m (past_all e l) (omega arith))))))

-- an answer is the try's
pub tries_some : {R : Runs} {mode width : ℕ} {lower held : List ℕ} {o : Outcome} {res res' : List ℕ} {rd rd' : List ℤ}
    → Answered R mode width lower held o res res' rd rd' → Tries R mode width lower held (Some o) res res' rd rd'
tries_some {R} {mode} {width} {lower} {held} {o} {res} {res'} {rd} {rd'} a =
    record { answered = λ o' e. let s : o ≡ o' = cc in subst (λ x. Answered R mode width lower held x res res' rd rd') s a }
