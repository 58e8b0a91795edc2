-- The calls that do no work: refused, quiet, or nothing changed.
--
-- refusal_late, no_refusal: what the test for a refusal says
-- says_quiet, says_nothing, early_writes: what is said of such a call. idle_done, refusal, idle_refused: and what memory holds
use Prim.Native.Nat.{ℕ, ◌≤◌, ◌<◌}
use native.Mathlib.Omega.{arith}
use mathlib.Core.Bool.{true, false, ◌&&◌}
use mathlib.Core.List.{List}
use mathlib.Core.Path.{◌≡◌, refl, sym, ◌∙◌, ap}
use lib.Dec.{leb, ltb, eqb}
use lib.IntN.{ℤ}
use borrow.Author.Tests.{eqb-true, ne_eqb, lt-leb, le-leb, ltb-true, ltb-false}
use Rattle.grid.proofs.Tests.{by-test, clash, and_l}
use Rattle.rules.specs.Call.{Request, refused, quiet_answer}
use Rattle.rules.specs.Memory.{Memory, after}
use Rattle.rules.proofs.Memory.{memory_untouched, work_cleared, work_diffs_cleared}
use Rattle.placing.specs.Parts.{emptied, emptied_diffs}
use Rattle.answers.specs.Tells.{Tells, TellsQuiet}
use Rattle.requests.specs.Statuses.{number_of}
use Rattle.requests.specs.declared.status.Status.{Status}
use Rattle.answers.specs.declared.Outcome.{Outcome}
use Rattle.idle.specs.Idled.{idle_answer, SaidIdle, Idled}

module _ {s : ℕ} {held ks ts : List ℕ} {r : Outcome} {res res' : List ℕ} {rd rd' : List ℤ} where
  pub says_quiet : s ≡ 1 → TellsQuiet held ks ts r res res' rd rd' → SaidIdle s held ks ts r res res' rd rd'
  unfolding idle_answer
  says_quiet e T = record { says = λ q h p. rw e (T.tells q h p) }

  pub says_nothing : (s ≡ 1 → ⊥) → Tells (refused s) r res res' rd rd' → SaidIdle s held ks ts r res res' rd rd'
  unfolding idle_answer
  says_nothing n T = record { says = λ q h p. rw (ne_eqb s 1 n) T }

-- below 11, memory is written
pub early_writes : (s : ℕ) → s ≤ 10 → (leb 11 s && leb s 17) ≡ false
early_writes s h = rw (lt-leb 11 s (omega arith))

idle_status : (s : ℕ) (q : Request) → (idle_answer s q).status ≡ s
unfolding idle_answer quiet_answer refused
idle_status s q = by-test (eqb s 1) (λ e. rw e (sym (eqb-true s 1 e))) (λ e. rw e)

module _ {s : ℕ} {held ks ts : List ℕ} {r : Outcome} {m : Memory} where
  pub idle_done : {m' : Memory} → s ≤ 10 → SaidIdle s held ks ts r m.numbers m'.numbers m.diffs m'.diffs → m'.work ≡ emptied m.work → m'.work_diffs ≡ emptied_diffs m.work_diffs → Idled s held ks ts m r m'
  idle_done h S w v = record {
    answers = λ q e p. let f : (leb 11 (idle_answer s q).status && leb (idle_answer s q).status 17) ≡ false = rw (idle_status s q) (early_writes s h) in
        record { tells = S.says q e p; work_is = w ∙ sym (work_cleared (idle_answer s q) m f); work_diffs_is = v ∙ sym (work_diffs_cleared (idle_answer s q) m f) };
  }

abbrev pub refusal : Status → Outcome
refusal s = record { status = s; crossings = 0; tiles = 0; fixes = 0; pending = 0; frontier = 0 }

pub idle_refused : {s : Status} {held ks ts : List ℕ} {m : Memory} → 10 < number_of s → number_of s ≤ 17 → Idled (number_of s) held ks ts m (refusal s) m
unfolding idle_answer refused after
idle_refused {s} {m = m} h k =
    let n : ℕ = number_of s in
    let e : after (refused n) m ≡ m = memory_untouched (refused n) m (omega arith) k in
    record {
      answers = λ q _ _. rw (ne_eqb n 1 (λ z. omega arith))
          (record {
            tells = record {
              status_is = refl;
              crossings_are = refl;
              tiles-many = refl;
              fixes-many = refl;
              pending_many = refl;
              frontier_many = refl;
              told = record { numbers_are = sym (ap (λ (n : Memory). n.numbers) e); diffs_are = sym (ap (λ (n : Memory). n.diffs) e) };
            };
            work_is = sym (ap (λ (n : Memory). n.work) e);
            work_diffs_is = sym (ap (λ (n : Memory). n.work_diffs) e);
          });
    }

-- what the test for a refusal says
module _ (n : ℕ) where
  pub refusal_late : (ltb 10 n && leb n 17) ≡ true → 10 < n
  refusal_late e = ltb-true 10 n (and_l (ltb 10 n) (leb n 17) e)

  pub no_refusal : (ltb 10 n && leb n 17) ≡ false → n ≤ 17 → n ≤ 10
  no_refusal e h = by-test (ltb 10 n) (λ t. clash true refl (rw (t, le-leb n 17 h) at e)) (λ t. ltb-false 10 n t)
