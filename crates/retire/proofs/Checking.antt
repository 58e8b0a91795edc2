-- The status before work, and what follows of it.
--
-- checked: it is the rules'. begins: where it is 0, the call works
-- idle_asks, idle_retires: what a call asks that does no work, and that its answer is the rules'
use Prim.Native.Nat.{ℕ, ◌≤◌}
use native.Mathlib.Omega.{arith}
use mathlib.Core.Bool.{Bool, true, not}
use mathlib.Core.List.{List, [], ◌∷◌}
use mathlib.Core.Path.{◌≡◌, refl, sym, ◌∙◌}
use lib.Dec.{leb}
use lib.IntN.{ℤ}
use lib.ListN.{length}
use borrow.Author.Tests.{ne_eqb, leb-true}
use Rattle.grid.specs.Lists.{every}
use Rattle.grid.specs.Records.{Columns, most_records, pairs}
use Rattle.grid.proofs.Tests.{by-test, and_l, and_r}
use Rattle.rules.specs.Call.{Request, check11, check12, check13, check14, check15, check16, check17, quiet, unchanged, first_failed, verdict, call}
use Rattle.rules.specs.Memory.{Memory, Lent, numbers_size, lent_well, request_of, call_lent}
use Rattle.rules.proofs.Statuses.{verdict-rows, verdict_none}
use Rattle.checks.specs.Checks.{sizes_of, lengths_of, status_before_work}
use Rattle.checks.proofs.Rows.{level_pending, status_lent}
use Rattle.answers.specs.declared.Outcome.{Outcome}
use Rattle.demands.specs.Answers.{Retires}
use Rattle.demands.specs.Lending.{column_needed, moments_needed, needed, memory, lent}
use Rattle.idle.specs.Idled.{idle_answer, Idles, Idled}
use Rattle.working.specs.Begun.{Begins}
use Rattle.working.proofs.Lending.{lent_level, lent_room, room_results, Small, small_of, pairs-length, retired_retires}
use Rattle.retire.specs.Checked.{Checked}

-- ---- the status before work
pub checked :
    {mode width : ℕ} {lower upper held : List ℕ} {old new out : Columns} {ks ts res : List ℕ} {rd : List ℤ} {moments tk tv tt uv ut : List ℕ} {td ud : List ℤ} {s n m : ℕ}
    → n ≡ column_needed (length old.keys) (length new.keys) → m ≡ moments_needed width (length old.keys) new.keys ks
    → s ≡ status_before_work mode width lower upper held old new out ks ts (numbers_size ∷ most_records ∷ m ∷ n ∷ n ∷ n ∷ n ∷ n ∷ n ∷ n ∷ []) (length res ∷ length rd ∷ length moments ∷ length tk ∷ length tv ∷ length tt ∷ length uv ∷ length ut ∷ length td ∷ length ud ∷ [])
    → Checked (lent mode width lower upper held old new out ks ts (memory res rd moments tk tv tt uv ut td ud)) s
unfolding lengths_of sizes_of needed
checked {mode} {width} {lower} {upper} {held} {old} {new} {out} {ks} {ts} {res} {rd} {moments} {tk} {tv} {tt} {uv} {ut} {td} {ud} {n = n} {m = m} a b e =
    let l : Lent = lent mode width lower upper held old new out ks ts (memory res rd moments tk tv tt uv ut td ud) in
    record {
      status_is = e ∙ (λ i. status_before_work mode width lower upper held old new out ks ts (numbers_size ∷ most_records ∷ b i ∷ a i ∷ a i ∷ a i ∷ a i ∷ a i ∷ a i ∷ a i ∷ []) (length res ∷ length rd ∷ length moments ∷ length tk ∷ length tv ∷ length tt ∷ length uv ∷ length ut ∷ length td ∷ length ud ∷ [])) ∙ status_lent (needed l) l refl;
    }

-- ---- a call that begins to work
pub begins : {l : Lent} {s : ℕ} → Checked l s → s ≡ 0 → Begins l
begins {l} {s} C z =
    by-test (lent_well (needed l) l)
    (λ e. let v : s ≡ verdict (request_of l) = rw e at C.status_is in record { well = e; works = (verdict_none (request_of l)).0 (sym v ∙ z) })
    (λ e. let v : s ≡ 11 = rw e at C.status_is in absurd (omega arith))

-- ---- a call that does no work
first_most : (n : ℕ) (ps : List (ℕ × Bool)) → every (λ p. leb p.0 n) ps ≡ true → first_failed ps ≤ n
first_most n [] h = omega arith
first_most n (p ∷ ps) h =
    by-test p.1
    (λ e. rw e (first_most n ps (and_r (leb p.0 n) (every (λ p. leb p.0 n) ps) h)))
    (λ e. rw e (leb-true p.0 n (and_l (leb p.0 n) (every (λ p. leb p.0 n) ps) h)))

verdict_most : (q : Request) → verdict q ≤ 17
unfolding verdict
verdict_most q =
    first_most 17
    ((11, check11 q) ∷ (12, check12 q) ∷ (13, check13 q) ∷ (14, check14 q) ∷ (15, check15 q) ∷ (16, check16 q) ∷ (17, check17 q)
    ∷ (1, not (quiet q)) ∷ (2, not (unchanged q)) ∷ [])
    refl

verdict_small : (q : Request) → verdict q ≤ 10 → Small q
verdict_small q h =
    let R = verdict-rows q in
    let e : check11 q ≡ true = by-test (check11 q) (λ e. e) (λ e. absurd (omega (arith, R.row_11.1 e))) in
    small_of q e (by-test (check12 q) (λ f. f) (λ f. absurd (omega (arith, R.row_12.1 (rw e, f)))))

module _ {l : Lent} {s : ℕ} (C : Checked l s) where
  pub idle_asks : Idles s l.held l.pending_keys l.pending_times l.memory.numbers l.memory.diffs
  unfolding request_of
  idle_asks =
      by-test (lent_well (needed l) l)
      (λ e. let v : s ≡ verdict (request_of l) = rw e at C.status_is in
      let p = level_pending l.old l.new l.out l.pending_keys l.pending_times (lent_level l e) in
      record {
        early = rw v (verdict_most (request_of l));
        fits = λ k. let S = verdict_small (request_of l) (rw (← v) k) in
            let few : length (pairs l.pending_keys l.pending_times) ≤ most_records = S.few_pending in
            let room = room_results (needed l) l.memory (lent_room l e) in
            record {
              few_held = S.few_held;
              few_pending = rw (pairs-length l.pending_keys l.pending_times p) at few;
              long_pending = p;
              wide_numbers = room.0;
              wide_diffs = room.1;
            };
      })
      (λ e. let v : s ≡ 11 = rw e at C.status_is in record { early = omega arith; fits = λ k. absurd (omega arith) })

  idle_answer_lem : (s ≡ 0 → ⊥) → call_lent (needed l) l ≡ idle_answer s (request_of l)
  unfolding call_lent call idle_answer
  idle_answer_lem n =
      by-test (lent_well (needed l) l)
      (λ e. let v : s ≡ verdict (request_of l) = rw e at C.status_is in rw (e, ← v, ne_eqb s 0 n))
      (λ e. let v : s ≡ 11 = rw e at C.status_is in rw (e, v))

  pub idle_retires : {r : Outcome} {m' : Memory} → (s ≡ 0 → ⊥) → Idled s l.held l.pending_keys l.pending_times l.memory r m' → Retires needed l r m'
  unfolding request_of
  idle_retires n I = retired_retires (idle_answer_lem n) (I.answers (request_of l) refl refl)
