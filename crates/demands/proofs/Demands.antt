-- The three demands, of the answer that a caller reads in memory after a call.
--
-- own_call: an accepted answer is the rules' call of the request
-- retire_status, retire_untouched, retire_cleared: demand 1. retire_call: demand 2
-- retire_right, retire_settled, retire_only, retire_crossings, retire-width, retire_patience: demand 3
use Prim.Native.Nat.{ℕ, ◌≤◌, ◌<◌}
use mathlib.Core.Bool.{true, false}
use mathlib.Core.List.{List, [], ◌∷◌, ◌++◌, map}
use mathlib.Core.Path.{◌≡◌, refl, sym, ◌∙◌, ap}
use lib.Dec.{eqb}
use lib.ListN.{length}
use Rattle.grid.specs.Lists.{any}
use Rattle.grid.specs.Frontiers.{beyond}
use Rattle.grid.specs.Consolidate.{consolidate}
use Rattle.grid.specs.Records.{Row, rank_before}
use Rattle.grid.proofs.Tests.{by-test, clash}
use Rattle.rules.specs.Call.{Request, Fix, Answer, Done, edits_of, work_all, refused, call}
use Rattle.rules.specs.Memory.{Memory, Sizes, Lent, lent_well, request_of, call_lent}
use Rattle.rules.specs.Retire.{windows}
use Rattle.rules.specs.Right.{Right, RightAt, with_fixes, touched}
use Rattle.rules.specs.Runs.{accepted, lists}
use Rattle.rules.proofs.Demand.{Before, call_settled, call_right, call_only}
use Rattle.rules.proofs.Only.{AllCorrect, ranked}
use Rattle.rules.proofs.Memory.{Cleared, memory_untouched, lent_cleared, lent_well_lem, lent_ill}
use Rattle.rules.proofs.Patience.{patient_call}
use Rattle.rules.proofs.Statuses.{call_one_of}
use Rattle.rules.proofs.Width.{at_width, Agree, width_agrees, longest, sum_of, call-crossings}
use Rattle.demands.specs.Answers.{Retires, answer_from, answer_in}
use Rattle.demands.specs.Exchanges.{Exchange, asked, answer, Follows, StaysListed, ends, goes_on, passes_over, no_more, unheard, listed, settled}
use Rattle.requests.specs.Statuses.{number_of}
use Rattle.answers.specs.declared.Outcome.{Outcome}
use Rattle.demands.proofs.Read.{answer_read}

module _ (z : Lent → Sizes) (l : Lent) (r : Outcome) (m : Memory) (R : Retires z l r m) where
  abbrev q : Request
  q = request_of l

  -- ---- demand 1
  pub retire_status : any (eqb (number_of r.status)) (0 ∷ 11 ∷ 12 ∷ 13 ∷ 14 ∷ 15 ∷ 16 ∷ 17 ∷ 1 ∷ 2 ∷ 18 ∷ 19 ∷ []) ≡ true
  unfolding refused
  retire_status =
      rw R.status_is
      (by-test (lent_well (z l) l) (λ e. rw (lent_well_lem (z l) l e) (call_one_of q)) (λ e. rw (lent_ill (z l) l e) refl))

  pub retire_untouched : 11 ≤ number_of r.status → number_of r.status ≤ 17 → m ≡ l.memory
  retire_untouched h k = R.memory_is ∙ memory_untouched (call_lent (z l) l) l.memory (rw R.status_is at h) (rw R.status_is at k)

  pub retire_cleared : 17 < number_of r.status → Cleared l.memory m
  retire_cleared h = rw R.memory_is (lent_cleared (z l) l (rw R.status_is at h))

  -- ---- demand 2
  pub retire_call : lent_well (z l) l ≡ true → answer_in r m ≡ call q
  retire_call e = answer_read z l r m R ∙ lent_well_lem (z l) l e

  -- ---- demand 3
  module _ (a : accepted (answer_in r m) ≡ true) where
    pub own_call : answer_in r m ≡ call q
    unfolding accepted refused
    own_call =
        by-test (lent_well (z l) l) retire_call
        (λ e. clash false (sym (ap (λ (b : Answer). accepted b) (answer_read z l r m R ∙ lent_ill (z l) l e)) ∙ a) refl)

    taken : accepted (call q) ≡ true
    taken = sym (ap accepted own_call) ∙ a

    pub retire_right : Before q → (t : ℕ) → beyond q.upper t ≡ false → RightAt q.mode (q.old ++ q.new) (with_fixes q.out (answer_in r m)) t
    retire_right B t short = rw own_call (call_right q taken B t short)

    pub retire_settled : (k t : ℕ) → beyond q.upper t ≡ false → touched q k t ≡ true → Right q.mode (edits_of k (q.old ++ q.new)) (edits_of k (with_fixes q.out (answer_in r m))) t
    retire_settled k t short e = rw own_call (call_settled q taken k t short e)

    pub retire_only : (x : List Row) → AllCorrect q (q.old ++ q.new) x → consolidate rank_before (ranked x) ≡ consolidate rank_before (ranked (map (λ (f : Fix). f.row) (answer_in r m).fixes))
    retire_only x C = rw own_call (call_only q taken x C)

    pub retire_crossings : r.crossings ≤ sum_of longest (windows (length (work_all q)) q.width (map (λ (d : Done). d.found.moments) (work_all q)))
    unfolding answer_from
    retire_crossings = rw (ap (λ (b : Answer). b.crossings) own_call) (call-crossings q)

-- the width changes nothing but crossings
pub retire-width :
    {z : Lent → Sizes} {l l' : Lent} {r r' : Outcome} {m m' : Memory}
    → Retires z l r m → Retires z l' r' m' → lent_well (z l) l ≡ true → lent_well (z l') l' ≡ true
    → (w : ℕ) → request_of l' ≡ at_width w (request_of l) → 1 ≤ l.width → l.width ≤ 64 → 1 ≤ w → w ≤ 64 → Agree (answer_in r' m') (answer_in r m)
unfolding request_of
retire-width R R' e e' w same a b c d =
    rw (retire_call _ _ _ _ R e, retire_call _ _ _ _ R' e', same) (width_agrees _ w a b c d)

-- a pending time waits, and is settled when its call comes
pub retire_patience : {z : Lent → Sizes} {ps : List (ℕ × ℕ)} {lower : List ℕ} {es : List (Exchange z)} → Follows z ps lower es → (k t : ℕ) → lists ps k t ≡ true → StaysListed z k t es
retire_patience ends k t h = no_more
retire_patience (passes_over e turned f) k t h = unheard turned (retire_patience f k t h)
retire_patience {z} (goes_on e took f) k t h =
    let own = own_call z e.lent e.outcome e.memory e.retires took in
    let P = patient_call (asked z e) k t h (sym (ap accepted own) ∙ took) in
    by-test (beyond (asked z e).upper t)
    (λ far. let here : lists (answer z e).pending k t ≡ true = rw own (P.waits far) in listed took far here (retire_patience f k t here))
    (λ short. settled took short (P.comes_up short))
