-- Runs of calls, as a caller makes them: what was lent, and what came back. "Patience: a pending time stays listed until its call comes, is then a
-- moment of its key, settled in its round."
--
-- Exchange: one call. asked, answer: its request, and its answer as it is read in memory
-- Follows ps lower es: calls in a row, each lent the last accepted call's next pending list and its upper as lower; the first is lent ps and lower
-- StaysListed k t es: (k, t) is in the next list of every accepted call whose upper it is beyond, and settled in the first whose upper it is short of
use Rattle.std.specs.Prelude.{ℕ, true, false, List, [], ◌∷◌, ◌≡◌}
use Rattle.grid.specs.Frontiers.{beyond}
use Rattle.rules.specs.Call.{Request, Answer}
use Rattle.rules.specs.Memory.{Memory, Sizes, Lent, request_of}
use Rattle.rules.specs.Runs.{accepted, lists, Settled}
use Rattle.demands.specs.Answers.{Retires, answer_in}
use Rattle.answers.specs.declared.Outcome.{Outcome}

module _ (z : Lent → Sizes) where
  pub record Exchange : Type 0 where
    pub lent : Lent
    pub outcome : Outcome
    pub memory : Memory
    pub retires : Retires z lent outcome memory

  abbrev pub asked : Exchange → Request
  asked e = request_of e.lent

  abbrev pub answer : Exchange → Answer
  answer e = answer_in e.outcome e.memory

  pub data Follows : List (ℕ × ℕ) → List ℕ → List Exchange → Type 0 where
    ends : {ps : List (ℕ × ℕ)} {lower : List ℕ} → Follows ps lower []
    goes_on : (e : Exchange) {es : List Exchange} → accepted (answer e) ≡ true → Follows (answer e).pending (asked e).upper es → Follows (asked e).pending (asked e).lower (e ∷ es)
    passes_over : (e : Exchange) {ps : List (ℕ × ℕ)} {lower : List ℕ} {es : List Exchange} → accepted (answer e) ≡ false → Follows ps lower es → Follows ps lower (e ∷ es)

  pub data StaysListed (k t : ℕ) : List Exchange → Type 0 where
    no_more : StaysListed k t []
    unheard : {e : Exchange} {es : List Exchange} → accepted (answer e) ≡ false → StaysListed k t es → StaysListed k t (e ∷ es)
    listed : {e : Exchange} {es : List Exchange} → accepted (answer e) ≡ true → beyond (asked e).upper t ≡ true → lists (answer e).pending k t ≡ true → StaysListed k t es → StaysListed k t (e ∷ es)
    settled : {e : Exchange} {es : List Exchange} → accepted (answer e) ≡ true → beyond (asked e).upper t ≡ false → Settled (asked e) k t → StaysListed k t (e ∷ es)
