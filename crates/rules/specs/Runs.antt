-- Runs of calls. "Patience: a pending time stays listed until its call comes, is then a moment of its key, settled in its round."
--
-- accepted: the statuses 0, 1 and 2. lists ps k t: the entry (k, t) is in a pending list
-- Run ps lower qs: calls in a row, each taking the last accepted call's next pending list and its upper as lower; the first takes ps and lower
-- Settled q k t: in the call q the time t is a moment of the key k, settled in the round of its place among the key's moments; and the key's
-- output is right there with the corrections of the rounds up to that one, whatever other keys hold
-- Waits k t qs: (k, t) is in the next list of every accepted call whose upper it is beyond, and settled in the first whose upper it is short of
use Rattle.std.specs.Prelude.{ℕ, suc, ◌<◌, Bool, true, false, ◌&&◌, List, [], ◌∷◌, ◌++◌, map, ◌≡◌, leb, eqb, length, take, get_or}
use Rattle.grid.specs.Lists.{any}
use Rattle.grid.specs.Frontiers.{beyond}
use Rattle.rules.specs.Retire.{Round, corrections}
use Rattle.rules.specs.Call.{Request, Answer, Done, together, edits_of, work, call}
use Rattle.rules.specs.Right.{Right}

unfoldable pub accepted : Answer → Bool
accepted a = leb a.status 2

unfoldable pub lists : List (ℕ × ℕ) → ℕ → ℕ → Bool
lists ps k t = any (λ p. eqb k p.0 && eqb t p.1) ps

pub data Run : List (ℕ × ℕ) → List ℕ → List Request → Type 0 where
  ends : {ps : List (ℕ × ℕ)} {lower : List ℕ} → Run ps lower []
  goes_on : (q : Request) {qs : List Request} → accepted (call q) ≡ true → Run (call q).pending q.upper qs → Run q.pending q.lower (q ∷ qs)
  passes_over : (q : Request) {ps : List (ℕ × ℕ)} {lower : List ℕ} {qs : List Request} → accepted (call q) ≡ false → Run ps lower qs → Run ps lower (q ∷ qs)

unfoldable pub work_of : Request → ℕ → Done
work_of q k = work q (together q.old q.new) k

pub record Settled (q : Request) (k t : ℕ) : Type 0 where
  pub place : ℕ
  pub within : place < length (work_of q k).found.moments
  pub moment : get_or (work_of q k).found.moments place 0 ≡ t
  pub round : get_or (map (λ (r : Round). r.time) (work_of q k).rounds) place 0 ≡ t
  pub right : Right q.mode (edits_of k (together q.old q.new)) (edits_of k q.out ++ corrections (take (suc place) (work_of q k).rounds)) t

pub data Waits (k t : ℕ) : List Request → Type 0 where
  no_more : Waits k t []
  unheard : {q : Request} {qs : List Request} → accepted (call q) ≡ false → Waits k t qs → Waits k t (q ∷ qs)
  listed : {q : Request} {qs : List Request} → accepted (call q) ≡ true → beyond q.upper t ≡ true → lists (call q).pending k t ≡ true → Waits k t qs → Waits k t (q ∷ qs)
  settled : {q : Request} {qs : List Request} → accepted (call q) ≡ true → beyond q.upper t ≡ false → Settled q k t → Waits k t (q ∷ qs)
