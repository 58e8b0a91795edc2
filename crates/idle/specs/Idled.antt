-- A call that does no work: it is refused, or quiet, or nothing changed.
--
-- idle_answer s q: the answer of a call that does no work, of status s. Idles: what it asks. SaidIdle, Idled: what it leaves
use Rattle.std.specs.Prelude.{ℕ, ◌≤◌, cond, List, ◌≡◌, eqb, ℤ}
use Rattle.grid.specs.Records.{pairs}
use Rattle.rules.specs.Call.{Request, Answer, refused, quiet_answer}
use Rattle.rules.specs.Memory.{Memory}
use Rattle.results.specs.Told.{Quiet}
use Rattle.answers.specs.Tells.{Tells}
use Rattle.answers.specs.declared.Outcome.{Outcome}
use Rattle.demands.specs.Answers.{Retired}

unfoldable pub idle_answer : ℕ → Request → Answer
idle_answer s q = cond (eqb s 1) (quiet_answer q) (refused s)

pub record Idles (s : ℕ) (held ks ts res : List ℕ) (rd : List ℤ) : Type 0 where
  pub early : s ≤ 17
  pub fits : s ≤ 10 → Quiet held ks ts res rd

pub record SaidIdle (s : ℕ) (held ks ts : List ℕ) (r : Outcome) (res res' : List ℕ) (rd rd' : List ℤ) : Type 0 where
  pub says : (q : Request) → q.held ≡ held → q.pending ≡ pairs ks ts → Tells (idle_answer s q) r res res' rd rd'

pub record Idled (s : ℕ) (held ks ts : List ℕ) (m : Memory) (r : Outcome) (m' : Memory) : Type 0 where
  pub answers : (q : Request) → q.held ≡ held → q.pending ≡ pairs ks ts → Retired (idle_answer s q) m r m'
