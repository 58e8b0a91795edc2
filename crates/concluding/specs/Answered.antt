-- The answer of a call that works, once its input is formed.
--
-- most: for how many corrections and pended times there is room
-- Answering: what the work asks once the input is formed. Answered: it answers any request whose runs these are
-- Tries: so it does where there was room. Few: a call of few records
use Rattle.std.specs.Prelude.{ℕ, ◌*◌, ◌≤◌, ◌<◌, min, Option, Some, List, [], ◌++◌, ◌≡◌, ℤ, length}
use Rattle.grid.specs.Frontiers.{most_times}
use Rattle.grid.specs.Records.{most_records}
use Rattle.grid.specs.Times.{puts}
use Rattle.rules.specs.Call.{Request, call}
use Rattle.rules.specs.Discover.{most_moments}
use Rattle.rules.specs.Memory.{numbers_size}
use Rattle.rules.proofs.Statuses.{Works}
use Rattle.answers.specs.Tells.{Tells}
use Rattle.answers.specs.declared.Outcome.{Outcome}
use Rattle.turns.specs.Runs.{Runs, Good, Asked}

pub record Answering (most : ℕ) (R : Runs) (width : ℕ) (lower held moments res : List ℕ) (rd : List ℤ) : Type 0 where
  pub good : Good most R
  pub room_few : most ≤ most_records
  pub wide : 1 ≤ width
  pub narrow : width ≤ 64
  pub few_lower : length lower ≤ most_times
  pub few_upper : length R.upper ≤ most_times
  pub few_held : length held ≤ most_times
  pub room_moments : min width (length (puts (R.new_keys ++ R.pending_keys) [])) * most_moments < length moments
  pub wide_numbers : numbers_size ≤ length res
  pub wide_diffs : most_records ≤ length rd

pub record Answered (R : Runs) (mode width : ℕ) (lower held : List ℕ) (r : Outcome) (res res' : List ℕ) (rd rd' : List ℤ) : Type 0 where
  pub answers : (q : Request) → Works q → Asked q mode width R (puts (R.new_keys ++ R.pending_keys) []) → q.lower ≡ lower → q.held ≡ held → Tells (call q) r res res' rd rd'

pub record Tries (R : Runs) (mode width : ℕ) (lower held : List ℕ) (r : Option Outcome) (res res' : List ℕ) (rd rd' : List ℤ) : Type 0 where
  pub answered : (o : Outcome) → r ≡ Some o → Answered R mode width lower held o res res' rd rd'

pub record Few (new pending input out : ℕ) : Type 0 where
  pub few_new : new ≤ 64
  pub few_pending : pending ≤ 64
  pub few_input : input ≤ 128
  pub few_out : out ≤ 64
