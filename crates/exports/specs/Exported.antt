-- The call as other languages make it: an outcome is a status and six numbers.
--
-- Exported l: the call that was lent l says r and counts, and leaves m; with no room for counts, 11, and all is untouched
-- Printed text out out' n: n bytes of text are at the front of out'; with no room for the longest text, none
use Rattle.std.specs.Prelude.{ℕ, ◌≤◌, ◌<◌, List, ◌++◌, ◌≡◌, length, drop}
use Rattle.rules.specs.Memory.{Memory, Lent}
use Rattle.form.proofs.Room.{most_text}
use Rattle.demands.specs.Answers.{Retires}
use Rattle.demands.specs.Lending.{needed}
use Rattle.requests.specs.Statuses.{number_of}
use Rattle.answers.specs.declared.Outcome.{Outcome}
use Rattle.answering.specs.Replied.{Replied}
use Rattle.telling.specs.Said.{counted}

pub record Told (l : Lent) (counts counts' : List ℕ) (m : Memory) (r : ℕ) : Type 0 where
  pub outcome : Outcome
  pub retires : Retires needed l outcome m
  pub status_is : r ≡ number_of outcome.status
  pub counts_are : counts' ≡ counted outcome ++ drop 6 counts

pub record Untouched (l : Lent) (counts counts' : List ℕ) (m : Memory) (r : ℕ) : Type 0 where
  pub refused : r ≡ 11
  pub same_counts : counts' ≡ counts
  pub same_memory : m ≡ l.memory

pub record Exported (l : Lent) (counts counts' : List ℕ) (m : Memory) (r : ℕ) : Type 0 where
  pub short : length counts < 6 → Untouched l counts counts' m r
  pub long : 6 ≤ length counts → Told l counts counts' m r

pub record Unprinted (out out' : List ℕ) (n : ℕ) : Type 0 where
  pub none : n ≡ 0
  pub same : out' ≡ out

pub record Printed (text out out' : List ℕ) (n : ℕ) : Type 0 where
  pub short : length out < most_text → Unprinted out out' n
  pub long : most_text ≤ length out → Replied text out out' n
