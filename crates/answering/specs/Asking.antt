-- What is known on the way from the bytes of a request to its reply.
--
-- run_of: a run as it is lent. fronts n c: the front of each of its columns
-- Holds a r l: r answers what was asked, and so many entries of each list of l as r says are that list of the request
-- lists_lent, fronts_lent: the call that is lent lists, or their fronts
-- Asks s l: the bytes s ask for the call that is lent l. no_memory: of which memory nothing is said
use Rattle.std.specs.Prelude.{ℕ, List, [], map, ◌≡◌, take, Result}
use Rattle.grid.specs.Records.{Columns}
use Rattle.rules.specs.Call.{Request as AnyRequest}
use Rattle.rules.specs.Memory.{Memory, Lent}
use Rattle.form.specs.Read.{Asked, asked, parse}
use Rattle.checks.specs.Checks.{columns}
use Rattle.demands.specs.Lending.{lent}
use Rattle.reading.specs.declared.BadLine.{BadLine}
use Rattle.reading.specs.declared.Counts.{Counts}
use Rattle.reading.specs.declared.Request.{Request}
use Rattle.reading.specs.Told.{part, answered, counts_of}
use Rattle.reading.proofs.Lent.{columns_of, lent_of}
use Rattle.requests.specs.declared.Run.{Run}
use Rattle.answering.specs.declared.Lists.{Lists}

abbrev pub run_of : Run → Columns
run_of r = columns r.keys.now r.values.now r.times.now r.diffs.now

abbrev pub fronts : ℕ → Columns → Columns
fronts n c = record { keys = take n c.keys; values = take n c.values; times = take n c.times; diffs = take n c.diffs }

pub record Holds (a : Asked) (r : Result Request BadLine) (l : Lists) : Type 0 where
  pub told : r ≡ answered a
  pub has_lower : take (counts_of r).lower l.lower.now ≡ part (λ q. q.lower) a
  pub has_upper : take (counts_of r).upper l.upper.now ≡ part (λ q. q.upper) a
  pub has_held : take (counts_of r).held l.held.now ≡ part (λ q. q.held) a
  pub has_old : fronts (counts_of r).old (run_of l.old) ≡ columns_of (part (λ q. q.old) a)
  pub has_new : fronts (counts_of r).new (run_of l.new) ≡ columns_of (part (λ q. q.new) a)
  pub has_out : fronts (counts_of r).out (run_of l.out) ≡ columns_of (part (λ q. q.out) a)
  pub has_keys : take (counts_of r).pending l.pending_keys.now ≡ map (λ p. p.0) (part (λ q. q.pending) a)
  pub has_times : take (counts_of r).pending l.pending_times.now ≡ map (λ p. p.1) (part (λ q. q.pending) a)

abbrev pub no_memory : Memory
no_memory = record { numbers = []; diffs = []; work = []; work_diffs = [] }

abbrev pub lists_lent : ℕ → ℕ → Lists → Lent
lists_lent mode width l = lent mode width l.lower.now l.upper.now l.held.now (run_of l.old) (run_of l.new) (run_of l.out) l.pending_keys.now l.pending_times.now no_memory

abbrev pub fronts_lent : ℕ → ℕ → Counts → Lists → Lent
fronts_lent mode width n l =
    lent mode width (take n.lower l.lower.now) (take n.upper l.upper.now) (take n.held l.held.now)
    (fronts n.old (run_of l.old)) (fronts n.new (run_of l.new)) (fronts n.out (run_of l.out))
    (take n.pending l.pending_keys.now) (take n.pending l.pending_times.now) no_memory

pub record Asks (s : List ℕ) (l : Lent) : Type 0 where
  pub request : AnyRequest
  pub parsed : parse s ≡ asked request
  pub as_lent : l ≡ lent_of request no_memory
