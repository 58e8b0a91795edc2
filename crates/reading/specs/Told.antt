-- What an answer of the reader tells, as `form` says it, and what the columns hold afterwards.
--
-- told_times: of a list of times, which stands at the front of the slice that was lent for it
-- told_head, told_end: of the first five lines, of the last line
-- FewTimes: how many times were read
-- Few, LineAfter: how many lines the sections have, and the number of the line after them
-- Room: the columns are long enough for every request
-- part f a: a list of the request that was read, empty if there is none
-- answered: the reader's answer to what was asked. counts_of: the counts in an answer, 0 after a refusal
-- found_of: what was found, nothing where a line is bad. request_of: the request in it. LinesStand: where the lines of each kind stand
-- Looked: the front of each list's slice holds it. FrontRead: and what is past it is zero
-- RequestRead: each column holds its list of the request, and zeros past it
use Rattle.std.specs.Prelude.{ℕ, ◌+◌, ◌≤◌, ◌≡◌, List, [], map, ℤ, pos, drop, take, length, Option, Some, None, Result, Ok, Err}
use Rattle.std.proofs.Math.Option as read
use Rattle.grid.specs.Lists.{padded}
use Rattle.grid.specs.Frontiers.{most_times}
use Rattle.rules.specs.Call.{Request as AnyRequest}
use Rattle.form.specs.Text.{ascii}
use Rattle.form.specs.Read.{most_lines, row, pair, line, Asked, bad, asked, body}
use Rattle.records.specs.declared.Section.{Section}
use Rattle.records.specs.declared.Lines.{Lines}
use Rattle.records.specs.Told.{Stands}
use Rattle.reading.specs.declared.BadLine.{BadLine}
use Rattle.reading.specs.declared.Counts.{Counts}
use Rattle.reading.specs.declared.Request.{Request}
use Rattle.reading.specs.declared.Head.{Head}
use Rattle.reading.specs.declared.Found.{Found}

abbrev pub told_times : List ℕ → List ℕ → Option (ℕ × ℕ) → read.Option (List ℕ × List ℕ)
told_times s out None = read.none
told_times s out (Some x) = read.some (take x.0 out, drop x.1 s)

abbrev pub told_head : List ℕ → List ℕ → List ℕ → List ℕ → Result (Head × ℕ) BadLine → Asked
told_head s lower upper held (Err e) = bad e.0
told_head s lower upper held (Ok x) = body x.0.mode x.0.width (take x.0.lower lower) (take x.0.upper upper) (take x.0.held held) (drop x.1 s)

pub record FewTimes (lower upper held : ℕ) : Type 0 where
  pub few_lower : lower ≤ most_times
  pub few_upper : upper ≤ most_times
  pub few_held : held ≤ most_times

abbrev pub told_end : AnyRequest → Result (Unit {0}) BadLine → Asked
told_end q (Err e) = bad e.0
told_end q (Ok u) = asked q

pub record Few (old new out pending : ℕ) : Type 0 where
  pub few_old : old ≤ most_lines
  pub few_new : new ≤ most_lines
  pub few_out : out ≤ most_lines
  pub few_pending : pending ≤ most_lines

pub record LineAfter (old new out pending r : ℕ) : Type 0 where
  pub line : r ≡ 6 + old + new + out + pending
  pub small : r ≤ 3000

pub record Room
    (lower upper held : List ℕ)
    (old_keys old_values old_times : List ℕ)
    (old_diffs : List ℤ)
    (new_keys new_values new_times : List ℕ)
    (new_diffs : List ℤ)
    (out_keys out_values out_times : List ℕ)
    (out_diffs : List ℤ)
    (pending_keys pending_times : List ℕ)
    : Type 0 where
  pub room_lower : most_times ≤ length lower
  pub room_upper : most_times ≤ length upper
  pub room_held : most_times ≤ length held
  pub room_old_keys : most_lines ≤ length old_keys
  pub room_old_values : most_lines ≤ length old_values
  pub room_old_times : most_lines ≤ length old_times
  pub room_old_diffs : most_lines ≤ length old_diffs
  pub room_new_keys : most_lines ≤ length new_keys
  pub room_new_values : most_lines ≤ length new_values
  pub room_new_times : most_lines ≤ length new_times
  pub room_new_diffs : most_lines ≤ length new_diffs
  pub room_out_keys : most_lines ≤ length out_keys
  pub room_out_values : most_lines ≤ length out_values
  pub room_out_times : most_lines ≤ length out_times
  pub room_out_diffs : most_lines ≤ length out_diffs
  pub room_pending_keys : most_lines ≤ length pending_keys
  pub room_pending_times : most_lines ≤ length pending_times

abbrev pub part : {A : Type 0} → (AnyRequest → List A) → Asked → List A
part f (bad n) = []
part f (asked q) = f q

abbrev pub counted : AnyRequest → Counts
counted q = record {
  lower = length q.lower;
  upper = length q.upper;
  held = length q.held;
  old = length q.old;
  new = length q.new;
  out = length q.out;
  pending = length q.pending;
}

abbrev pub answered : Asked → Result Request BadLine
answered (bad n) = Err (record { 0 = n })
answered (asked q) = Ok (record { mode = q.mode; width = q.width; counts = counted q })

abbrev pub no_counts : Counts
no_counts = record { lower = 0; upper = 0; held = 0; old = 0; new = 0; out = 0; pending = 0 }

abbrev pub counts_of : Result Request BadLine → Counts
counts_of (Err e) = no_counts
counts_of (Ok q) = q.counts

abbrev pub no_lines : Section
no_lines = record { first = 0; count = 0; next = 0 }

abbrev pub found_of : Result Found BadLine → Found
found_of (Err e) = record {
  request = record { mode = 0; width = 0; counts = no_counts };
  lines = record { old = no_lines; new = no_lines; out = no_lines; pending = no_lines };
}
found_of (Ok x) = x

abbrev pub request_of : Result Found BadLine → Result Request BadLine
request_of (Err e) = Err e
request_of (Ok x) = Ok x.request

pub record LinesStand (s : List ℕ) (a : Asked) (x : Lines) : Type 0 where
  pub old : Stands s (line (ascii "old=") row) (part (λ q. q.old) a) x.old
  pub new : Stands s (line (ascii "new=") row) (part (λ q. q.new) a) x.new
  pub out : Stands s (line (ascii "out=") row) (part (λ q. q.out) a) x.out
  pub pending : Stands s (line (ascii "pend=") pair) (part (λ q. q.pending) a) x.pending

pub record Looked (s : List ℕ) (a : Asked) (lower' upper' held' : List ℕ) (x : Result Found BadLine) : Type 0 where
  pub told : request_of x ≡ answered a
  pub few : FewTimes (found_of x).request.counts.lower (found_of x).request.counts.upper (found_of x).request.counts.held
  pub has_lower : take (found_of x).request.counts.lower lower' ≡ part (λ q. q.lower) a
  pub has_upper : take (found_of x).request.counts.upper upper' ≡ part (λ q. q.upper) a
  pub has_held : take (found_of x).request.counts.held held' ≡ part (λ q. q.held) a
  pub stand : LinesStand s a (found_of x).lines

pub record FrontRead (s : List ℕ) (a : Asked) (lower upper held lower' upper' held' : List ℕ) (x : Result Found BadLine) : Type 0 where
  pub told : request_of x ≡ answered a
  pub is_lower : lower' ≡ padded 0 (length lower) (part (λ q. q.lower) a)
  pub is_upper : upper' ≡ padded 0 (length upper) (part (λ q. q.upper) a)
  pub is_held : held' ≡ padded 0 (length held) (part (λ q. q.held) a)
  pub stand : LinesStand s a (found_of x).lines

pub record RequestRead (a : Asked)
    (lower upper held : List ℕ)
    (old_keys old_values old_times : List ℕ)
    (old_diffs : List ℤ)
    (new_keys new_values new_times : List ℕ)
    (new_diffs : List ℤ)
    (out_keys out_values out_times : List ℕ)
    (out_diffs : List ℤ)
    (pending_keys pending_times : List ℕ)
    (lower' upper' held' : List ℕ)
    (old_keys' old_values' old_times' : List ℕ)
    (old_diffs' : List ℤ)
    (new_keys' new_values' new_times' : List ℕ)
    (new_diffs' : List ℤ)
    (out_keys' out_values' out_times' : List ℕ)
    (out_diffs' : List ℤ)
    (pending_keys' pending_times' : List ℕ)
    (r : Result Request BadLine) : Type 0 where
  pub told : r ≡ answered a
  pub is_lower : lower' ≡ padded 0 (length lower) (part (λ q. q.lower) a)
  pub is_upper : upper' ≡ padded 0 (length upper) (part (λ q. q.upper) a)
  pub is_held : held' ≡ padded 0 (length held) (part (λ q. q.held) a)
  pub is_old_keys : old_keys' ≡ padded 0 (length old_keys) (map (λ r. r.key) (part (λ q. q.old) a))
  pub is_old_values : old_values' ≡ padded 0 (length old_values) (map (λ r. r.value) (part (λ q. q.old) a))
  pub is_old_times : old_times' ≡ padded 0 (length old_times) (map (λ r. r.time) (part (λ q. q.old) a))
  pub is_old_diffs : old_diffs' ≡ padded (pos 0) (length old_diffs) (map (λ r. r.diff) (part (λ q. q.old) a))
  pub is_new_keys : new_keys' ≡ padded 0 (length new_keys) (map (λ r. r.key) (part (λ q. q.new) a))
  pub is_new_values : new_values' ≡ padded 0 (length new_values) (map (λ r. r.value) (part (λ q. q.new) a))
  pub is_new_times : new_times' ≡ padded 0 (length new_times) (map (λ r. r.time) (part (λ q. q.new) a))
  pub is_new_diffs : new_diffs' ≡ padded (pos 0) (length new_diffs) (map (λ r. r.diff) (part (λ q. q.new) a))
  pub is_out_keys : out_keys' ≡ padded 0 (length out_keys) (map (λ r. r.key) (part (λ q. q.out) a))
  pub is_out_values : out_values' ≡ padded 0 (length out_values) (map (λ r. r.value) (part (λ q. q.out) a))
  pub is_out_times : out_times' ≡ padded 0 (length out_times) (map (λ r. r.time) (part (λ q. q.out) a))
  pub is_out_diffs : out_diffs' ≡ padded (pos 0) (length out_diffs) (map (λ r. r.diff) (part (λ q. q.out) a))
  pub is_pending_keys : pending_keys' ≡ padded 0 (length pending_keys) (map (λ p. p.0) (part (λ q. q.pending) a))
  pub is_pending_times : pending_times' ≡ padded 0 (length pending_times) (map (λ p. p.1) (part (λ q. q.pending) a))
