-- The checks of "One call" over the columns that are lent: each test of the rules, of columns in place of records.
--
-- zipped: two columns, entry by entry. columns: a run as it is lent. asked: the request that columns hold
-- level: all columns of a run, and those of the pending list, are of one length. room_for: each length is at least the size that it must be
-- sized: check 11 of mode, width and lengths. frontiers, above: checks 12 and 13. in_order: check 14 of a run. placed, covered: checks 16 and 17
-- of the columns of times. held_at upper held t: t is beyond upper, or a held time is at or below it
-- times_verdict, records_verdict, columns_verdict: the verdict from 16 on, from 14 on, and whole
-- sizes_of, lengths_of: how long the slices of memory must be, and how long they are: numbers, diffs, work, work_diffs
-- status_before_work: 11 by lengths, else the verdict
use Rattle.std.specs.Prelude.{ℕ, Bool, true, false, cond, ◌&&◌, ◌||◌, not, List, [], ◌∷◌, ◌++◌, map, leb, ltb, eqb, ℤ, length}
use Rattle.grid.specs.Lists.{every, is_empty, ascending}
use Rattle.grid.specs.Frontiers.{beyond, short_of, is_frontier}
use Rattle.grid.specs.Consolidate.{lex}
use Rattle.grid.specs.Records.{Columns, pairs, most_records, rank_before, good_diff}
use Rattle.rules.specs.Call.{Request, first_failed, verdict}
use Rattle.rules.specs.Memory.{Memory, Sizes, numbers_size, alike, rows_of}

abbrev pub zipped : {A B : Type 0} → List A → List B → List (A × B)
zipped [] bs = []
zipped (a ∷ as') [] = []
zipped (a ∷ as') (b ∷ bs) = (a, b) ∷ zipped as' bs

-- ---- what is lent
abbrev pub columns : List ℕ → List ℕ → List ℕ → List ℤ → Columns
columns ks vs ts ds = record { keys = ks; values = vs; times = ts; diffs = ds }

unfoldable pub asked : ℕ → ℕ → List ℕ → List ℕ → List ℕ → Columns → Columns → Columns → List ℕ → List ℕ → Request
asked mode width lower upper held old new out ks ts = record {
  mode = mode;
  width = width;
  lower = lower;
  upper = upper;
  held = held;
  old = rows_of old;
  new = rows_of new;
  out = rows_of out;
  pending = pairs ks ts;
}

unfoldable pub level : Columns → Columns → Columns → List ℕ → List ℕ → Bool
level old new out ks ts = alike old && alike new && alike out && eqb (length ts) (length ks)

abbrev pub room_for : List ℕ → List ℕ → Bool
room_for [] ls = true
room_for (n ∷ ns) [] = false
room_for (n ∷ ns) (l ∷ ls) = leb n l && room_for ns ls

-- ---- the checks
unfoldable pub sized : ℕ → ℕ → ℕ → ℕ → ℕ → ℕ → Bool
sized mode width old new out pending =
    ((eqb mode 1 || eqb mode 2) && (leb 1 width && leb width 64))
    && (leb old most_records && leb new most_records && leb out most_records && leb pending most_records)

unfoldable pub frontiers : List ℕ → List ℕ → List ℕ → Bool
frontiers lower upper held = is_frontier lower && is_frontier upper && is_frontier held

unfoldable pub above : List ℕ → List ℕ → List ℕ → Bool
above lower upper held = every (beyond lower) upper && every (beyond lower) held

unfoldable pub in_order : Columns → Bool
in_order c = ascending rank_before (zipped c.keys (zipped c.values c.times)) && every good_diff c.diffs

unfoldable pub placed : List ℕ → List ℕ → List ℕ → List ℕ → List ℕ → List ℕ → Bool
placed lower upper old new out pending =
    every (short_of lower) old && every (short_of lower) out && (every (beyond lower) new && every (short_of upper) new) && every (beyond lower) pending

unfoldable pub held_at : List ℕ → List ℕ → ℕ → Bool
held_at upper held t = beyond upper t || beyond held t

unfoldable pub covered : List ℕ → List ℕ → List ℕ → List ℕ → Bool
covered upper held new pending = every (held_at upper held) new && every (held_at upper held) pending

-- ---- the verdict
unfoldable pub times_verdict : List ℕ → List ℕ → List ℕ → List ℕ → List ℕ → List ℕ → List ℕ → ℕ
times_verdict lower upper held old new out pending = first_failed
    ((16, placed lower upper old new out pending) ∷ (17, covered upper held new pending)
    ∷ (1, not (every (beyond upper) held)) ∷ (2, not (is_empty new && is_empty pending)) ∷ [])

unfoldable pub records_verdict : List ℕ → List ℕ → List ℕ → Columns → Columns → Columns → List ℕ → List ℕ → ℕ
records_verdict lower upper held old new out ks ts =
    let r = times_verdict lower upper held old.times new.times out.times ts in
    cond (in_order old && in_order new && in_order out) (cond (ascending (lex ltb ltb) (zipped ks ts)) r 15) 14

unfoldable pub columns_verdict : ℕ → ℕ → List ℕ → List ℕ → List ℕ → Columns → Columns → Columns → List ℕ → List ℕ → ℕ
columns_verdict mode width lower upper held old new out ks ts =
    let r = records_verdict lower upper held old new out ks ts in
    cond (sized mode width (length old.keys) (length new.keys) (length out.keys) (length ks)) (cond (frontiers lower upper held) (cond (above lower upper held) r 13) 12) 11

-- ---- with the memory
unfoldable pub sizes_of : Sizes → List ℕ
sizes_of z = numbers_size ∷ most_records ∷ z.work ++ z.work_diffs

unfoldable pub lengths_of : Memory → List ℕ
lengths_of m = length m.numbers ∷ length m.diffs ∷ map length m.work ++ map length m.work_diffs

unfoldable pub status_before_work : ℕ → ℕ → List ℕ → List ℕ → List ℕ → Columns → Columns → Columns → List ℕ → List ℕ → List ℕ → List ℕ → ℕ
status_before_work mode width lower upper held old new out ks ts sizes lengths =
    let r = verdict (asked mode width lower upper held old new out ks ts) in cond (level old new out ks ts && room_for sizes lengths) r 11
