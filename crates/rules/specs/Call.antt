-- "One call", its table of statuses, and the results of "Retire".
--
-- Request: what is lent, as lists. Answer: what comes back
-- check11 … check17: a row of the table does not hold. quiet, unchanged: rows 1 and 2
-- verdict: the lowest of 11 to 17 that holds, then 1, then 2, else 0
-- together: old and new input in one run. changed: the keys to look at. Done, work: one of them
-- worked: the work, with 18 and 19. call: the whole
use Rattle.std.specs.Prelude.{ℕ, Bool, cond, ◌&&◌, ◌||◌, not, List, [], ◌∷◌, ◌++◌, map, leb, ltb, eqb, length}
use Rattle.grid.specs.Lists.{any, every, keep, is_empty, sort, ascending, flat}
use Rattle.grid.specs.Times.{puts}
use Rattle.grid.specs.Frontiers.{beyond, short_of, is_frontier, minimal, most_times}
use Rattle.grid.specs.Consolidate.{lex}
use Rattle.grid.specs.Records.{Row, most_records, before, in_range, good_run}
use Rattle.rules.specs.Histories.{Edit}
use Rattle.rules.specs.Tiles.{Tile, tiles, tile_of}
use Rattle.rules.specs.Discover.{State, discover}
use Rattle.rules.specs.Retire.{Round, settle, crossings}

-- "Lent: old input run, new input run, old output run, pending list of (key, time), lower, upper, held, mode (1 count, 2 distinct), window
-- width 1 to 64, result and work memory." (Memory is in Memory.antt.)
pub record Request : Type 0 where
  pub mode : ℕ
  pub width : ℕ
  pub lower : List ℕ
  pub upper : List ℕ
  pub held : List ℕ
  pub old : List Row
  pub new : List Row
  pub out : List Row
  pub pending : List (ℕ × ℕ)

-- a correction, and the place of its tile
pub record Fix : Type 0 where
  pub tile : ℕ
  pub row : Row

pub record Answer : Type 0 where
  pub status : ℕ
  pub crossings : ℕ
  pub tiles : List Tile
  pub fixes : List Fix
  pub pending : List (ℕ × ℕ)
  pub frontier : List ℕ

-- ---- the checks
-- 11: "mode, width, unequal column lengths, a run or pending list over 4,096, lent memory too short" (columns and memory: Memory.antt)
unfoldable pub check11 : Request → Bool
check11 q =
    (eqb q.mode 1 || eqb q.mode 2) && leb 1 q.width && leb q.width 64
    && leb (length q.old) most_records && leb (length q.new) most_records && leb (length q.out) most_records && leb (length q.pending) most_records

-- 12: "lower, upper or held is no frontier"
unfoldable pub check12 : Request → Bool
check12 q = is_frontier q.lower && is_frontier q.upper && is_frontier q.held

-- 13: "an upper or held time is not beyond lower"
unfoldable pub check13 : Request → Bool
check13 q = every (beyond q.lower) q.upper && every (beyond q.lower) q.held

-- 14: "a run out of order or a diff out of range"
unfoldable pub check14 : Request → Bool
check14 q = good_run q.old && good_run q.new && good_run q.out

-- 15: "pending not strictly ascending by (key, time)"
unfoldable pub check15 : Request → Bool
check15 q = ascending (lex ltb ltb) q.pending

-- 16: "an old input or old output record beyond lower, a new one outside lower to upper, a pending time short of lower"
unfoldable pub check16 : Request → Bool
check16 q =
    every (λ r. short_of q.lower r.time) q.old && every (λ r. short_of q.lower r.time) q.out
    && every (λ r. beyond q.lower r.time && short_of q.upper r.time) q.new
    && every (λ p. beyond q.lower p.1) q.pending

-- 17: "a new or pending time short of upper with no held time at or below it"
unfoldable pub is_held : Request → ℕ → Bool
is_held q t = beyond q.upper t || beyond q.held t

unfoldable pub check17 : Request → Bool
check17 q = every (λ r. is_held q r.time) q.new && every (λ p. is_held q p.1) q.pending

-- 1: "every held time is beyond upper (held may be empty)"
unfoldable pub quiet : Request → Bool
quiet q = every (beyond q.upper) q.held

-- 2: "new run and pending both empty"
unfoldable pub unchanged : Request → Bool
unchanged q = is_empty q.new && is_empty q.pending

-- "Lowest of 11 to 17 wins; then 1, then 2." The number of the first test that fails, or 0.
abbrev pub first_failed : List (ℕ × Bool) → ℕ
first_failed [] = 0
first_failed (p ∷ ps) = let r = first_failed ps in cond p.1 r p.0

unfoldable pub verdict : Request → ℕ
verdict q = first_failed
    ((11, check11 q) ∷ (12, check12 q) ∷ (13, check13 q) ∷ (14, check14 q) ∷ (15, check15 q) ∷ (16, check16 q) ∷ (17, check17 q)
    ∷ (1, not (quiet q)) ∷ (2, not (unchanged q)) ∷ [])

-- ---- the work
unfoldable pub together : List Row → List Row → List Row
together old new = sort (λ r s. not (before s r)) (old ++ new)

-- "Changed keys: keys of seeds and pending, ascending"
unfoldable pub changed : Request → List ℕ
changed q = puts (map (λ r. r.key) q.new ++ map (λ p. p.0) q.pending) []

-- a key's part of a run, as edits; the times of its part; its pending times
unfoldable pub edits_of : ℕ → List Row → List Edit
edits_of k rs = map (λ r. ((r.time, r.value), r.diff)) (keep (λ r. eqb k r.key) rs)

unfoldable pub times_of : ℕ → List Row → List ℕ
times_of k rs = map (λ r. r.time) (keep (λ r. eqb k r.key) rs)

unfoldable pub pending_of : ℕ → List (ℕ × ℕ) → List ℕ
pending_of k ps = map (λ p. p.1) (keep (λ p. eqb k p.0) ps)

pub record Done : Type 0 where
  pub key : ℕ
  pub found : State
  pub rounds : List Round

unfoldable pub work : Request → List Row → ℕ → Done
work q input k =
    let ins = edits_of k input in
    let found = discover q.upper (times_of k q.new) (pending_of k q.pending) ins (times_of k q.out) in
    record { key = k; found = found; rounds = settle q.mode ins (edits_of k q.out) found.moments }

unfoldable pub work_all : Request → List Done
work_all q = let input = together q.old q.new in map (work q input) (changed q)

-- "Results: corrections ascending by (tile, key, value, time); pending ascending; next frontier the minimal pended times."
unfoldable pub fixes_of : Request → List Tile → Done → List Fix
fixes_of q ts d =
    flat (λ (r : Round). map (λ p. record { tile = tile_of q.held ts r.time; row = record { key = d.key; value = p.0; time = r.time; diff = p.1 } }) r.fixes) d.rounds

unfoldable pub fix_before : Fix → Fix → Bool
fix_before f g = ltb f.tile g.tile || (eqb f.tile g.tile && before f.row g.row)

unfoldable pub fixes_all : Request → List Tile → List Done → List Fix
fixes_all q ts ds = sort (λ f g. not (fix_before g f)) (flat (fixes_of q ts) ds)

unfoldable pub pended_all : List Done → List (ℕ × ℕ)
pended_all ds = flat (λ (d : Done). map (λ t. (d.key, t)) d.found.pended) ds

unfoldable pub crossed_of : Done → List Bool
crossed_of d = map (λ (r : Round). r.crossed) d.rounds

-- 18: "for some key: over 1,024 moments, over 1,024 distinct waiting joins after a step, or over 1,024 distinct pended times; or over 4,096
-- pended in all; or a next frontier over 16"
unfoldable pub too_many : List Done → Bool
too_many ds =
    any (λ (d : Done). d.found.over) ds || ltb most_records (length (pended_all ds)) || ltb most_times (length (minimal (map (λ p. p.1) (pended_all ds))))

-- 19: "no 18, and some correction is outside -2^31 to 2^31 or there are over 4,096"
unfoldable pub too_large : List Fix → Bool
too_large fs = any (λ (f : Fix). not (in_range f.row.diff)) fs || ltb most_records (length fs)

-- an answer with no results
unfoldable pub refused : ℕ → Answer
refused n = record { status = n; crossings = 0; tiles = []; fixes = []; pending = []; frontier = [] }

unfoldable pub worked : Request → Answer
worked q =
    let ds = work_all q in
    let ts = tiles q.lower q.upper q.held in
    let fs = fixes_all q ts ds in
    let ps = pended_all ds in
    let done : Answer =
    record { status = 0; crossings = crossings q.width (map crossed_of ds); tiles = ts; fixes = fs; pending = ps; frontier = minimal (map (λ p. p.1) ps) } in
    let fits : Answer = cond (too_large fs) (refused 19) done in
    cond (too_many ds) (refused 18) fits

-- 1: "no tiles, no corrections; pending copied; next frontier = held; crossings 0"
unfoldable pub quiet_answer : Request → Answer
quiet_answer q = record { status = 1; crossings = 0; tiles = []; fixes = []; pending = q.pending; frontier = q.held }

unfoldable pub call : Request → Answer
call q =
    let s = verdict q in
    let w : Answer = worked q in
    cond (eqb s 0) w (cond (eqb s 1) (quiet_answer q) (refused s))
