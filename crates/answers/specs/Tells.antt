-- "Lowest of 11 to 17 wins; then 1, then 2, then 18, then 19": what a call says, and leaves in result memory.
--
-- Tells a r: r is what is said of the answer a, and result memory holds it
-- TellsQuiet: the same of a call that is quiet
-- concluded: the answer of a call whose windows are done: 18 before 19. Concludes most: what it asks; for so many corrections and pending entries there is room
use Rattle.std.specs.Prelude.{ℕ, ◌≤◌, false, cond, ◌||◌, List, map, ◌≡◌, ltb, ℤ, length}
use Rattle.grid.specs.Frontiers.{most_times, minimal}
use Rattle.grid.specs.Records.{Row, most_records, pairs}
use Rattle.rules.specs.Call.{Request, Answer, refused, quiet_answer}
use Rattle.rules.specs.Memory.{numbers_size}
use Rattle.requests.specs.Statuses.{number_of}
use Rattle.results.specs.Told.{Told, published}
use Rattle.answers.specs.declared.Outcome.{Outcome}
use Rattle.answers.specs.declared.Course.{Course}

pub record Tells (a : Answer) (r : Outcome) (res res' : List ℕ) (rd rd' : List ℤ) : Type 0 where
  pub status_is : number_of r.status ≡ a.status
  pub crossings_are : r.crossings ≡ a.crossings
  pub tiles-many : r.tiles ≡ length a.tiles
  pub fixes-many : r.fixes ≡ length a.fixes
  pub pending_many : r.pending ≡ length a.pending
  pub frontier_many : r.frontier ≡ length a.frontier
  pub told : Told a res res' rd rd'

pub record TellsQuiet (held pendkeys pendtimes : List ℕ) (r : Outcome) (res res' : List ℕ) (rd rd' : List ℤ) : Type 0 where
  pub tells : (q : Request) → q.held ≡ held → q.pending ≡ pairs pendkeys pendtimes → Tells (quiet_answer q) r res res' rd rd'

-- rs: the corrections, as records. ps: the next pending list
unfoldable pub concluded : Course → List ℕ → List ℕ → List ℕ → List Row → List (ℕ × ℕ) → Answer
concluded c lower upper held rs ps =
    let f = minimal (map (λ p. p.1) ps) in
    let fits : Answer = cond c.large (refused 19) (published c.crossings lower upper held rs ps f) in
    cond (c.over || ltb most_times (length f)) (refused 18) fits

pub record Concludes (most : ℕ) (c : Course) (lower upper held keys values times : List ℕ) (diffs : List ℤ) (pendkeys pendtimes out places work res : List ℕ) (rd : List ℤ) : Type 0 where
  pub few_fixes : c.over ≡ false → c.large ≡ false → c.fixes ≤ most
  pub few_pended : c.over ≡ false → c.pended ≤ most
  pub room_few : most ≤ most_records
  pub room_keys : most ≤ length keys
  pub room_values : most ≤ length values
  pub room_times : most ≤ length times
  pub room_diffs : most ≤ length diffs
  pub room_pendkeys : most ≤ length pendkeys
  pub room_pendtimes : most ≤ length pendtimes
  pub few_lower : length lower ≤ most_times
  pub few_upper : length upper ≤ most_times
  pub few_held : length held ≤ most_times
  pub room_out : most ≤ length out
  pub room_places : most ≤ length places
  pub room_work : most ≤ length work
  pub wide_numbers : numbers_size ≤ length res
  pub wide_diffs : most_records ≤ length rd
