-- What the loop over the windows of a call comes to: pended times, corrections, crossings; or a limit was passed, or corrections are too large.
--
-- most: for how many corrections and pended times there is room
-- passed most q: a limit of 18 that keys or pended times pass. Looped q c rs ps: the windows of q gave c, the corrections rs and the next pending list ps
-- course_of w: what is told of the windows, when the call has come to w. Loops: what the loop asks. Ended: what it leaves
use Rattle.std.specs.Prelude.{ℕ, ◌≤◌, Bool, true, false, ◌||◌, List, ◌≡◌, ltb, ℤ, length, take}
use Rattle.grid.specs.Lists.{any, ascending}
use Rattle.grid.specs.Records.{Row, rows, pairs, most_records}
use Rattle.rules.specs.Call.{Request, Done, changed, work_all, pended_all}
use Rattle.slots.specs.Slots.{rows_too_large}
use Rattle.settled.specs.Call.{windows_of, rows_of, crossings_of}
use Rattle.tallies.specs.Tallied.{most_input}
use Rattle.answers.specs.declared.Course.{Course}
use Rattle.progress.specs.declared.Progress.{Progress}
use Rattle.turns.specs.Runs.{Runs, Good, Asked}

unfoldable pub passed : ℕ → Request → Bool
passed most q = any (λ (d : Done). d.found.over) (work_all q) || ltb most (length (pended_all (work_all q)))

abbrev pub course_of : Progress → Course
course_of w = record { pended = w.pended; fixes = w.fixes; crossings = w.crossings; large = w.large; over = w.over }

pub record Looped (most : ℕ) (q : Request) (c : Course) (rs : List Row) (ps : List (ℕ × ℕ)) : Type 0 where
  pub over_is : c.over ≡ passed most q
  pub next_is : c.over ≡ false → ps ≡ pended_all (work_all q)
  pub large_is : c.over ≡ false → c.large ≡ rows_too_large most 0 (rows_of q (windows_of q (changed q)))
  pub rows_are : c.over ≡ false → c.large ≡ false → rs ≡ rows_of q (windows_of q (changed q))
  pub crossings_are : c.over ≡ false → c.large ≡ false → c.crossings ≡ crossings_of q (windows_of q (changed q))

-- what the loop asks of the runs and the changed keys
pub record Loops (most : ℕ) (R : Runs) (width : ℕ) (keys : List ℕ) : Type 0 where
  pub good : Good most R
  pub room_few : most ≤ most_records
  pub wide : 1 ≤ width
  pub narrow : width ≤ 64
  pub ascends : ascending ltb keys ≡ true
  pub few : length keys ≤ most_input

-- what it leaves: of any request whose runs these are
pub record Ended (most : ℕ) (R : Runs) (mode width : ℕ) (keys nk nt fk fv ft : List ℕ) (fd : List ℤ) (c : Course) : Type 0 where
  pub few_pended : c.pended ≤ most
  pub few_fixes : c.over ≡ false → c.large ≡ false → c.fixes ≤ most
  pub looped : (q : Request) → Asked q mode width R keys
      → Looped most q c (rows (take c.fixes fk) (take c.fixes fv) (take c.fixes ft) (take c.fixes fd)) (pairs (take c.pended nk) (take c.pended nt))
