-- discover_times as a call, which tests what is lent and says at every status what memory holds.
--
-- "18: for some key: over 1,024 moments, over 1,024 distinct waiting joins after a step, or over 1,024 distinct pended times: cleared. 'Cleared' is all zero
-- over the whole result and work memory. Unused result entries and work memory are zero." "11: unequal column lengths, lent memory too short: untouched."
-- "14: a diff out of range: untouched."
--
-- input_fits: seeds, pending, input and output are within their sizes. load_room, found_room, work_room: so is memory. lent_well: all of this
-- Answer: a status, moments and pended times. refused: without times. answer_of: of what was found. answer: the answer to a call, given whether all is as long as it must be. status_before: what is known before any work
-- status_of, outcome: the number of a status, of a refusal and of an answer
-- kept_of n f: how many of the n found times are kept. published: what was found, as an answer
-- Publishes: moments and pended times, with zeros after them. Clears: slices of zeros. Discovers: the whole call, and what each slice holds afterwards
use Rattle.std.specs.Prelude.{Option, Some, None, Result, Ok, Err, IfOk, ℕ, ◌-◌, Bool, cond, ◌&&◌, List, [], ◌++◌, ◌≡◌, leb, eqb, ℤ, pos, length, take, replicate}
use Rattle.grid.specs.Lists.{every}
use Rattle.grid.specs.Records.{most_records, in_range}
use Rattle.rules.specs.Discover.{State, discover}
use Rattle.rules.specs.Memory.{leaves}
use Rattle.edits.specs.Edits.{edits}
use Rattle.discover.specs.declared.Found.{Found}
use Rattle.discovery.specs.declared.call.Refusal.{Refusal}
use Rattle.discovery.specs.declared.call.Refusal.TheVariants.{Lengths, Diffs, Limit}

-- ---- sizes
-- the most edits of a key's input, old and new
abbrev pub most_edits : ℕ
most_edits = 8192

-- the meets of 4,096 seeds, 4,096 pending times, 8,192 edits and 4,096 output times
abbrev pub meets_size : ℕ
meets_size = 20480

-- one more than the most moments, waiting joins and pended times
abbrev pub found_size : ℕ
found_size = 1025

-- 4,096 pending times, and one time for each moment
abbrev pub tracked_size : ℕ
tracked_size = 5121

unfoldable pub input_fits : ℕ → ℕ → ℕ → ℕ → ℕ → ℕ → Bool
input_fits seeds pending times values diffs output =
    leb seeds most_records && (leb pending most_records && (leb times most_edits && (eqb values times && (eqb diffs times && leb output most_records))))

unfoldable pub load_room : ℕ → ℕ → ℕ → ℕ → ℕ → ℕ → Bool
load_room seeds times values diffs output column = leb most_records seeds && (leb most_edits times && (eqb values times && (eqb diffs times && (leb most_records output && leb meets_size column))))

unfoldable pub found_room : ℕ → ℕ → ℕ → ℕ → Bool
found_room waiting tracked moments pended = leb found_size waiting && (leb tracked_size tracked && (leb found_size moments && leb found_size pended))

unfoldable pub work_room : ℕ → ℕ → ℕ → ℕ → ℕ → Bool
work_room tracked work places wvalues wdiffs = leb tracked work && (leb most_edits work && (leb most_edits places && (leb most_edits wvalues && leb most_edits wdiffs)))

-- all of this
unfoldable pub lent_well : ℕ → ℕ → ℕ → ℕ → ℕ → ℕ → ℕ → ℕ → ℕ → ℕ → ℕ → ℕ → ℕ → ℕ → ℕ → ℕ → ℕ → ℕ → ℕ → ℕ → Bool
lent_well seedtimes pending intimes invalues indiffs outtimes seeds times values diffs output column waiting tracked moments pended work places wvalues wdiffs =
    input_fits seedtimes pending intimes invalues indiffs outtimes && (load_room seeds times values diffs output column && (found_room waiting tracked moments pended && work_room tracked work places wvalues wdiffs))

-- ---- the answer
pub record Answer : Type 0 where
  pub status : ℕ
  pub moments : List ℕ
  pub pended : List ℕ

unfoldable pub refused : ℕ → Answer
refused n = record { status = n; moments = []; pended = [] }

-- of what was found
unfoldable pub answer_of : State → Answer
answer_of D = cond D.over (refused 18) (record { status = 0; moments = D.moments; pended = D.pended })

unfoldable pub answer : Bool → List ℕ → List ℕ → List ℕ → List ℕ → List ℕ → List ℤ → List ℕ → Answer
answer well upper seedtimes pending intimes invalues indiffs outtimes =
    cond well (cond (every in_range indiffs) (answer_of (discover upper seedtimes pending (edits intimes invalues indiffs) outtimes)) (refused 14)) (refused 11)

-- ---- contracts
unfoldable pub status_before : Bool → List ℤ → ℕ
status_before well indiffs = cond well (cond (every in_range indiffs) 0 14) 11

-- the number of a refusal's status
abbrev pub status_of : Refusal → ℕ
status_of Lengths = 11
status_of Diffs = 14
status_of Limit = 18

-- the status of an answer; 0 where there is one
abbrev pub outcome : {A : Type 0} → Result A Refusal → ℕ
outcome (Ok x) = 0
outcome (Err e) = status_of e

abbrev pub moments_of : Found → ℕ
moments_of f = f.moments

abbrev pub pended_of : Found → ℕ
pended_of f = f.pended

abbrev pub kept_of : (Found → ℕ) → Option Found → ℕ
kept_of n None = 0
kept_of n (Some f) = n f

-- what was found, as the answer to a call
abbrev pub published : Option Found → Result Found Refusal
published None = Err Limit
published (Some f) = Ok f

pub record Publishes (f : Option Found) (moments pended moments' pended' : List ℕ) (r : Result Found Refusal) : Type 0 where
  pub result_is : r ≡ published f
  pub moments_are : moments' ≡ take (kept_of moments_of f) moments ++ replicate (length moments - kept_of moments_of f) 0
  pub pended_are : pended' ≡ take (kept_of pended_of f) pended ++ replicate (length pended - kept_of pended_of f) 0

pub record Clears (a b c d e a' b' c' d' e' : List ℕ) : Type 0 where
  pub first : a' ≡ replicate (length a) 0
  pub second : b' ≡ replicate (length b) 0
  pub third : c' ≡ replicate (length c) 0
  pub fourth : d' ≡ replicate (length d) 0
  pub fifth : e' ≡ replicate (length e) 0

-- what is lent and written
pub record Discovers (A : Answer)
    (seeds times values : List ℕ) (diffs : List ℤ) (output column waiting tracked moments pended work places wvalues : List ℕ) (wdiffs : List ℤ)
    (seeds' times' values' : List ℕ) (diffs' : List ℤ) (output' column' waiting' tracked' moments' pended' work' places' wvalues' : List ℕ) (wdiffs' : List ℤ)
    (r : Result Found Refusal) : Type 0 where
  pub status_is : outcome r ≡ A.status
  pub moments_counted : IfOk r (λ f. f.moments ≡ length A.moments)
  pub pended_counted : IfOk r (λ f. f.pended ≡ length A.pended)
  pub moments_are : moments' ≡ leaves 0 A.status moments A.moments
  pub pended_are : pended' ≡ leaves 0 A.status pended A.pended
  pub seeds_left : seeds' ≡ leaves 0 A.status seeds []
  pub times_left : times' ≡ leaves 0 A.status times []
  pub values_left : values' ≡ leaves 0 A.status values []
  pub diffs_left : diffs' ≡ leaves (pos 0) A.status diffs []
  pub output_left : output' ≡ leaves 0 A.status output []
  pub meets_left : column' ≡ leaves 0 A.status column []
  pub waiting_left : waiting' ≡ leaves 0 A.status waiting []
  pub tracked_left : tracked' ≡ leaves 0 A.status tracked []
  pub work_left : work' ≡ leaves 0 A.status work []
  pub places_left : places' ≡ leaves 0 A.status places []
  pub wvalues_left : wvalues' ≡ leaves 0 A.status wvalues []
  pub wdiffs_left : wdiffs' ≡ leaves (pos 0) A.status wdiffs []
