-- bilinear_wave, the whole call, over its lent slices.
--
-- Blank: the columns that a side is loaded into are long enough. SideLoaded es … r: the edits es were loaded as a history of r edits, of which
-- nothing was replayed
-- level: three columns are of one length. roomy: the four columns of results are long enough. lent_well: columns and memory are as long as they must be
-- small_diff: a diff is from -2^20 to 2^20
-- status_before: the status that a call has before any work
-- refusal_status e: the status of a refusal. status_of r: the status of an answer, 0 where it is not refused. count_of r: how many pairs it tells, 0 where it is refused
-- Called w …: the answer w was given, and the four columns hold what it leaves
-- emissions: what four columns hold
use Rattle.std.specs.Prelude.{ℕ, ◌≤◌, Bool, cond, ◌&&◌, List, [], ◌∷◌, map, ◌≡◌, eqb, leb, ℤ, pos, nat_abs, length, take, Result, Ok, Err}
use Rattle.std.proofs.Math.Option.{none}
use Rattle.rules.specs.Histories.{Edit, load_edits}
use Rattle.rules.specs.Memory.{leaves}
use Rattle.rules.specs.Wave.{Emission, good_wave_run, WaveAnswer}
use Rattle.edits.specs.Edits.{edits}
use Rattle.wave.specs.Turns.{emitted_time, emitted_first, emitted_second, emitted_diff}
use Rattle.emissions.specs.Emissions.{most_edits}
use Rattle.emissions.specs.Heads.{most_emissions}
use Rattle.wave.specs.Replays.{Side, fresh}
use Rattle.wave.specs.declared.call.Refusal.{Refusal}
use Rattle.wave.specs.declared.call.Refusal.TheVariants.{Short, Unfit, Over}

pub record Blank (ts vs : List ℕ) (ds : List ℤ) (ms : List ℕ) : Type 0 where
  pub for_times : length ts ≡ most_edits
  pub for_values : length vs ≡ most_edits
  pub for_diffs : length ds ≡ most_edits
  pub for_meets : length ms ≡ most_edits

pub record SideLoaded (es : List Edit) (ts vs : List ℕ) (ds : List ℤ) (ms : List ℕ) (r : ℕ) : Type 0 where
  pub within : r ≤ most_edits
  pub side : Side (take r ts) (take r vs) (take r ds) ms fresh
  pub loaded : edits (take r ts) (take r vs) (take r ds) ≡ load_edits none es

-- ---- the checks
unfoldable pub level : List ℕ → List ℕ → List ℤ → Bool
level ts vs ds = eqb (length vs) (length ts) && eqb (length ds) (length ts)

unfoldable pub roomy : List ℕ → List ℕ → List ℕ → List ℤ → Bool
roomy times firsts seconds diffs = leb most_emissions (length times) && leb most_emissions (length firsts) && leb most_emissions (length seconds) && leb most_emissions (length diffs)

unfoldable pub lent_well : List ℕ → List ℕ → List ℤ → List ℕ → List ℕ → List ℤ → List ℕ → List ℕ → List ℕ → List ℤ → Bool
lent_well ts vs ds us ws es times firsts seconds diffs = level ts vs ds && level us ws es && roomy times firsts seconds diffs

unfoldable pub small_diff : ℤ → Bool
small_diff d = leb (nat_abs d) 1048576

unfoldable pub status_before : Bool → List Edit → List Edit → ℕ
status_before lent as' bs = cond lent (cond (good_wave_run as' && good_wave_run bs) 0 14) 11

-- ---- the answer
abbrev pub refusal_status : Refusal → ℕ
refusal_status Short = 11
refusal_status Unfit = 14
refusal_status Over = 18

abbrev pub status_of : {A : Type 0} → Result A Refusal → ℕ
status_of (Ok x) = 0
status_of (Err e) = refusal_status e

abbrev pub count_of : Result ℕ Refusal → ℕ
count_of (Ok n) = n
count_of (Err e) = 0

pub record Called (w : WaveAnswer) (times firsts seconds : List ℕ) (diffs : List ℤ) (times' firsts' seconds' : List ℕ) (diffs' : List ℤ) (r : Result ℕ Refusal) : Type 0 where
  pub status_is : status_of r ≡ w.status
  pub count_is : count_of r ≡ length w.emitted
  pub times_are : times' ≡ leaves 0 w.status times (map emitted_time w.emitted)
  pub firsts_are : firsts' ≡ leaves 0 w.status firsts (map emitted_first w.emitted)
  pub seconds_are : seconds' ≡ leaves 0 w.status seconds (map emitted_second w.emitted)
  pub diffs_are : diffs' ≡ leaves (pos 0) w.status diffs (map emitted_diff w.emitted)

unfoldable pub emissions : List ℕ → List ℕ → List ℕ → List ℤ → List Emission
emissions [] vs ws ds = []
emissions (t ∷ ts) [] ws ds = []
emissions (t ∷ ts) (v ∷ vs) [] ds = []
emissions (t ∷ ts) (v ∷ vs) (w ∷ ws) [] = []
emissions (t ∷ ts) (v ∷ vs) (w ∷ ws) (d ∷ ds) = ((t, (v, w)), d) ∷ emissions ts vs ws ds
