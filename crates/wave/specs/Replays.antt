-- The wave, turn by turn, over the columns of two histories.
--
-- turn_emits h k: what one turn emits. first_after h k, second_after h k: the two histories after it
-- Side: what the columns of a history, its suffix meets and its place keep
-- Turned: one turn was made
-- fresh: the place of a history of which nothing was replayed
-- Replayed goal … r: the emissions `goal` were written to four columns, r of them; or they are too many, and so is r
use Rattle.std.specs.Prelude.{ℕ, suc, ◌+◌, ◌≤◌, ◌<◌, cond, List, ◌≡◌, ℤ, length, take}
use Rattle.rules.specs.Histories.{Edit, ValueHistory}
use Rattle.rules.specs.Wave.{Emission, cross, first_steps, advanced_by, step_one}
use Rattle.rules.proofs.Wave.{Light}
use Rattle.histories.specs.declared.Place.{Place}
use Rattle.histories.specs.Places.{history_of, Placed}
use Rattle.histories.specs.Suffixes.{Suffixes}
use Rattle.edits.specs.Edits.{edits, Alike}
use Rattle.emissions.specs.Emissions.{most_edits}
use Rattle.emissions.specs.Heads.{most_emissions}
use Rattle.wave.specs.Turns.{Emits}
use Rattle.emissions.specs.declared.head.Stand.{Stand}

unfoldable pub turn_emits : ValueHistory → ValueHistory → List Emission
turn_emits h k = cond (first_steps h.ahead k.ahead) (cross (take 1 h.ahead) (advanced_by h k).buffer) (cross (advanced_by k h).buffer (take 1 k.ahead))

unfoldable pub first_after : ValueHistory → ValueHistory → ValueHistory
first_after h k = cond (first_steps h.ahead k.ahead) (step_one h) (advanced_by k h)

unfoldable pub second_after : ValueHistory → ValueHistory → ValueHistory
second_after h k = cond (first_steps h.ahead k.ahead) (advanced_by h k) (step_one k)

pub record Side (ts vs : List ℕ) (ds : List ℤ) (ms : List ℕ) (p : Place) : Type 0 where
  pub alike : Alike ts vs ds
  pub few : length ts ≤ most_edits
  pub placed : Placed (length ts) p
  pub suffixes : Suffixes ts ms p.at
  pub light : Light (history_of (edits ts vs ds) p)

pub record Turned (es fs : List Edit) (s : Stand) (times firsts seconds : List ℕ) (diffs : List ℤ) (es' fs' : List Edit) (times' firsts' seconds' : List ℕ) (diffs' : List ℤ) (r : Stand) : Type 0 where
  pub first_is : history_of es' r.first ≡ first_after (history_of es s.first) (history_of fs s.second)
  pub second_is : history_of fs' r.second ≡ second_after (history_of es s.first) (history_of fs s.second)
  pub moved : r.first.at + r.second.at ≡ suc (s.first.at + s.second.at)
  pub counted : r.count ≡ s.count + length (turn_emits (history_of es s.first) (history_of fs s.second))
  pub emitted : Emits (turn_emits (history_of es s.first) (history_of fs s.second)) s.count times firsts seconds diffs times' firsts' seconds' diffs'

-- ---- the loop
abbrev pub fresh : Place
fresh = record { count = 0; at = 0 }

pub record Replayed (goal : List Emission) (times firsts seconds : List ℕ) (diffs : List ℤ) (times' firsts' seconds' : List ℕ) (diffs' : List ℤ) (r : ℕ) : Type 0 where
  pub over : most_emissions < r → most_emissions < length goal
  pub counted : r ≤ most_emissions → r ≡ length goal
  pub emitted : r ≤ most_emissions → Emits goal 0 times firsts seconds diffs times' firsts' seconds' diffs'
