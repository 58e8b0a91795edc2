-- One step of the wave, as four columns and two histories show it.
--
-- emitted_time, emitted_first, emitted_second, emitted_diff: of an emission
-- Emits es count …: the emissions es were written over four columns from the place `count` on, as far as those go
-- next_of: the edit at a place of a column
-- LentEdit: what the emissions of one edit ask. LentTurn: what a step asks. Turns: what it leaves
use Rattle.std.specs.Prelude.{ℕ, ◌+◌, ◌≤◌, ◌<◌, ◌^◌, List, map, ◌≡◌, ℤ, pos, nat_abs, length, take, drop, get_or}
use Rattle.consolidation.specs.Entries.{mass}
use Rattle.rules.specs.Histories.{Edit}
use Rattle.rules.specs.Wave.{Emission, emission, advanced_by}
use Rattle.histories.specs.declared.Place.{Place}
use Rattle.histories.specs.Places.{history_of, Placed, StepsOne}
use Rattle.histories.specs.Suffixes.{Suffixes}
use Rattle.edits.specs.Edits.{Alike}
use Rattle.edits.specs.Buffers.{no_edit}
use Rattle.emissions.specs.Emissions.{over, most_edits, most_diff}
use Rattle.wave.specs.declared.stepping.Turn.{Turn}

abbrev pub emitted_time : Emission → ℕ
emitted_time e = e.0.0

abbrev pub emitted_first : Emission → ℕ
emitted_first e = e.0.1.0

abbrev pub emitted_second : Emission → ℕ
emitted_second e = e.0.1.1

abbrev pub emitted_diff : Emission → ℤ
emitted_diff e = e.1

pub record Emits (es : List Emission) (count : ℕ) (times firsts seconds : List ℕ) (diffs : List ℤ) (times' firsts' seconds' : List ℕ) (diffs' : List ℤ) : Type 0 where
  pub times_are : times' ≡ over (map emitted_time es) count times
  pub firsts_are : firsts' ≡ over (map emitted_first es) count firsts
  pub seconds_are : seconds' ≡ over (map emitted_second es) count seconds
  pub diffs_are : diffs' ≡ over (map emitted_diff es) count diffs

abbrev pub next_of : List Edit → Place → Edit
next_of es p = get_or es p.at no_edit

pub record LentEdit (ts vs : List ℕ) (ds : List ℤ) (at : ℕ) (us ws : List ℕ) (es : List ℤ) (n count : ℕ) : Type 0 where
  pub alike : Alike ts vs ds
  pub more : at < length ts
  pub small : nat_abs (get_or ds at (pos 0)) ≤ most_diff
  pub other_alike : Alike us ws es
  pub within : n ≤ length us
  pub other_small : mass (take n es) ≤ most_diff
  pub counts : count + n < 2 ^ 63

pub record LentTurn (ts vs : List ℕ) (ds : List ℤ) (ms : List ℕ) (p : Place) (us ws : List ℕ) (es : List ℤ) (q : Place) (count : ℕ) : Type 0 where
  pub alike : Alike ts vs ds
  pub placed : Placed (length ts) p
  pub more : p.at < length ts
  pub suffixes : Suffixes ts ms p.at
  pub small : nat_abs (get_or ds p.at (pos 0)) ≤ most_diff
  pub other_alike : Alike us ws es
  pub other_placed : Placed (length us) q
  pub other_small : mass (take q.count es) ≤ most_diff
  pub counts : count + q.count < 2 ^ 63
  pub other_few : q.count ≤ most_edits

pub record Turns (es : List Edit) (p : Place) (fs : List Edit) (q : Place) (count : ℕ) (times firsts seconds : List ℕ) (diffs : List ℤ) (es' fs' : List Edit) (times' firsts' seconds' : List ℕ) (diffs' : List ℤ) (r : Turn) : Type 0 where
  pub stepped : StepsOne es p es' r.stepped
  pub advanced : history_of fs' r.other ≡ advanced_by (history_of es p) (history_of fs q)
  pub other_placed : Placed (length fs) r.other
  pub other_ahead : drop r.other.at fs' ≡ drop r.other.at fs
  pub counted : r.count ≡ count + length (advanced_by (history_of es p) (history_of fs q)).buffer
  pub emitted : Emits (map (emission (next_of es p)) (advanced_by (history_of es p) (history_of fs q)).buffer) count times firsts seconds diffs times' firsts' seconds' diffs'
