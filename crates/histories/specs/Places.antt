-- A history and its buffer in one column.
--
-- history_of col p: the history that the column holds at the place p
-- Placed n p: p is a place of a column of n entries
-- Steps pass col p col' r: the entries at the front of what is ahead that pass went to the buffer. What is still ahead stands where it stood
-- StepsOne col p col' r: the same of the next entry alone
use Rattle.std.specs.Prelude.{ℕ, ◌≤◌, Bool, List, ◌≡◌, length, take, drop}
use Rattle.grid.specs.Slices.{laid}
use Rattle.rules.specs.Histories.{History, Edit, stepped, moved}
use Rattle.rules.specs.Wave.{step_one}
use Rattle.histories.specs.declared.Place.{Place}
use Rattle.histories.specs.declared.Stepped.{Stepped}

unfoldable pub history_of : {A : Type 0} → List A → Place → History A
history_of col p = record { ahead = drop p.at col; buffer = take p.count col }

pub record Placed (n : ℕ) (p : Place) : Type 0 where
  pub behind : p.count ≤ p.at
  pub within : p.at ≤ n

pub record Steps {A : Type 0} (pass : A → Bool) (col : List A) (p : Place) (col' : List A) (r : Stepped) : Type 0 where
  pub placed : Placed (length col) r.place
  pub history : history_of col' r.place ≡ stepped pass (history_of col p)
  pub told : r.moved ≡ moved pass (drop p.at col)
  pub holds : col' ≡ laid (stepped pass (history_of col p)).buffer col
  pub same_ahead : drop r.place.at col' ≡ drop r.place.at col

pub record StepsOne (col : List Edit) (p : Place) (col' : List Edit) (r : Place) : Type 0 where
  pub placed : Placed (length col) r
  pub history : history_of col' r ≡ step_one (history_of col p)
  pub holds : col' ≡ laid (step_one (history_of col p)).buffer col
  pub same_ahead : drop r.at col' ≡ drop r.at col
