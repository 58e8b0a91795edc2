-- "Round j of a window takes the j-th moment t of each key that has one. A key's input and output (with its corrections so far) are summed over
-- times at or below t; if both are empty the key is skipped. The others cross to the backend together. Crossings counts the rounds in which at
-- least one key crossed." No key's round looks at another key, so a window can be settled key by key.
--
-- Slot: a key of a window: its input, its output, its moments. slots_of: slots of columns
-- slot_rounds: a slot's rounds. rows_in: a round's corrections as records of a key. crossed_in: in which rounds a key crossed
-- window_rows: the corrections of a window, slot by slot. window_crossings: in how many of its rounds some slot crosses
-- rows_too_large most n: whether, beside n corrections so far, these make more than most, or one of them is out of range
use Rattle.std.specs.Prelude.{ℕ, ◌+◌, Bool, ◌||◌, not, List, [], ◌∷◌, map, ltb, length}
use Rattle.grid.specs.Lists.{any, keep, flat}
use Rattle.grid.specs.Records.{Row, in_range}
use Rattle.rules.specs.Histories.{Edit}
use Rattle.rules.specs.Retire.{Round, settle, rounds_of}

pub record Slot : Type 0 where
  pub key : ℕ
  pub input : List Edit
  pub output : List Edit
  pub moments : List ℕ

unfoldable pub slots_of : List ℕ → List (List Edit) → List (List Edit) → List (List ℕ) → List Slot
slots_of [] is os ms = []
slots_of (k ∷ ks) [] os ms = []
slots_of (k ∷ ks) (i ∷ is) [] ms = []
slots_of (k ∷ ks) (i ∷ is) (o ∷ os) [] = []
slots_of (k ∷ ks) (i ∷ is) (o ∷ os) (m ∷ ms) = record { key = k; input = i; output = o; moments = m } ∷ slots_of ks is os ms

unfoldable pub slot_rounds : ℕ → Slot → List Round
slot_rounds mode s = settle mode s.input s.output s.moments

unfoldable pub rows_in : ℕ → Round → List Row
rows_in k r = map (λ p. record { key = k; value = p.0; time = r.time; diff = p.1 }) r.fixes

abbrev pub crossed_in : List Round → List Bool
crossed_in rs = map (λ (r : Round). r.crossed) rs

abbrev pub slot_rows : ℕ → Slot → List Row
slot_rows mode s = flat (rows_in s.key) (slot_rounds mode s)

unfoldable pub window_rows : ℕ → List Slot → List Row
window_rows mode ss = flat (slot_rows mode) ss

unfoldable pub window_crossings : ℕ → List Slot → ℕ
window_crossings mode ss = length (keep (λ b. b) (rounds_of (map (λ s. crossed_in (slot_rounds mode s)) ss)))

unfoldable pub rows_too_large : ℕ → ℕ → List Row → Bool
rows_too_large most n rs = any (λ (r : Row). not (in_range r.diff)) rs || ltb most (n + length rs)
