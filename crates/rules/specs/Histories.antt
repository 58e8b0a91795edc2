-- "TimeHistory. Load joins each time with a given one, if any, and sorts; each entry carries the meet of itself and all later ones.
-- Stepping moves times equal to a given one into the buffer and says whether any moved. Advancing joins the buffer with a time, sorts,
-- removes equals."
-- "ValueHistory. The same with values and diffs; edits of one value are consolidated at load, after the join, and the buffer when
-- advanced, so entries can cancel."
--
-- History: what is ahead, ascending by time, and the buffer of what was replayed; of times (TimeHistory) or of edits (ValueHistory)
-- Edit: ((time, value), diff). time_of, value_of: its parts
-- earlier, by_value: ascending by (time, value), as a history; by (value, time), as a buffer
-- load_times, load_edits: what is ahead after a load. loaded: a history with nothing replayed
-- suffix_meets: of each entry and all later ones
-- stepped p h: the entries at the front of what is ahead that pass p, moved to the end of the buffer. moved p h: whether any does
-- advance_times, advance_edits: a buffer advanced by a meet, which may be absent
use Rattle.std.specs.Prelude.{ℕ, Bool, not, List, [], ◌∷◌, ◌++◌, map, leb, ltb, ℤ}
use Rattle.std.proofs.Math.Option.{Option, none, some}
use Rattle.grid.specs.Lists.{front, past, is_empty, sort}
use Rattle.grid.specs.Times.{join, joined, meet_onto, meets, puts}
use Rattle.grid.specs.Consolidate.{lex, consolidate}

pub record History (A : Type 0) : Type 0 where
  pub ahead : List A
  pub buffer : List A

abbrev pub Edit : Type 0
Edit = (ℕ × ℕ) × ℤ

abbrev pub TimeHistory : Type 0
TimeHistory = History ℕ

abbrev pub ValueHistory : Type 0
ValueHistory = History Edit

unfoldable pub time_of : Edit → ℕ
time_of e = e.0.0

unfoldable pub value_of : Edit → ℕ
value_of e = e.0.1

abbrev pub earlier : ℕ × ℕ → ℕ × ℕ → Bool
earlier = lex ltb ltb

abbrev pub by_value : ℕ × ℕ → ℕ × ℕ → Bool
by_value k l = lex ltb ltb (k.1, k.0) (l.1, l.0)

-- ---- load
unfoldable pub load_times : Option ℕ → List ℕ → List ℕ
load_times m ts = sort leb (map (joined m) ts)

unfoldable pub joined_edit : Option ℕ → Edit → Edit
joined_edit m e = ((joined m e.0.0, e.0.1), e.1)

unfoldable pub load_edits : Option ℕ → List Edit → List Edit
load_edits m es = consolidate earlier (map (joined_edit m) es)

abbrev pub loaded : {A : Type 0} → List A → History A
loaded xs = record { ahead = xs; buffer = [] }

unfoldable pub suffix_meets : List ℕ → List ℕ
suffix_meets [] = []
suffix_meets (t ∷ ts) = meet_onto t (meets ts none) ∷ suffix_meets ts

-- ---- step
unfoldable pub stepped : {A : Type 0} → (A → Bool) → History A → History A
stepped p h = record { ahead = past p h.ahead; buffer = h.buffer ++ front p h.ahead }

unfoldable pub moved : {A : Type 0} → (A → Bool) → List A → Bool
moved p xs = not (is_empty (front p xs))

-- ---- advance
unfoldable pub advance_times : Option ℕ → List ℕ → List ℕ
advance_times none b = b
advance_times (some m) b = puts (map (join m) b) []

unfoldable pub advance_edits : Option ℕ → List Edit → List Edit
advance_edits none b = b
advance_edits (some m) b = consolidate by_value (map (joined_edit (some m)) b)
