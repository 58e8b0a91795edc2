-- "Work sizes are published constants": the memory of a call, and all that is lent to it.
--
-- published: how long the work slices must be for every call: the moments of a window, the input, twice
-- heads: how many stretches of equal keys a column has. column_needed, moments_needed, needed: how long they must be for one call
-- memory, lent: the slices of a call as the rules name them
use Rattle.std.specs.Prelude.{ℕ, suc, ◌+◌, ◌*◌, min, max, cond, List, [], ◌∷◌, eqb, ℤ, length}
use Rattle.grid.specs.Records.{Columns, most_records}
use Rattle.rules.specs.Discover.{most_moments}
use Rattle.rules.specs.Memory.{Memory, Sizes, Lent}

abbrev pub published : Sizes
published = record { work = 65537 ∷ 8192 ∷ 8192 ∷ 8192 ∷ 8192 ∷ 8192 ∷ []; work_diffs = 8192 ∷ 8192 ∷ [] }

unfoldable pub heads : List ℕ → ℕ
heads [] = 0
heads (k ∷ []) = 1
heads (k ∷ l ∷ ks) = cond (eqb k l) 0 1 + heads (l ∷ ks)

-- each run counts up to as many records as it may have
unfoldable pub column_needed : ℕ → ℕ → ℕ
column_needed old new = min old most_records + min new most_records

-- a window has at most as many keys as the width, and as there are changed keys
unfoldable pub moments_needed : ℕ → ℕ → List ℕ → List ℕ → ℕ
moments_needed width old new pending = max (column_needed old (length new)) (suc (min (min width 64) (heads new + heads pending) * most_moments))

unfoldable pub needed : Lent → Sizes
needed l =
    let n = column_needed (length l.old.keys) (length l.new.keys) in
    record { work = moments_needed l.width (length l.old.keys) l.new.keys l.pending_keys ∷ n ∷ n ∷ n ∷ n ∷ n ∷ []; work_diffs = n ∷ n ∷ [] }

abbrev pub memory : List ℕ → List ℤ → List ℕ → List ℕ → List ℕ → List ℕ → List ℕ → List ℕ → List ℤ → List ℤ → Memory
memory res rd moments tk tv tt uv ut td ud = record { numbers = res; diffs = rd; work = moments ∷ tk ∷ tv ∷ tt ∷ uv ∷ ut ∷ []; work_diffs = td ∷ ud ∷ [] }

abbrev pub lent : ℕ → ℕ → List ℕ → List ℕ → List ℕ → Columns → Columns → Columns → List ℕ → List ℕ → Memory → Lent
lent mode width lower upper held old new out ks ts m = record {
  mode = mode;
  width = width;
  lower = lower;
  upper = upper;
  held = held;
  old = old;
  new = new;
  out = out;
  pending_keys = ks;
  pending_times = ts;
  memory = m;
}
