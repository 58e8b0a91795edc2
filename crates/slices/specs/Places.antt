-- Places of a column.
--
-- entry, diff_entry: what a column holds at a place, 0 past its end
-- up_from k n, up_to n: the n places from k on, from 0 on
use Rattle.std.specs.Prelude.{ℕ, zero, suc, List, [], ◌∷◌, ℤ, pos, get_or}

abbrev pub entry : List ℕ → ℕ → ℕ
entry s i = get_or s i 0

abbrev pub diff_entry : List ℤ → ℕ → ℤ
diff_entry s i = get_or s i (pos 0)

unfoldable pub up_from : ℕ → ℕ → List ℕ
up_from k zero = []
up_from k (suc n) = k ∷ up_from (suc k) n

abbrev pub up_to : ℕ → List ℕ
up_to n = up_from 0 n
