-- "A record is (key, value, time, diff), diff a nonzero integer from -2^31 to 2^31 inclusive. A run has at most 4,096 records, strictly
-- ascending by (key, value, time)."
--
-- Row: a record (that word is the language's). most_records: in a run
-- rank, rank_before, before: what a run ascends by, and the order
-- in_range: -2^31 to 2^31. good_diff: that, and nonzero. good_run: ascending, with good diffs
-- Columns: a run as it is lent. rows: its records. pairs: two columns, entry by entry
use Rattle.std.specs.Prelude.{ℕ, Bool, ◌&&◌, not, List, [], ◌∷◌, leb, ltb, ℤ, nat_abs}
use Rattle.grid.specs.Lists.{every, ascending}
use Rattle.grid.specs.Consolidate.{is_zero, lex}

pub record Row : Type 0 where
  pub key : ℕ
  pub value : ℕ
  pub time : ℕ
  pub diff : ℤ

abbrev pub most_records : ℕ
most_records = 4096

abbrev pub Rank : Type 0
Rank = ℕ × (ℕ × ℕ)

unfoldable pub rank : Row → Rank
rank r = (r.key, (r.value, r.time))

unfoldable pub rank_before : Rank → Rank → Bool
rank_before = lex ltb (lex ltb ltb)

unfoldable pub before : Row → Row → Bool
before r s = rank_before (rank r) (rank s)

unfoldable pub in_range : ℤ → Bool
in_range d = leb (nat_abs d) 2147483648

unfoldable pub good_diff : ℤ → Bool
good_diff d = in_range d && not (is_zero d)

unfoldable pub good_run : List Row → Bool
good_run rs = ascending before rs && every (λ r. good_diff r.diff) rs

pub record Columns : Type 0 where
  pub keys : List ℕ
  pub values : List ℕ
  pub times : List ℕ
  pub diffs : List ℤ

abbrev pub rows : List ℕ → List ℕ → List ℕ → List ℤ → List Row
rows [] vs ts ds = []
rows (k ∷ ks) [] ts ds = []
rows (k ∷ ks) (v ∷ vs) [] ds = []
rows (k ∷ ks) (v ∷ vs) (t ∷ ts) [] = []
rows (k ∷ ks) (v ∷ vs) (t ∷ ts) (d ∷ ds) = record { key = k; value = v; time = t; diff = d } ∷ rows ks vs ts ds

abbrev pub pairs : List ℕ → List ℕ → List (ℕ × ℕ)
pairs [] ts = []
pairs (k ∷ ks) [] = []
pairs (k ∷ ks) (t ∷ ts) = (k, t) ∷ pairs ks ts
