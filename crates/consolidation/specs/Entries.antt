-- "Consolidate: sort ascending, add the diffs of equal entries, drop zeros", for entries that are lent in three columns.
--
-- Entry: ((first, second), diff). entry_at a b d i: what the columns hold at the place i. entries: all that they hold, in order
-- mass: the sum of the sizes of all diffs, which bounds every sum of them. most_mass: the largest mass
-- sorted_places: the places by which a consolidation goes through its entries. pair_at, same_pair: what is compared there
-- Lent, LentWork, Ready: what a consolidation asks. Stored, Written, Front, WorkAfter: what it leaves
use Rattle.std.specs.Prelude.{ℕ, ◌+◌, ◌≤◌, Bool, ◌&&◌, List, [], ◌∷◌, map, ◌≡◌, eqb, ltb, ℤ, pos, nat_abs, length, take, get_or, set}
use Rattle.grid.specs.Lists.{sort, padded}
use Rattle.grid.specs.Consolidate.{lex, consolidate}
use Rattle.slices.specs.Places.{diff_entry, up_to}
use Rattle.rows.specs.Order.{may_precede}

abbrev pub Entry : Type 0
Entry = (ℕ × ℕ) × ℤ

abbrev pub first : Entry → ℕ
first e = e.0.0

abbrev pub second : Entry → ℕ
second e = e.0.1

abbrev pub diff : Entry → ℤ
diff e = e.1

abbrev pub entry_at : List ℕ → List ℕ → List ℤ → ℕ → Entry
entry_at a b d i = ((get_or a i 0, get_or b i 0), get_or d i (pos 0))

abbrev pub entries : List ℕ → List ℕ → List ℤ → List Entry
entries [] b d = []
entries (x ∷ a) [] d = []
entries (x ∷ a) (y ∷ b) [] = []
entries (x ∷ a) (y ∷ b) (z ∷ d) = ((x, y), z) ∷ entries a b d

abbrev pub consolidated : List Entry → List Entry
consolidated es = consolidate (lex ltb ltb) es

unfoldable pub mass : List ℤ → ℕ
mass [] = 0
mass (d ∷ ds) = nat_abs d + mass ds

-- 2^44: 8,192 diffs of 2^31
abbrev pub most_mass : ℕ
most_mass = 17592186044416

abbrev pub sorted_places : List ℕ → List ℕ → List ℕ
sorted_places a b = sort (may_precede a b [] []) (up_to (length a))

abbrev pub pair_at : List ℕ → List ℕ → ℕ → ℕ × ℕ
pair_at a b i = (get_or a i 0, get_or b i 0)

unfoldable pub same_pair : ℕ × ℕ → ℕ × ℕ → Bool
same_pair p q = eqb p.0 q.0 && eqb p.1 q.1

-- ---- contracts
pub record Lent (a b : List ℕ) (d : List ℤ) : Type 0 where
  pub alike-second : length b ≡ length a
  pub alike-diff : length d ≡ length a
  pub bounded : mass d ≤ most_mass

pub record LentWork (n : ℕ) (places firsts seconds : List ℕ) (diffs : List ℤ) : Type 0 where
  pub room_places : length places ≡ n
  pub room_first : length firsts ≡ n
  pub room_second : length seconds ≡ n
  pub room_diff : length diffs ≡ n

pub record Ready (a b : List ℕ) (d : List ℤ) (places : List ℕ) (firsts seconds : List ℕ) (diffs : List ℤ) : Type 0 where
  pub in_order : sort (may_precede a b [] []) places ≡ places
  pub bounded : mass (map (diff_entry d) places) ≤ most_mass
  pub room_first : length firsts ≡ length places
  pub room_second : length seconds ≡ length places
  pub room_diff : length diffs ≡ length places

-- an entry at k
pub record Stored (p : ℕ × ℕ) (s : ℤ) (k : ℕ) (firsts seconds : List ℕ) (diffs : List ℤ) (firsts' seconds' : List ℕ) (diffs' : List ℤ) : Type 0 where
  pub first_is : firsts' ≡ set firsts k p.0
  pub second_is : seconds' ≡ set seconds k p.1
  pub diff_is : diffs' ≡ set diffs k s

-- entries in the front of three columns of length n
pub record Written (es : List Entry) (n r : ℕ) (firsts seconds : List ℕ) (diffs : List ℤ) : Type 0 where
  pub fits : r ≤ n
  pub firsts_are : take r firsts ≡ map first es
  pub seconds_are : take r seconds ≡ map second es
  pub diffs_are : take r diffs ≡ map diff es
  pub long_first : length firsts ≡ n
  pub long_second : length seconds ≡ n
  pub long_diff : length diffs ≡ n

-- and zeros after them
pub record Front (es : List Entry) (n r : ℕ) (firsts seconds : List ℕ) (diffs : List ℤ) : Type 0 where
  pub count_is : r ≡ length es
  pub firsts_are : firsts ≡ padded 0 n (map first es)
  pub seconds_are : seconds ≡ padded 0 n (map second es)
  pub diffs_are : diffs ≡ padded (pos 0) n (map diff es)

-- the work columns after a consolidation in place
pub record WorkAfter (order a b : List ℕ) (d : List ℤ) (places firsts seconds : List ℕ) (diffs : List ℤ) : Type 0 where
  pub places_are : places ≡ order
  pub firsts_same : firsts ≡ a
  pub seconds_same : seconds ≡ b
  pub diffs-same : diffs ≡ d
