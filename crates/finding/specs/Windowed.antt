-- The discovery of a window, from its keys' parts of the runs.
--
-- span_in: the part that two columns tell at a place. state_at: what is found from parts of the runs
-- spans_in, fourfold: the parts that two columns tell, and what is found from four lists of parts
-- moments_of, pended_row: the moments of each key, and the pended times of all, each with its key. firsts_of, seconds_of: the columns of pairs
-- window_over: a limit was passed before, or by a key, or there are too many pended times in all
-- most: for how many pended times in all there is room, as in Tallies
-- LentRuns: what is asked of the runs. LentSpans: four parts lie within their runs
-- Parted: two columns tell n parts of a run. LentWindow: what a window's discovery asks. FindsWindow: what it leaves
use Rattle.std.specs.Prelude.{ℕ, ◌+◌, ◌*◌, ◌≤◌, ◌<◌, Bool, false, ◌||◌, List, [], ◌∷◌, ◌++◌, map, ◌≡◌, ltb, ℤ, length, take, get_or}
use Rattle.grid.specs.Lists.{any, flat}
use Rattle.grid.specs.Slices.{Laid}
use Rattle.grid.proofs.Lists.{All}
use Rattle.rules.specs.Discover.{most_moments, State, discover}
use Rattle.consolidation.specs.Entries.{mass, most_mass}
use Rattle.edits.specs.Edits.{edits, Alike}
use Rattle.backends.specs.Columns.{Column}
use Rattle.backends.specs.Segments.{part, ends, whole}
use Rattle.keys.specs.Spans.{Within}
use Rattle.keys.specs.declared.Span.{Span}
use Rattle.tallies.specs.Appends.{NextRoom}
use Rattle.tallies.specs.declared.Tally.{Tally}

abbrev pub span_in : List ℕ → List ℕ → ℕ → Span
span_in from to b = record { from = get_or from b 0; to = get_or to b 0 }

unfoldable pub state_at : List ℕ → List ℕ → List ℕ → List ℕ → List ℕ → List ℤ → List ℕ → Span → Span → Span → Span → State
state_at upper newtimes pendingtimes intimes invalues indiffs outtimes n p i o =
    discover upper (part n.from n.to newtimes) (part p.from p.to pendingtimes)
    (edits (part i.from i.to intimes) (part i.from i.to invalues) (part i.from i.to indiffs)) (part o.from o.to outtimes)

pub record LentRuns (most : ℕ) (newtimes pendingtimes intimes invalues : List ℕ) (indiffs : List ℤ) (outtimes : List ℕ) : Type 0 where
  pub new_few : length newtimes ≤ most
  pub pending_few : length pendingtimes ≤ most
  pub input_few : length intimes ≤ most + most
  pub input_alike : Alike intimes invalues indiffs
  pub input_light : mass indiffs ≤ most_mass
  pub out_few : length outtimes ≤ most

pub record LentSpans (new : ℕ) (n : Span) (pending : ℕ) (p : Span) (input : ℕ) (i : Span) (out : ℕ) (o : Span) : Type 0 where
  pub new_within : Within new n
  pub pending_within : Within pending p
  pub input_within : Within input i
  pub out_within : Within out o

-- the parts that two columns tell, and what is found from four lists of parts
unfoldable pub spans_in : List ℕ → List ℕ → List Span
spans_in [] ts = []
spans_in (f ∷ fs) [] = []
spans_in (f ∷ fs) (t ∷ ts) = record { from = f; to = t } ∷ spans_in fs ts

unfoldable pub fourfold : (Span → Span → Span → Span → State) → List Span → List Span → List Span → List Span → List State
fourfold f [] ps is os = []
fourfold f (n ∷ ns) [] is os = []
fourfold f (n ∷ ns) (p ∷ ps) [] os = []
fourfold f (n ∷ ns) (p ∷ ps) (i ∷ is) [] = []
fourfold f (n ∷ ns) (p ∷ ps) (i ∷ is) (o ∷ os) = f n p i o ∷ fourfold f ns ps is os

abbrev pub moments_of : List State → List (List ℕ)
moments_of Ds = map (λ (D : State). D.moments) Ds

unfoldable pub pended_row : List ℕ → List State → List (ℕ × ℕ)
pended_row [] Ds = []
pended_row (k ∷ ks) [] = []
pended_row (k ∷ ks) (D ∷ Ds) = map (λ t. (k, t)) D.pended ++ pended_row ks Ds

abbrev pub firsts_of : List (ℕ × ℕ) → List ℕ
firsts_of ps = map (λ p. p.0) ps

abbrev pub seconds_of : List (ℕ × ℕ) → List ℕ
seconds_of ps = map (λ p. p.1) ps

unfoldable pub window_over : ℕ → Bool → ℕ → List State → Bool
window_over most over n Ds = over || (any (λ (D : State). D.over) Ds || ltb most (n + length (flat (λ (D : State). D.pended) Ds)))

-- ---- what the discovery of a window asks, and what it leaves
pub record Parted (n long : ℕ) (from to : List ℕ) : Type 0 where
  pub from_long : length from ≡ n
  pub to_long : length to ≡ n
  pub inside : All (Within long) (spans_in from to)

pub record LentWindow (most : ℕ) (keys moments mends nextkeys nexttimes : List ℕ) (p : Tally) : Type 0 where
  pub keys_few : length keys ≤ 64
  pub none_yet : p.moments ≡ 0
  pub moments_room : length keys * most_moments < length moments
  pub mends_room : length keys ≤ length mends
  pub next_room : NextRoom most p.pended nextkeys nexttimes

pub record FindsWindow (most : ℕ) (keys : List ℕ) (Ds : List State) (p : Tally) (mends nextkeys nexttimes moments' mends' nextkeys' nexttimes' : List ℕ) (r : Tally) : Type 0 where
  pub over_is : r.over ≡ window_over most p.over p.pended Ds
  pub next_few : r.pended ≤ most
  pub row_long : r.over ≡ false → r.moments ≡ length (whole (moments_of Ds))
  pub row_is : r.over ≡ false → take r.moments moments' ≡ whole (moments_of Ds)
  pub ends_are : r.over ≡ false → Laid (ends 0 (moments_of Ds)) mends mends' (length keys)
  pub next_keys : r.over ≡ false → Column nextkeys p.pended (firsts_of (pended_row keys Ds)) nextkeys' r.pended
  pub next-times : r.over ≡ false → Column nexttimes p.pended (seconds_of (pended_row keys Ds)) nexttimes' r.pended
