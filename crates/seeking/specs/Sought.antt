-- "Changed keys: keys of seeds and pending, ascending, cut into windows of the width": what a window's search and discovery ask, and what they leave.
--
-- found_in: what discover_times finds of a key, from the columns of the runs of a call
-- most: for how many pended times in all there is room, as in finding
-- Seeks: what is asked of the runs. Reached: the keys ascend, and are found from where the searches stand
-- LentSeek: what is asked of the memory in which the call goes on
-- Sought: the searches went on, the moments of each key lie in a row, and its pended times were appended to the next pending list
use Rattle.std.specs.Prelude.{ℕ, ◌+◌, ◌*◌, ◌≤◌, ◌<◌, true, false, List, map, ◌≡◌, leb, ltb, ℤ, length, take}
use Rattle.grid.specs.Lists.{ascending}
use Rattle.grid.specs.Records.{rows, pairs}
use Rattle.grid.proofs.Lists.{All}
use Rattle.grid.proofs.Sort.{Sorted}
use Rattle.rules.specs.Discover.{most_moments, State}
use Rattle.consolidation.specs.Entries.{mass, most_mass}
use Rattle.backends.specs.Columns.{Column}
use Rattle.backends.specs.Segments.{segments, Cut}
use Rattle.keys.specs.Spans.{Reaches, Level}
use Rattle.tallies.specs.Appends.{NextRoom}
use Rattle.searches.specs.Searched.{spans_from, end_from}
use Rattle.finding.specs.Windowed.{spans_in, pended_row, firsts_of, seconds_of, window_over}
use Rattle.finding.specs.Keyed.{found_at}
use Rattle.progress.specs.declared.Progress.{Progress}

abbrev pub found_in : List ℕ → List ℕ → List ℕ → List ℕ → List ℕ → List ℕ → List ℕ → List ℕ → List ℤ → List ℕ → List ℕ → ℕ → State
found_in upper nk nt pk pt ik iv it id ok ot k = found_at upper (pairs nk nt) (pairs pk pt) (rows ik iv it id) (pairs ok ot) k

pub record Seeks (most : ℕ) (nk nt pk pt ik iv it : List ℕ) (id : List ℤ) (ok ot : List ℕ) : Type 0 where
  pub new_level : length nt ≡ length nk
  pub new_few : length nk ≤ most
  pub new_ascends : Sorted leb nk
  pub pending_level : length pt ≡ length pk
  pub pending_few : length pk ≤ most
  pub pending_ascends : Sorted leb pk
  pub in_level : Level ik iv it id
  pub in_few : length ik ≤ most + most
  pub in_ascends : Sorted leb ik
  pub in_light : mass id ≤ most_mass
  pub out_level : length ot ≡ length ok
  pub out_few : length ok ≤ most
  pub out_ascends : Sorted leb ok

pub record Reached (nk pk ik ok keys : List ℕ) (p : Progress) : Type 0 where
  pub ascends : ascending ltb keys ≡ true
  pub new : All (Reaches nk p.new) keys
  pub pending : All (Reaches pk p.pending) keys
  pub input : All (Reaches ik p.input) keys
  pub out : All (Reaches ok p.out) keys

pub record LentSeek (most : ℕ) (keys moments nextkeys nexttimes mends ifrom ito ofrom oto : List ℕ) (p : Progress) : Type 0 where
  pub keys_few : length keys ≤ 64
  pub moments_room : length keys * most_moments < length moments
  pub next_room : NextRoom most p.pended nextkeys nexttimes
  pub mends_room : 64 ≤ length mends
  pub ifrom_room : 64 ≤ length ifrom
  pub ito_room : 64 ≤ length ito
  pub ofrom_room : 64 ≤ length ofrom
  pub oto_room : 64 ≤ length oto

-- found: what is found of each key. The corrections so far are not touched
pub record Sought (most : ℕ) (found : ℕ → State) (nk pk ik ok keys : List ℕ) (p : Progress) (nextkeys nexttimes moments' nextkeys' nexttimes' mends' ifrom' ito' ofrom' oto' : List ℕ) (r : Progress) : Type 0 where
  pub new_is : r.new ≡ end_from nk p.new keys
  pub pending_is : r.pending ≡ end_from pk p.pending keys
  pub input_is : r.input ≡ end_from ik p.input keys
  pub out_is : r.out ≡ end_from ok p.out keys
  pub in_spans : spans_in (take (length keys) ifrom') (take (length keys) ito') ≡ spans_from ik p.input keys
  pub out_spans : spans_in (take (length keys) ofrom') (take (length keys) oto') ≡ spans_from ok p.out keys
  pub over_is : r.over ≡ window_over most p.over p.pended (map found keys)
  pub next_few : r.pended ≤ most
  pub moments_are : r.over ≡ false → segments 0 (take (length keys) mends') moments' ≡ map (λ k. (found k).moments) keys
  pub moments_cut : r.over ≡ false → Cut (λ m. length m ≤ most_moments) moments' 0 (take (length keys) mends')
  pub next_keys : r.over ≡ false → Column nextkeys p.pended (firsts_of (pended_row keys (map found keys))) nextkeys' r.pended
  pub next-times : r.over ≡ false → Column nexttimes p.pended (seconds_of (pended_row keys (map found keys))) nexttimes' r.pended
  pub fixes-same : r.fixes ≡ p.fixes
  pub crossings-same : r.crossings ≡ p.crossings
  pub large_same : r.large ≡ p.large
