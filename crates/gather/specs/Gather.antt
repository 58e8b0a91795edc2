-- A key replayed up to a moment: what is ahead of it up to there joins what is held, and all that is held is collapsed: joined with the meet of the
-- moments that are left, and consolidated by (value, time).
--
-- Ascends: edits that ascend by value. up_to t: whether an edit's time is at most t in ascending order
-- gathered t m held ahead: what is held then. ahead t: what is ahead then is `past (up_to t)`
-- Scratch: room for n edits in the columns of work. Moves, Moved: what moving edits to the front asks, and what it leaves
-- Within, WithinDone: what gathering asks where held edits and those ahead are in one and the same columns, and what it leaves. From, FromDone: where
-- those ahead are in columns of their own
-- Dates: what appending a correction as edits asks
use Rattle.std.specs.Prelude.{ℕ, ◌+◌, ◌-◌, ◌≤◌, Bool, List, ◌++◌, map, ◌≡◌, leb, ℤ, nat_abs, length, take, drop}
use Rattle.std.proofs.Math.Option.{some}
use Rattle.grid.specs.Lists.{front, past}
use Rattle.grid.proofs.Sizes.{mass}
use Rattle.grid.proofs.Sort.{Sorted}
use Rattle.rules.specs.Histories.{Edit, time_of, value_of, advance_edits}
use Rattle.consolidation.specs.Entries.{most_mass}
use Rattle.backends.specs.Segments.{part}
use Rattle.moments.specs.Present.{edits}
use Rattle.gather.specs.declared.Held.{Held}

abbrev pub Ascends : List Edit → Type 0
Ascends es = Sorted leb (map value_of es)

abbrev pub up_to : ℕ → Edit → Bool
up_to t e = leb (time_of e) t

abbrev pub gathered : ℕ → ℕ → List Edit → List Edit → List Edit
gathered t m held ahead = advance_edits (some m) (held ++ front (up_to t) ahead)

-- ---- moving
pub record Moves (a e n : ℕ) (xv xt : List ℕ) (xd : List ℤ) : Type 0 where
  pub same_t : length xt ≡ length xv
  pub same_d : length xd ≡ length xv
  pub before : n ≤ a
  pub forth : a ≤ e
  pub within : e ≤ length xv

pub record Moved (a e n : ℕ) (xs xs' : List Edit) (r : ℕ) : Type 0 where
  pub end : r ≡ n + (e - a)
  pub front_is : take r xs' ≡ take n xs ++ part a e xs
  pub past_is : drop e xs' ≡ drop e xs

-- ---- gathering
pub record Scratch (n : ℕ) (places firsts seconds : List ℕ) (sums : List ℤ) : Type 0 where
  pub room_places : n ≤ length places
  pub room_firsts : n ≤ length firsts
  pub room_seconds : n ≤ length seconds
  pub room_sums : n ≤ length sums

pub record Within (a e n : ℕ) (xv xt : List ℕ) (xd : List ℤ) (places firsts seconds : List ℕ) (sums : List ℤ) : Type 0 where
  pub moves : Moves a e n xv xt xd
  pub light : mass nat_abs (take n (edits xv xt xd)) + mass nat_abs (part a e (edits xv xt xd)) ≤ most_mass
  pub scratch : Scratch e places firsts seconds sums

pub record WithinDone (t m a e n : ℕ) (xs xs' : List Edit) (r : Held) : Type 0 where
  pub held_is : take r.count xs' ≡ gathered t m (take n xs) (part a e xs)
  pub held_long : r.count ≤ length xs'
  pub held_ascends : Ascends (take r.count xs')
  pub ahead_is : part r.at e xs' ≡ past (up_to t) (part a e xs)
  pub before : r.count ≤ r.at
  pub forth : r.at ≤ e
  pub light : mass nat_abs (take r.count xs') + mass nat_abs (part r.at e xs') ≤ mass nat_abs (take n xs) + mass nat_abs (part a e xs)

pub record From (a : ℕ) (sv st : List ℕ) (sd : List ℤ) (n : ℕ) (uv ut : List ℕ) (ud : List ℤ) (places firsts seconds : List ℕ) (sums : List ℤ) : Type 0 where
  pub same_st : length st ≡ length sv
  pub same_sd : length sd ≡ length sv
  pub forth : a ≤ length sv
  pub same_t : length ut ≡ length uv
  pub same_d : length ud ≡ length uv
  pub room : n + (length sv - a) ≤ length uv
  pub light : mass nat_abs (take n (edits uv ut ud)) + mass nat_abs (drop a (edits sv st sd)) ≤ most_mass
  pub scratch : Scratch (n + (length sv - a)) places firsts seconds sums

pub record FromDone (t m a : ℕ) (ss : List Edit) (n : ℕ) (us us' : List Edit) (r : Held) : Type 0 where
  pub held_is : take r.count us' ≡ gathered t m (take n us) (drop a ss)
  pub held_long : r.count ≤ length us'
  pub held_ascends : Ascends (take r.count us')
  pub ahead_is : drop r.at ss ≡ past (up_to t) (drop a ss)
  pub forth : r.at ≤ length ss
  pub fewer : r.count + (length ss - r.at) ≤ n + (length ss - a)
  pub light : mass nat_abs (take r.count us') + mass nat_abs (drop r.at ss) ≤ mass nat_abs (take n us) + mass nat_abs (drop a ss)

pub record Dates (cv : List ℕ) (cd : List ℤ) (uv ut : List ℕ) (ud : List ℤ) (at : ℕ) : Type 0 where
  pub same_c : length cd ≡ length cv
  pub same_t : length ut ≡ length uv
  pub same_d : length ud ≡ length uv
  pub room : at + length cv ≤ length uv
