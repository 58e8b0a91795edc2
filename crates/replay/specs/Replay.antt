-- The rounds of a key by a collapsed replay. Of its input a part is held and the rest is ahead, ascending by time, and so of its output; in a round what is
-- ahead up to the moment is gathered into what is held.
--
-- most: for how many corrections there is room
-- Staged: where a key's replay stands in its columns. TurnAsks: what a round asks. TurnTaken: what it leaves. TurnOver: with it the corrections
-- are too large, and what is gathered is held all the same
-- RoundsAsk: what all rounds ask once the key is loaded
use Rattle.std.specs.Prelude.{ℕ, ◌+◌, ◌-◌, ◌*◌, ◌≤◌, ◌^◌, true, false, List, ◌++◌, ◌≡◌, ℤ, nat_abs, length, take, drop}
use Rattle.grid.specs.Lists.{past}
use Rattle.grid.specs.Records.{most_records}
use Rattle.grid.proofs.Sizes.{mass}
use Rattle.rules.specs.Histories.{Edit}
use Rattle.rules.specs.Discover.{most_moments}
use Rattle.rules.specs.Retire.{dated, round_at}
use Rattle.backends.specs.Segments.{part}
use Rattle.moments.specs.Present.{edits}
use Rattle.slots.specs.Slots.{rows_in, rows_too_large}
use Rattle.fixing.specs.Settle.{Listed, LentFixes, LentSums}
use Rattle.fixing.specs.Windows.{LentRounds}
use Rattle.gather.specs.Meets.{meets_of}
use Rattle.gather.specs.Loads.{Timely}
use Rattle.gather.specs.Gather.{up_to, gathered}
use Rattle.replay.specs.declared.Stage.{Stage}

-- xs, us: the columns in which input and output are held, e: how far the input goes, ss: the output that is loaded
pub record Staged (most e : ℕ) (ss xs us : List Edit) (w : Stage) : Type 0 where
  pub before : w.held ≤ w.at
  pub forth : w.at ≤ e
  pub within : e ≤ most + most
  pub input_timely : Timely (part w.at e xs)
  pub input_light : mass nat_abs (take w.held xs) + mass nat_abs (part w.at e xs) ≤ 8192 * 2 ^ 31
  pub out_forth : w.out ≤ length ss
  pub output_timely : Timely (drop w.out ss)
  pub output_few : w.output + (length ss - w.out) ≤ most + w.fixes
  pub output_light : mass nat_abs (take w.output us) + mass nat_abs (drop w.out ss) ≤ (most_records + w.fixes) * 2 ^ 31
  pub fits : w.fixes ≤ most

pub record TurnAsks (most e : ℕ) (sv st : List ℕ) (sd : List ℤ) (xv xt : List ℕ) (xd : List ℤ) (uv ut : List ℕ) (ud : List ℤ) (iv : List ℕ) (id : List ℤ) (ov : List ℕ) (od : List ℤ) (cv : List ℕ) (cd : List ℤ) (fk fv ft : List ℕ) (fd : List ℤ) (w : Stage) : Type 0 where
  pub same_st : length st ≡ length sv
  pub same_sd : length sd ≡ length sv
  pub long_xv : length xv ≡ 8192
  pub long_xt : length xt ≡ 8192
  pub long_xd : length xd ≡ 8192
  pub long_uv : length uv ≡ most + most
  pub long_ut : length ut ≡ most + most
  pub long_ud : length ud ≡ most + most
  pub sums : LentSums most iv ov id od cv cd
  pub lent : LentFixes most fk fv ft fd
  pub room_few : most ≤ most_records
  pub staged : Staged most e (edits sv st sd) (edits xv xt xd) (edits uv ut ud) w

-- t: the moment, m: the meet of the moments that are left
module _ (t m e : ℕ) (xs : List Edit) (w : Stage) where
  abbrev pub input_now : List Edit
  input_now = gathered t m (take w.held xs) (part w.at e xs)

module _ (t m : ℕ) (ss us : List Edit) (w : Stage) where
  abbrev pub output_now : List Edit
  output_now = gathered t m (take w.output us) (drop w.out ss)

pub record TurnTaken (most mode k t m e : ℕ) (ss xs us : List Edit) (w r : Stage) (xs' us' : List Edit) (fk₀ fv₀ ft₀ : List ℕ) (fd₀ : List ℤ) (fk fv ft : List ℕ) (fd : List ℤ) : Type 0 where
  pub crossed_is : r.crossed ≡ (round_at mode (input_now t m e xs w) (output_now t m ss us w) t).crossed
  pub listed : Listed most (rows_in k (round_at mode (input_now t m e xs w) (output_now t m ss us w) t)) w.fixes false r.fixes fk₀ fv₀ ft₀ fd₀ fk fv ft fd
  pub held_is : take r.held xs' ≡ input_now t m e xs w
  pub ahead_is : part r.at e xs' ≡ past (up_to t) (part w.at e xs)
  pub output_is : take r.output us' ≡ output_now t m ss us w ++ dated t (round_at mode (input_now t m e xs w) (output_now t m ss us w) t).fixes
  pub out_is : drop r.out ss ≡ past (up_to t) (drop w.out ss)
  pub staged : Staged most e ss xs' us' r

pub record TurnOver (most mode k t m e : ℕ) (ss xs us : List Edit) (w : Stage) (xs' : List Edit) : Type 0 where
  pub large_is : rows_too_large most w.fixes (rows_in k (round_at mode (input_now t m e xs w) (output_now t m ss us w) t)) ≡ true
  pub crosses : (round_at mode (input_now t m e xs w) (output_now t m ss us w) t).crossed ≡ true
  pub held_is : (n : ℕ) × (take n xs' ≡ input_now t m e xs w)
  pub ahead_is : (n : ℕ) × (part n e xs' ≡ past (up_to t) (part w.at e xs))
  pub out_is : (n : ℕ) × (drop n ss ≡ past (up_to t) (drop w.out ss))

pub record RoundsAsk (most : ℕ) (moments far : List ℕ) (e : ℕ) (sv st : List ℕ) (sd : List ℤ) (xv xt : List ℕ) (xd : List ℤ) (uv ut : List ℕ) (ud : List ℤ) (iv : List ℕ) (id : List ℤ) (ov : List ℕ) (od : List ℤ) (cv : List ℕ) (cd : List ℤ) (marks fk fv ft : List ℕ) (fd : List ℤ) (fixes : ℕ) : Type 0 where
  pub few : length moments ≤ most_moments
  pub room_far : length moments ≤ length far
  pub meets_are : take (length moments) far ≡ meets_of moments
  pub same_st : length st ≡ length sv
  pub same_sd : length sd ≡ length sv
  pub output_few : length sv ≤ most
  pub output_timely : Timely (edits sv st sd)
  pub output_light : mass nat_abs (edits sv st sd) ≤ most_records * 2 ^ 31
  pub long_xv : length xv ≡ 8192
  pub long_xt : length xt ≡ 8192
  pub long_xd : length xd ≡ 8192
  pub input_few : e ≤ most + most
  pub input_timely : Timely (take e (edits xv xt xd))
  pub input_light : mass nat_abs (take e (edits xv xt xd)) ≤ 8192 * 2 ^ 31
  pub memory : LentRounds most uv ut ud iv id ov od cv cd marks fk fv ft fd fixes
