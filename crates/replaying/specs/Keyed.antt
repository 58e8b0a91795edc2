-- What the rounds of a key ask before it is loaded: its parts of the runs, and the columns into which it is loaded. most: for how many corrections there is
-- room.
use Rattle.std.specs.Prelude.{ℕ, ◌+◌, ◌*◌, ◌≤◌, ◌^◌, List, ◌≡◌, ℤ, nat_abs, length}
use Rattle.grid.specs.Records.{most_records}
use Rattle.grid.proofs.Sizes.{mass}
use Rattle.rules.specs.Discover.{most_moments}
use Rattle.moments.specs.Present.{edits}

pub record KeyAsks (most : ℕ) (moments vs ts : List ℕ) (ds : List ℤ) (ovs ots : List ℕ) (ods : List ℤ) (far xv xt : List ℕ) (xd : List ℤ) (sv st : List ℕ) (sd : List ℤ) : Type 0 where
  pub few : length moments ≤ most_moments
  pub same_t : length ts ≡ length vs
  pub same_d : length ds ≡ length vs
  pub input_few : length vs ≤ most + most
  pub input_light : mass nat_abs (edits vs ts ds) ≤ 8192 * 2 ^ 31
  pub same_ot : length ots ≡ length ovs
  pub same_od : length ods ≡ length ovs
  pub output_few : length ovs ≤ most
  pub output_light : mass nat_abs (edits ovs ots ods) ≤ most_records * 2 ^ 31
  pub long_far : length far ≡ most_moments
  pub long_xv : length xv ≡ 8192
  pub long_xt : length xt ≡ 8192
  pub long_xd : length xd ≡ 8192
  pub long_sv : length sv ≡ most_records
  pub long_st : length st ≡ most_records
  pub long_sd : length sd ≡ most_records
