-- A key before its first round: its parts of the runs, loaded in ascending order of time and joined with the meet of its moments.
--
-- Timely: edits that ascend by time. LoadsKey: what loading a key asks. LoadedKey: what it leaves
use Rattle.std.specs.Prelude.{ℕ, ◌≤◌, ◌<◌, List, map, ◌≡◌, leb, ℤ, nat_abs, length, take}
use Rattle.std.proofs.Math.Option.{some}
use Rattle.grid.proofs.Sizes.{mass}
use Rattle.grid.proofs.Sort.{Sorted}
use Rattle.rules.specs.Histories.{Edit, time_of, load_edits}
use Rattle.consolidation.specs.Entries.{most_mass}
use Rattle.moments.specs.Present.{edits}
use Rattle.gather.specs.Meets.{meet_of, meets_of}
use Rattle.gather.specs.declared.Loaded.{Loaded}

abbrev pub Timely : List Edit → Type 0
Timely es = Sorted leb (map time_of es)

pub record LoadsKey (moments vs ts : List ℕ) (ds : List ℤ) (ovs ots : List ℕ) (ods : List ℤ) (far xv xt : List ℕ) (xd : List ℤ) (sv st : List ℕ) (sd : List ℤ) (joined places : List ℕ) : Type 0 where
  pub some_moment : 0 < length moments
  pub room_far : length moments ≤ length far
  pub same_t : length ts ≡ length vs
  pub same_d : length ds ≡ length vs
  pub light : mass nat_abs (edits vs ts ds) ≤ most_mass
  pub same_ot : length ots ≡ length ovs
  pub same_od : length ods ≡ length ovs
  pub out_light : mass nat_abs (edits ovs ots ods) ≤ most_mass
  pub same_xt : length xt ≡ length xv
  pub same_xd : length xd ≡ length xv
  pub room_x : length vs ≤ length xv
  pub same_st : length st ≡ length sv
  pub same_sd : length sd ≡ length sv
  pub room_s : length ovs ≤ length sv
  pub room_j : length vs ≤ length joined
  pub room_p : length vs ≤ length places
  pub out_j : length ovs ≤ length joined
  pub out_p : length ovs ≤ length places

-- xs, ss: the columns in which input and output are loaded
pub record LoadedKey (moments : List ℕ) (input output : List Edit) (far : List ℕ) (xs ss : List Edit) (r : Loaded) : Type 0 where
  pub meets_are : take (length moments) far ≡ meets_of moments
  pub input_is : take r.input xs ≡ load_edits (some (meet_of moments)) input
  pub input_few : r.input ≤ length input
  pub input_long : r.input ≤ length xs
  pub input_timely : Timely (take r.input xs)
  pub input_light : mass nat_abs (take r.input xs) ≤ mass nat_abs input
  pub output_is : take r.output ss ≡ load_edits (some (meet_of moments)) output
  pub output_few : r.output ≤ length output
  pub output_long : r.output ≤ length ss
  pub output_timely : Timely (take r.output ss)
  pub output_light : mass nat_abs (take r.output ss) ≤ mass nat_abs output
