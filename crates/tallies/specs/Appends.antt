-- "Results: … pending ascending": the next pending list, in a column of keys and one of times. 18: "or over 4,096 pended in all".
--
-- most: for how many entries there is room; 4,096, or fewer where a call is tried in less memory
-- NextRoom most n: the list has n entries, and both columns have room for all that it may have
-- Appends: a key was appended with each of its times, where that does not make too many entries. r tells how many these make
use Rattle.std.specs.Prelude.{ℕ, ◌+◌, ◌≤◌, ◌<◌, List, ◌≡◌, length, replicate}
use Rattle.grid.specs.Records.{most_records}
use Rattle.backends.specs.Columns.{Column}

pub record NextRoom (most n : ℕ) (keys times : List ℕ) : Type 0 where
  pub within : n ≤ most
  pub keys_room : length keys ≡ most
  pub times_room : length times ≡ most
  pub room_few : most ≤ most_records

pub record Appends (most k n : ℕ) (ts keys times keys' times' : List ℕ) (r : ℕ) : Type 0 where
  pub counted : r ≡ n + length ts
  pub keys_are : r ≤ most → Column keys n (replicate (length ts) k) keys' r
  pub times_are : r ≤ most → Column times n ts times' r
  pub full : most < r → (keys' ≡ keys) × (times' ≡ times)
