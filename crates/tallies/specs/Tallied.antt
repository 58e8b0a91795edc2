-- What is counted of the keys of a window, one after the other. 18: "for some key: over 1,024 moments … ; or over 4,096 pended in all".
--
-- most_input, most_window: the most records of the input, and the most moments of a window
-- pended_count, moments_count, Counts, Tallied: what is counted of one key. most: for how many pended times in all there is room
use Rattle.std.specs.Prelude.{Option, Some, None, is_none, ℕ, ◌+◌, ◌≤◌, false, ◌||◌, ◌≡◌, ltb}
use Rattle.rules.specs.Discover.{most_moments}
use Rattle.discover.specs.declared.Found.{Found}
use Rattle.tallies.specs.declared.Tally.{Tally}

-- the most records of the input: those of the old run and of the new one
abbrev pub most_input : ℕ
most_input = 8192

-- the most moments of a window
abbrev pub most_window : ℕ
most_window = 65536

-- how many times a key has pended; none where a limit was passed
abbrev pub pended_count : Option Found → ℕ
pended_count None = 0
pended_count (Some f) = f.pended

-- how many moments a key has; none where a limit was passed
abbrev pub moments_count : Option Found → ℕ
moments_count None = 0
moments_count (Some f) = f.moments

pub record Counts (p : Tally) (r : Option Found) : Type 0 where
  pub before_few : p.moments ≤ most_window
  pub found_few : moments_count r ≤ most_moments

pub record Tallied (most : ℕ) (p : Tally) (r : Option Found) (n : ℕ) (q : Tally) : Type 0 where
  pub over_is : q.over ≡ (p.over || (is_none r || ltb most n))
  pub moments_few : q.moments ≤ p.moments + most_moments
  pub pended_few : p.pended ≤ most → q.pended ≤ most
  pub moments_are : q.over ≡ false → q.moments ≡ p.moments + moments_count r
  pub pended_are : q.over ≡ false → (q.pended ≡ n) × (n ≤ most)
