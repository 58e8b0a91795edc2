-- Edits that are appended to three columns.
--
-- Listing: of the edits of `goal`, `rest` are still to be written. listing_start, listing_more, listing_end: one edit written, all
use Prim.Native.Nat.{ℕ, ◌+◌, ◌<◌}
use mathlib.Core.Path.{◌≡◌, ap}
use mathlib.Core.List.{List, [], ◌∷◌, map}
use lib.IntN.{ℤ}
use lib.ListN.{length, set}
use Rattle.rules.specs.Histories.{Edit, time_of, value_of}
use Rattle.backends.proofs.Columns.{Writing, writing_start, writing_more, writing_end}
use Rattle.rounds.specs.Merges.{Rows}

pub record Listing (yv₀ yt₀ : List ℕ) (yd₀ : List ℤ) (at : ℕ) (goal : List Edit) (yv yt : List ℕ) (yd : List ℤ) (k : ℕ) (rest : List Edit) : Type 0 where
  pub values : Writing yv₀ at (map value_of goal) yv k (map value_of rest)
  pub times : Writing yt₀ at (map time_of goal) yt k (map time_of rest)
  pub diffs : Writing yd₀ at (map (λ (e : Edit). e.1) goal) yd k (map (λ (e : Edit). e.1) rest)

pub listing_start : (yv yt : List ℕ) (yd : List ℤ) (at : ℕ) (goal : List Edit) → Listing yv yt yd at goal yv yt yd at goal
listing_start yv yt yd at goal = record {
  values = writing_start yv at (map value_of goal);
  times = writing_start yt at (map time_of goal);
  diffs = writing_start yd at (map (λ (e : Edit). e.1) goal);
}

module _ {yv₀ yt₀ : List ℕ} {yd₀ : List ℤ} {at : ℕ} {goal : List Edit} {yv yt : List ℕ} {yd : List ℤ} {k : ℕ} {rest : List Edit} (w : Listing yv₀ yt₀ yd₀ at goal yv yt yd k rest) where
  pub listing_more : (x : Edit) {rest' : List Edit} → k < length yv → k < length yt → k < length yd → rest ≡ x ∷ rest'
      → Listing yv₀ yt₀ yd₀ at goal (set yv k (value_of x)) (set yt k (time_of x)) (set yd k x.1) (k + 1) rest'
  listing_more x h g f e = record {
    values = writing_more w.values (value_of x) h (ap (map value_of) e);
    times = writing_more w.times (time_of x) g (ap (map time_of) e);
    diffs = writing_more w.diffs x.1 f (ap (map (λ (e : Edit). e.1)) e);
  }

  pub listing_end : rest ≡ [] → Rows yv₀ yt₀ yd₀ at goal yv yt yd k
  listing_end e = record {
    values = writing_end w.values (ap (map value_of) e);
    times = writing_end w.times (ap (map time_of) e);
    diffs = writing_end w.diffs (ap (map (λ (e : Edit). e.1)) e);
  }
