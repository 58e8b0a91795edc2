-- The loop that appends edits to columns.
--
-- Laying: the edits before i are written, and end at k. laying_start, laying_more, laying_end: the loop keeps that. in-*: what a turn asks
use Prim.Native.Nat.{ℕ, ◌+◌, ◌<◌, ◌≤◌}
use native.Mathlib.Omega.{arith}
use mathlib.Core.Path.{◌≡◌, sym, ◌∙◌, ap}
use mathlib.Core.List.{List, ◌∷◌}
use lib.IntN.{ℤ, pos}
use lib.ListN.{length, drop, get_or, set, drop_of_length-le}
use Rattle.grid.proofs.Loops.{drop_more}
use Rattle.rules.specs.Histories.{time_of, value_of}
use Rattle.moments.specs.Present.{edits}
use Rattle.rounds.specs.Merges.{Rows, Lays}
use Rattle.moments.proofs.Columns.{e₀, edits-at, edits_long}
use Rattle.rounds.proofs.Listing.{Listing, listing_start, listing_more, listing_end}

pub record Laying (vs ts : List ℕ) (ds : List ℤ) (at : ℕ) (yv₀ yt₀ : List ℕ) (yd₀ : List ℤ) (yv yt : List ℕ) (yd : List ℤ) (i k : ℕ) : Type 0 where
  pub asks : Lays vs ts ds yv₀ yt₀ yd₀ at
  pub within : i ≤ length vs
  pub even : k ≡ at + i
  pub row : Listing yv₀ yt₀ yd₀ at (edits vs ts ds) yv yt yd k (drop i (edits vs ts ds))

pub laying_start : {vs ts : List ℕ} {ds : List ℤ} {yv yt : List ℕ} {yd : List ℤ} {at : ℕ} → Lays vs ts ds yv yt yd at → Laying vs ts ds at yv yt yd yv yt yd 0 at
laying_start {vs} {ts} {ds} {yv} {yt} {yd} {at} a = record { asks = a; within = omega arith; even = omega arith; row = listing_start yv yt yd at (edits vs ts ds) }

module _ {vs ts : List ℕ} {ds : List ℤ} {at : ℕ} {yv₀ yt₀ : List ℕ} {yd₀ : List ℤ} {yv yt : List ℕ} {yd : List ℤ} {i k : ℕ} (m : Laying vs ts ds at yv₀ yt₀ yd₀ yv yt yd i k) where
  module _ (h : i < length vs) where
    pub in_times_lem : i < length ts
    in_times_lem = let e : length ts ≡ length vs = m.asks.same_t in omega arith

    pub in_diffs_lem : i < length ds
    in_diffs_lem = let e : length ds ≡ length vs = m.asks.same_d in omega arith

    room : k < length yv₀
    room = let r : at + length vs ≤ length yv₀ = m.asks.room in let e : k ≡ at + i = m.even in omega arith

    pub in_yv : k < length yv
    in_yv = let r : k < length yv₀ = room in let s : length yv ≡ length yv₀ = m.row.values.same in omega arith

    pub in_yt : k < length yt
    in_yt = let r : k < length yv₀ = room in let s : length yt ≡ length yt₀ = m.row.times.same in let q : length yt₀ ≡ length yv₀ = m.asks.same_yt in omega arith

    pub in_yd : k < length yd
    in_yd = let r : k < length yv₀ = room in let s : length yd ≡ length yd₀ = m.row.diffs.same in let q : length yd₀ ≡ length yv₀ = m.asks.same_yd in omega arith

    pub laying_more : (d : ℤ) → d ≡ get_or ds i (pos 0) → Laying vs ts ds at yv₀ yt₀ yd₀ (set yv k (get_or vs i 0)) (set yt k (get_or ts i 0)) (set yd k d) (i + 1) (k + 1)
    unfolding value_of time_of
    laying_more d q =
        let e : k ≡ at + i = m.even in
        let l : length (edits vs ts ds) ≡ length vs = edits_long vs ts ds m.asks.same_t m.asks.same_d in
        let s : drop i (edits vs ts ds) ≡ ((get_or ts i 0, get_or vs i 0), d) ∷ drop (i + 1) (edits vs ts ds) =
        drop_more (edits vs ts ds) i e₀ (omega arith) ∙ ap (λ z. z ∷ drop (i + 1) (edits vs ts ds)) (edits-at vs ts ds i m.asks.same_t m.asks.same_d h ∙ ap (λ z. ((get_or ts i 0, get_or vs i 0), z)) (sym q)) in
        record {
          asks = m.asks;
          within = omega arith;
          even = omega arith;
          row = listing_more m.row ((get_or ts i 0, get_or vs i 0), d) in_yv in_yt in_yd s;
        }

  pub laying_end : length vs ≤ i → Rows yv₀ yt₀ yd₀ at (edits vs ts ds) yv yt yd k
  laying_end h = let l : length (edits vs ts ds) ≡ length vs = edits_long vs ts ds m.asks.same_t m.asks.same_d in listing_end m.row (drop_of_length-le (edits vs ts ds) {i = i} (omega arith))
