-- The lattice of times.
--
-- Below: at or below, as a fact. below_true, true_below: the test and the fact. below_refl, below_trans, below_antisym: it is an order
-- hi_at, lo_at, lo_lt, hi-join, lo-join, hi-meet, lo-meet: the parts of a time. ext: a time is known by them
-- join_upper_l, join-least, join_comm: the join is the least time above both. meet_lower_l, meet_lower_r, meet_greatest: the meet is the greatest below both
-- advance_below, advance_join: joining with m is not seen from a time at or above m, nor by a join with one
-- below_le: at or below gives at most, in ascending order
use Prim.Native.Nat.{ℕ, ◌≤◌, ◌<◌, max, min}
use mathlib.Core.Bool.{true}
use mathlib.Core.Path.{◌≡◌}
use mathlib.Core.Logic.{◌↔◌}
use native.Mathlib.Omega.{arith}
use lib.Dec.{leb}
use borrow.Author.Tests.{leb-true, le-leb}
use Rattle.grid.proofs.Tests.{and_l, and_r, and_i}
use Rattle.grid.specs.Times.{span, hi, lo, at, join, meet, below}

-- s is at or below t, as a fact
pub record Below (s t : ℕ) : Type 0 where
  pub first : hi s ≤ hi t
  pub second : lo s ≤ lo t

pub ext : (s t : ℕ) → hi s ≡ hi t → lo s ≡ lo t → s ≡ t
unfolding hi lo
ext s t p q = omega arith

pub hi_at : (a b : ℕ) → b < span → hi (at a b) ≡ a
unfolding hi at
hi_at a b h = omega arith

pub lo_at : (a b : ℕ) → b < span → lo (at a b) ≡ b
unfolding lo at
lo_at a b h = omega arith

pub lo_lt : (t : ℕ) → lo t < span
unfolding lo
lo_lt t = omega arith

pub hi-join : (s t : ℕ) → hi (join s t) ≡ max (hi s) (hi t)
unfolding join
hi-join s t = hi_at (max (hi s) (hi t)) (max (lo s) (lo t)) (omega (arith, lo_lt s, lo_lt t))

pub lo-join : (s t : ℕ) → lo (join s t) ≡ max (lo s) (lo t)
unfolding join
lo-join s t = lo_at (max (hi s) (hi t)) (max (lo s) (lo t)) (omega (arith, lo_lt s, lo_lt t))

pub hi-meet : (s t : ℕ) → hi (meet s t) ≡ min (hi s) (hi t)
unfolding meet
hi-meet s t = hi_at (min (hi s) (hi t)) (min (lo s) (lo t)) (omega (arith, lo_lt s, lo_lt t))

pub lo-meet : (s t : ℕ) → lo (meet s t) ≡ min (lo s) (lo t)
unfolding meet
lo-meet s t = lo_at (min (hi s) (hi t)) (min (lo s) (lo t)) (omega (arith, lo_lt s, lo_lt t))

-- the join is the least upper bound
pub join_upper_l : (s t : ℕ) → Below s (join s t)
join_upper_l s t = record { first = rw hi-join (omega arith); second = rw lo-join (omega arith) }

pub join-least : (s t u : ℕ) → Below s u → Below t u → Below (join s t) u
join-least s t u p q = record { first = rw hi-join (omega arith); second = rw lo-join (omega arith) }

pub join_comm : (s t : ℕ) → join s t ≡ join t s
join_comm s t = ext (join s t) (join t s) (simp hi-join (omega arith)) (simp lo-join (omega arith))

-- the meet is the greatest lower bound
pub meet_lower_l : (s t : ℕ) → Below (meet s t) s
meet_lower_l s t = record { first = rw hi-meet (omega arith); second = rw lo-meet (omega arith) }

pub meet_lower_r : (s t : ℕ) → Below (meet s t) t
meet_lower_r s t = record { first = rw hi-meet (omega arith); second = rw lo-meet (omega arith) }

pub meet_greatest : (s t u : ℕ) → Below u s → Below u t → Below u (meet s t)
meet_greatest s t u p q = record { first = rw hi-meet (omega arith); second = rw lo-meet (omega arith) }

-- advancing by m is not seen from r at or above m
pub advance_below : (x m r : ℕ) → Below m r → Below x r ↔ Below (join x m) r
advance_below x m r h = (λ p. join-least x m r p h, λ p. record { first = omega (arith, hi-join x m); second = omega (arith, lo-join x m) })

pub advance_join : (x m r : ℕ) → Below m r → join x r ≡ join (join x m) r
advance_join x m r h = ext _ _ (simp hi-join (omega arith)) (simp lo-join (omega arith))

pub below_refl : (t : ℕ) → Below t t
below_refl t = record { first = omega arith; second = omega arith }

pub below_trans : (s t u : ℕ) → Below s t → Below t u → Below s u
below_trans s t u p q = record { first = omega arith; second = omega arith }

pub below_antisym : (s t : ℕ) → Below s t → Below t s → s ≡ t
below_antisym s t p q = ext s t (omega arith) (omega arith)

-- the test and the fact
pub below_true : (s t : ℕ) → below s t ≡ true → Below s t
unfolding below
below_true s t e = record { first = leb-true _ _ (and_l _ _ e); second = leb-true _ _ (and_r (leb (hi s) (hi t)) _ e) }

pub true_below : (s t : ℕ) → Below s t → below s t ≡ true
unfolding below
true_below s t h = and_i _ _ (le-leb _ _ h.first) (le-leb _ _ h.second)

-- the order is ascending: at or below gives at most
pub below_le : (s t : ℕ) → Below s t → s ≤ t
unfolding hi lo
below_le s t h = omega arith
