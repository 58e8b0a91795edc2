-- Times that are not seen from a time, and meets that may be absent.
--
-- Unseen t x: x is not at or below t. Under m t: the meet m is there, and at or below t
-- any_unseen, unseen_any, any_below: of a list of times, by the test whether any is at or below t
-- meets_under: the meet of a list is under each of its times. meets_most: and what is under each of them is under it
-- joined-below: joining with a meet is not seen from a time that the meet is under
-- join-above: the join with a time that is not seen ascends
use Prim.Native.Nat.{ℕ, ◌<◌, ◌≤◌}
use mathlib.Core.Bool.{true, false, false≢true}
use mathlib.Core.List.{List, [], ◌∷◌}
use mathlib.Core.Option.{Option, none, some}
use mathlib.Core.Path.{◌≡◌}
use native.Mathlib.Omega.{arith}
use lib.Dec.{ltb}
use borrow.Author.Tests.{ltb-true, ltb-false}
use Rattle.grid.specs.Lists.{any}
use Rattle.grid.specs.Times.{hi, lo, join, meet, below, joined, meet_onto, meets}
use Rattle.grid.proofs.Tests.{by-test, clash, same_test}
use Rattle.grid.proofs.Lists.{All, nil, cons, head, tail, all_imp, none_all, any_none}
use Rattle.grid.proofs.Times.{Below, below_true, true_below, below_le, below_trans, below_refl, join_upper_l, join-least, hi-join, lo-join, meet_lower_l, meet_lower_r, meet_greatest}

abbrev pub Unseen : ℕ → ℕ → Type 0
Unseen t x = Below x t → ⊥

-- the test and the fact
pub same-below : (s t u v : ℕ) → (Below s t → Below u v) → (Below u v → Below s t) → below s t ≡ below u v
same-below s t u v f g = same_test (below s t) (below u v) (λ e. true_below u v (f (below_true s t e))) (λ e. true_below s t (g (below_true u v e)))

pub unseen_false : (t x : ℕ) → Unseen t x → below x t ≡ false
unseen_false t x f = by-test (below x t) (λ e. absurd (f (below_true x t e))) (λ e. e)

pub false_unseen : (t x : ℕ) → below x t ≡ false → Unseen t x
false_unseen t x e h = clash (below x t) (true_below x t h) e

-- and of a list: none of it is seen, or some of it is
pub any_unseen : (t : ℕ) (xs : List ℕ) → any (λ x. below x t) xs ≡ false → All (Unseen t) xs
any_unseen t xs e = all_imp (λ x f. false_unseen t x f) (none_all (λ x. below x t) xs e)

pub unseen_any : (t : ℕ) {xs : List ℕ} → All (Unseen t) xs → any (λ x. below x t) xs ≡ false
unseen_any t {xs} h = any_none (λ x. below x t) xs (all_imp (λ x f. unseen_false t x f) h)

pub any_below : {C : Type 0} (t : ℕ) (xs : List ℕ) → any (λ x. below x t) xs ≡ true → All (λ x. Below x t → C) xs → C
any_below t [] e h = absurd (false≢true e)
any_below t (x ∷ xs) e h = by-test (below x t) (λ c. head h (below_true x t c)) (λ c. any_below t xs (rw c at e) (tail h))

-- what comes later is not seen
pub later_unseen : {t x : ℕ} → t < x → Unseen t x
later_unseen {t} {x} h u = no (below_le x t u)
  where
    no : x ≤ t → ⊥
    no k = omega arith

-- ---- joins
pub join_upper_r : (s t : ℕ) → Below t (join s t)
join_upper_r s t = omega (arith, hi-join s t, lo-join s t)

join_back : (n t : ℕ) → join n t ≤ n → Below t n
unfolding hi lo
join_back n t h = omega (arith, hi-join n t, lo-join n t)

pub join-above : (n t : ℕ) → Unseen n t → n < join n t
join-above n t f = by-test (ltb n (join n t)) (λ e. ltb-true n (join n t) e) (λ e. absurd (f (join_back n t (ltb-false n (join n t) e))))

-- ---- a meet that may be absent
abbrev pub Under : Option ℕ → ℕ → Type 0
Under none t = ⊥
Under (some m) t = Below m t

pub under_trans : (m : Option ℕ) (s t : ℕ) → Under m s → Below s t → Under m t
under_trans none s t a b = a
under_trans (some m) s t a b = below_trans m s t a b

under-meet : (m : Option ℕ) (s t : ℕ) → Under m s → Under m t → Under m (meet s t)
under-meet none s t a b = a
under-meet (some m) s t a b = meet_greatest s t m a b

under_head : (t : ℕ) (o : Option ℕ) → Under (some (meet_onto t o)) t
unfolding meet_onto
under_head t none = below_refl t
under_head t (some m) = meet_lower_l t m

under_more : (t : ℕ) (o : Option ℕ) (x : ℕ) → Under o x → Under (some (meet_onto t o)) x
unfolding meet_onto
under_more t none x h = absurd h
under_more t (some m) x h = below_trans (meet t m) m x (meet_lower_r t m) h

pub meets_under : (ts : List ℕ) → All (λ t. Under (meets ts none) t) ts
unfolding meets
meets_under [] = nil
meets_under (t ∷ ts) = cons (under_head t (meets ts none)) (all_imp (λ x h. under_more t (meets ts none) x h) (meets_under ts))

most_onto : (m o : Option ℕ) (t r : ℕ) → ((x : ℕ) → Under o x → Under m x) → Under m t → Under (some (meet_onto t o)) r → Under m r
unfolding meet_onto
most_onto m none t r f a h = under_trans m t r a h
most_onto m (some k) t r f a h = under_trans m (meet t k) r (under-meet m t k a (f k (below_refl k))) h

pub meets_most : (m : Option ℕ) (ts : List ℕ) → All (λ t. Under m t) ts → (r : ℕ) → Under (meets ts none) r → Under m r
unfolding meets
meets_most m [] a r h = absurd h
meets_most m (t ∷ ts) a r h = most_onto m (meets ts none) t r (meets_most m ts (tail a)) (head a) h

-- ---- joined with a meet
pub joined-below : (m : Option ℕ) (x t : ℕ) → Under m t → below (joined m x) t ≡ below x t
unfolding joined
joined-below none x t h = absurd h
joined-below (some m) x t h = same-below (join m x) t x t (λ u. below_trans x (join m x) t (join_upper_r m x) u) (λ u. join-least m x t h u)

pub joined_unseen : (m : Option ℕ) (x t : ℕ) → Unseen t x → Unseen t (joined m x)
unfolding joined
joined_unseen none x t f u = f u
joined_unseen (some m) x t f u = f (below_trans x (join m x) t (join_upper_r m x) u)

pub joined-under : (m : Option ℕ) (x t : ℕ) → Under m t → Under m (joined m x)
unfolding joined
joined-under none x t h = absurd h
joined-under (some m) x t h = join_upper_l m x
