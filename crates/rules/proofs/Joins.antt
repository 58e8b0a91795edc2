-- What becomes of seeds and pending times, the roots, if no limit was passed: their joins short of upper are moments, and those beyond upper
-- are pended. With what Moments.antt shows these are the laws that document 01 states of discover_times.
--
-- join_of t ts: the join of t and ts
-- Covered: some moment is at or below t, and at or above each root that is at or below t
-- found_covered: so it is for each t short of upper that a root is at or below
-- join_moment: the join of any roots is a moment, if it is short of upper. roots_pended: each root beyond upper is pended
-- Lawful: the laws of document 01. discover_lawful: they hold of what discover finds
use Prim.Native.Nat.{ℕ}
use mathlib.Core.Bool.{Bool, true, false, cond, ◌&&◌, ◌||◌, false≢true}
use mathlib.Core.List.{List, [], ◌∷◌, ◌++◌, map}
use mathlib.Core.Option.{none, some}
use mathlib.Core.Path.{◌≡◌, refl}
use lib.Dec.{eqb, ltb, leb}
use lib.IntN.{pos}
use borrow.Author.Tests.{eqb-true, eq-eqb}
use Rattle.grid.specs.Lists.{any, keep, past, ascending}
use Rattle.grid.specs.Times.{join, below, joined, put}
use Rattle.grid.specs.Frontiers.{beyond, short_of}
use Rattle.grid.proofs.Tests.{by-test, clash, and_i, or_false_r, or_l, or_r}
use Rattle.grid.proofs.Lists.{all_at, all_in, All, nil, cons, head, tail, all_imp, all_both, all_append, all_r, sort_all, map_all, put_all, puts_all}
use Rattle.grid.proofs.Times.{Below, below_true, true_below, below_refl, below_trans, below_antisym, join_upper_l, join-least}
use Rattle.grid.proofs.Frontiers.{short_down}
use Rattle.grid.proofs.Meets.{Unseen, false_unseen, any_unseen, unseen_any, under_trans, meets_under, join_upper_r}
use Rattle.rules.specs.Histories.{Edit, time_of, load_times, moved}
use Rattle.rules.specs.Discover.{State, start, next, known, interesting, is_moment, made, made_short, made_of_buffers, pended_past, moments_past, acted, remaining, remeet, step, discover}
use Rattle.rules.proofs.Order.{ascending_rising, seeds_left, Each, remaining_each, front_past_all, front_equal, next_none, joins_all, step_back, step-made, run-keeps}
use Rattle.rules.proofs.Histories.{Downward, IfSeen}
use Rattle.rules.proofs.Walk.{Replayed, start_replayed, step_replayed, under_next, acted_heard}
use Rattle.rules.proofs.Moments.{moments_above, found_listed}
use Rattle.rules.proofs.Fuel.{discover_ends}

-- ---- membership
any_l : (p : ℕ → Bool) (xs ys : List ℕ) → any p xs ≡ true → any p (xs ++ ys) ≡ true
any_l p [] ys e = absurd (false≢true e)
any_l p (x ∷ xs) ys e = by-test (p x) (λ c. or_l (p x) _ c) (λ c. or_r (p x) _ (any_l p xs ys (rw c at e)))

any_r : (p : ℕ → Bool) (xs ys : List ℕ) → any p ys ≡ true → any p (xs ++ ys) ≡ true
any_r p [] ys e = e
any_r p (x ∷ xs) ys e = or_r (p x) _ (any_r p xs ys e)

some_root : (ts : List ℕ) (t : ℕ) → beyond ts t ≡ true → (c : ℕ) × (any (eqb c) ts ≡ true)
unfolding beyond
some_root [] t e = absurd (false≢true e)
some_root (c ∷ ts) t e = (c, or_l (eqb c c) _ (eq-eqb c c refl))

root_beyond : (c t : ℕ) (ts : List ℕ) → any (eqb c) ts ≡ true → Below c t → beyond ts t ≡ true
unfolding beyond
root_beyond c t [] e b = absurd (false≢true e)
root_beyond c t (x ∷ ts) e b =
    by-test (eqb c x) (λ q. or_l (below x t) _ (rw (← eqb-true c x q) (true_below c t b))) (λ q. or_r (below x t) _ (root_beyond c t ts (rw q at e) b))

-- The values and diffs of the output play no part in the replay: any edits of these times will do.
abbrev blank : List ℕ → List Edit
blank ts = map (λ t. ((t, 0), pos 0)) ts

times_blank : (ts : List ℕ) → map time_of (blank ts) ≡ ts
unfolding time_of
times_blank [] = refl
times_blank (t ∷ ts) = rw (times_blank ts)

-- ---- the join of a list of times that is not empty
unfoldable pub join_of : ℕ → List ℕ → ℕ
join_of t [] = t
join_of t (u ∷ us) = join t (join_of u us)

join_of_upper : (t : ℕ) (ts : List ℕ) → All (λ x. Below x (join_of t ts)) (t ∷ ts)
unfolding join_of
join_of_upper t [] = cons (below_refl t) nil
join_of_upper t (u ∷ us) =
    cons (join_upper_l t (join_of u us)) (all_imp (λ x h. below_trans x (join_of u us) (join t (join_of u us)) h (join_upper_r t (join_of u us))) (join_of_upper u us))

join_of_least : (k t : ℕ) (ts : List ℕ) → All (λ x. Below x k) (t ∷ ts) → Below (join_of t ts) k
unfolding join_of
join_of_least k t [] h = head h
join_of_least k t (u ∷ us) h = join-least t (join_of u us) k (head h) (join_of_least k u us (tail h))

-- ---- a moment above all the roots that a time sees
pub record Covered (roots moments : List ℕ) (t : ℕ) : Type 0 where
  pub moment : ℕ
  pub found : any (eqb moment) moments ≡ true
  pub at_or_below : Below moment t
  pub above : All (λ x. Below x t → Below x moment) roots

module _ (upper : List ℕ) where
  abbrev Covers : List ℕ → State → Type 0
  Covers roots s = (t : ℕ) → beyond upper t ≡ false → beyond roots t ≡ true → All (Unseen t) (remaining s) → Covered roots s.moments t

  made-known : {P : ℕ → Type 0} (n : ℕ) (s : State) → beyond upper n ≡ false → All P (made upper n s) → All (λ x. Unseen n x → P (join n x)) (known n s)
  unfolding made made_short
  made-known n s e h = joins_all n (known n s) (all_r (made_of_buffers upper n s) _ (rw e at h))

  -- all that remains has passed t, and n is at or below t
  module _ (seeds pending : List ℕ) (input output : List Edit) (s : State) (n : ℕ) (e : next s ≡ some n) (r : Replayed upper seeds pending input output s)
      (t : ℕ) (short : beyond upper t ≡ false) (touched : beyond (seeds ++ pending) t ≡ true) (passed : All (Unseen t) (remaining (step upper n s))) (b : Below n t) where
    n_short : beyond upper n ≡ false
    n_short = short_down upper n t b short

    -- a known time that t sees, n sees: their join would wait
    known-seen : All (λ x. Below x t → Below x n) (known n s)
    known-seen = all_imp seen (made-known n s n_short (step-made upper n s passed))
      where
        seen : (x : ℕ) → (Unseen n x → short_of upper (join n x) ≡ true → Unseen t (join n x)) → Below x t → Below x n
        seen x f u =
            by-test (below x n) (below_true x n)
            (λ c. let j = join-least n x t b u in absurd (f (false_unseen n x c) (rw (short_down upper (join n x) t j short)) j))

    left : Each (Unseen t) (step upper n s)
    left = remaining_each (step upper n s) passed

    roots_seen : {C : ℕ → Type 0} → Downward C → All (IfSeen t C) (known n s) → All (IfSeen t C) (seeds ++ pending)
    unfolding step remeet acted known
    roots_seen d h =
        (acted_heard upper seeds pending input output n s r.heard).touching d t (under_trans s.m n t (under_next upper seeds pending input output n s r e) b) h
        (all_imp (λ x f u. absurd (f u)) left.seeds) (all_imp (λ x f u. absurd (f u)) left.pending)

    -- were n not interesting, t would see no root
    n_interesting : interesting n s ≡ true
    unfolding interesting beyond
    n_interesting =
        by-test (interesting n s) (λ c. c)
        (λ c. let unknown = any_unseen n (known n s) (or_false_r (moved (eqb n) s.seeds.ahead || (moved (eqb n) s.pending || moved (eqb n) s.waiting)) _ c) in
        let none-root = roots_seen (record { down = λ x y l h. h }) (all_imp (λ x h u. h.1 (h.0 u)) (all_both known-seen unknown)) in
        clash (beyond (seeds ++ pending) t) touched (unseen_any t none-root))

    n_moment : is_moment upper n s ≡ true
    unfolding is_moment
    n_moment = and_i (interesting n s) (short_of upper n) n_interesting (rw n_short)

    n_found : any (eqb n) (step upper n s).moments ≡ true
    unfolding step remeet acted moments_past
    n_found = rw n_moment (any_r (eqb n) s.moments (n ∷ []) (or_l (eqb n n) false (eq-eqb n n refl)))

    covered : Covered (seeds ++ pending) (step upper n s).moments t
    covered = record { moment = n; found = n_found; at_or_below = b; above = roots_seen (record { down = λ x y l h. below_trans x y n l h }) known-seen }

  moments_stay : (k n : ℕ) (s : State) → any (eqb k) s.moments ≡ true → any (eqb k) (step upper n s).moments ≡ true
  unfolding step remeet acted moments_past
  moments_stay k n s h = by-test (is_moment upper n s) (λ c. rw c (any_l (eqb k) s.moments (n ∷ []) h)) (λ c. rw c h)

  step_covers : (seeds pending : List ℕ) (input output : List Edit) (s : State) (n : ℕ) → next s ≡ some n → Replayed upper seeds pending input output s → Covers (seeds ++ pending) s → Covers (seeds ++ pending) (step upper n s)
  step_covers seeds pending input output s n e r J t short touched passed =
      by-test (below n t)
      (λ c. covered seeds pending input output s n e r t short touched passed (below_true n t c))
      (λ c. let k = J t short touched (step_back upper n s passed (false_unseen t n c)) in
      record { moment = k.moment; found = moments_stay k.moment n s k.found; at_or_below = k.at_or_below; above = k.above })

  -- ---- roots beyond upper
  -- a root beyond upper is ahead or pended
  abbrev Kept : List ℕ → State → Type 1
  Kept roots s = (Q : ℕ → Type 0) → All Q s.seeds.ahead → All Q s.pending → All Q s.pended → All (λ x. beyond upper x ≡ true → Q x) roots

  module _ (roots : List ℕ) (s : State) (n : ℕ) (I : Kept roots s) (Q : ℕ → Type 0) (pended : All Q (step upper n s).pended) where
    abbrev Far : ℕ → Type 0
    Far x = beyond upper x ≡ true → Q x

    older : All Q (cond (beyond upper n && interesting n s) (put n s.pended) s.pended)
    unfolding step remeet acted pended_past
    older = (puts_all (keep (beyond upper) (made upper n s)) _ pended).1

    older_pended : All Q s.pended
    older_pended = by-test (beyond upper n && interesting n s) (λ c. (put_all n s.pended (rw c at older)).1) (λ c. rw c at older)

    interesting_pended : interesting n s ≡ true → Far n
    interesting_pended c d = (put_all n s.pended (rw (and_i (beyond upper n) (interesting n s) d c) at older)).0

    whole_list : (xs : List ℕ) → (moved (eqb n) xs ≡ true → interesting n s ≡ true) → All Q (past (eqb n) xs) → All Far xs
    unfolding moved
    whole_list [] f h = nil
    whole_list (x ∷ xs) f h =
        by-test (eqb n x)
        (λ c. let far : Far n = interesting_pended (f (rw c)) in
        front_past_all (eqb n) (x ∷ xs) (front_equal Far (λ t. t) n (x ∷ xs) far) (all_imp (λ y q d. q) h))
        (λ c. let k : All Q (x ∷ xs) = rw c at h in all_imp (λ y q d. q) k)

    step_kept : All Q (step upper n s).seeds.ahead → All Q (step upper n s).pending → All Far roots
    unfolding step remeet acted interesting
    step_kept a b =
        all_imp (λ x f d. f d d)
        (I Far
        (whole_list s.seeds.ahead (λ c. or_l _ _ (or_l (moved (eqb n) s.seeds.ahead) _ c)) (rw (seeds_left n s) at a))
        (whole_list s.pending (λ c. or_l _ _ (or_r (moved (eqb n) s.seeds.ahead) _ (or_l (moved (eqb n) s.pending) _ c))) b)
        (all_imp (λ x q d. q) older_pended))

  -- ---- the whole replay; the pending list ascends by check 15
  module _ (seeds pending : List ℕ) (input : List Edit) (output : List ℕ) (rises : ascending ltb pending ≡ true) where
    abbrev found : State
    found = discover upper seeds pending input output

    loaded_back : {P : ℕ → Type 0} → All P (load_times none seeds) → All P pending → All P (seeds ++ pending)
    unfolding load_times joined
    loaded_back a b = all_append (map_all (joined none) seeds (sort_all leb (map (joined none) seeds) a)) b

    start_covers : Covers (seeds ++ pending) (start seeds pending input output)
    unfolding start beyond
    start_covers t short touched passed =
        let h = remaining_each (start seeds pending input output) passed in
        clash (beyond (seeds ++ pending) t) touched (unseen_any t (loaded_back h.seeds h.pending))

    start-known : (c : ℕ) → any (eqb c) (seeds ++ pending) ≡ true → Replayed upper seeds pending input (blank output) (start seeds pending input output)
    start-known c e =
        rw (times_blank output) at (start_replayed upper seeds pending input (blank output) c (all_at c (seeds ++ pending) (meets_under (seeds ++ pending)) e) (ascending_rising pending rises))

    found_covers : (c : ℕ) → any (eqb c) (seeds ++ pending) ≡ true → Covers (seeds ++ pending) found
    unfolding discover
    found_covers c e =
        (run-keeps (λ s. Replayed upper seeds pending input (blank output) s × Covers (seeds ++ pending) s) upper
        (λ s n q h. (step_replayed upper seeds pending input (blank output) n s h.0 q, step_covers seeds pending input (blank output) s n q h.0 h.1)) _
        (start seeds pending input output) (start-known c e, start_covers)).1

    found_kept : Kept (seeds ++ pending) found
    unfolding discover start
    found_kept =
        run-keeps (Kept (seeds ++ pending)) upper (λ s n q I Q a b h. step_kept (seeds ++ pending) s n I Q h a b) _ (start seeds pending input output)
        (λ Q a b h. all_imp (λ x q d. q) (loaded_back a b))

    module _ (whole : (discover upper seeds pending input output).over ≡ false) where
      nothing_left : {P : ℕ → Type 0} → All P (remaining found)
      nothing_left = next_none found (found_listed upper seeds pending input output rises).ordered whole (discover_ends upper seeds pending input output)

      pub found_covered : (t : ℕ) → beyond upper t ≡ false → beyond (seeds ++ pending) t ≡ true → Covered (seeds ++ pending) (discover upper seeds pending input output).moments t
      found_covered t short touched = let c = some_root (seeds ++ pending) t touched in found_covers c.0 c.1 t short touched nothing_left

      pub join_moment : (t : ℕ) (ts : List ℕ) → All (λ x. any (eqb x) (seeds ++ pending) ≡ true) (t ∷ ts) → beyond upper (join_of t ts) ≡ false → any (eqb (join_of t ts)) (discover upper seeds pending input output).moments ≡ true
      join_moment t ts h short = rw (← below_antisym k.moment (join_of t ts) k.at_or_below upward) k.found
        where
          k : Covered (seeds ++ pending) found.moments (join_of t ts)
          k = found_covered (join_of t ts) short (root_beyond t (join_of t ts) (seeds ++ pending) (head h) (head (join_of_upper t ts)))

          upward : Below (join_of t ts) k.moment
          upward = join_of_least k.moment t ts (all_imp (λ x p. all_at x (seeds ++ pending) k.above p.0 p.1) (all_both h (join_of_upper t ts)))

      pub roots_pended : All (λ x. beyond upper x ≡ true → any (eqb x) (discover upper seeds pending input output).pended ≡ true) (seeds ++ pending)
      roots_pended =
          let h = remaining_each found nothing_left in
          found_kept (λ x. any (eqb x) found.pended ≡ true) h.seeds h.pending (all_in found.pended)

-- "Laws over these rules: moments strictly ascend and are short of upper; each is at or above a seed or pending time; each join of seeds and
-- pending short of upper is a moment; pended times are beyond upper, and each seed or pending time beyond upper is among them."
pub record Lawful (upper seeds pending : List ℕ) (s : State) : Type 0 where
  pub moments_ascend : ascending ltb s.moments ≡ true
  pub moments_short : All (λ t. beyond upper t ≡ false) s.moments
  pub moments_above : All (λ t. beyond (seeds ++ pending) t ≡ true) s.moments
  pub joins_moments : (t : ℕ) (ts : List ℕ) → All (λ x. any (eqb x) (seeds ++ pending) ≡ true) (t ∷ ts) → beyond upper (join_of t ts) ≡ false → any (eqb (join_of t ts)) s.moments ≡ true
  pub pended_ascend : ascending ltb s.pended ≡ true
  pub pended_beyond : All (λ t. beyond upper t ≡ true) s.pended
  pub roots_pended : All (λ x. beyond upper x ≡ true → any (eqb x) s.pended ≡ true) (seeds ++ pending)

pub discover_lawful : (upper seeds pending : List ℕ) (input : List Edit) (output : List ℕ) → ascending ltb pending ≡ true → (discover upper seeds pending input output).over ≡ false → Lawful upper seeds pending (discover upper seeds pending input output)
discover_lawful upper seeds pending input output rises whole =
    let l = found_listed upper seeds pending input output rises in
    record {
      moments_ascend = l.moments_ascend;
      moments_short = l.moments_short;
      moments_above = moments_above upper seeds pending input output;
      joins_moments = join_moment upper seeds pending input output rises whole;
      pended_ascend = l.pended_ascend;
      pended_beyond = l.pended_beyond;
      roots_pended = roots_pended upper seeds pending input output rises whole;
    }
