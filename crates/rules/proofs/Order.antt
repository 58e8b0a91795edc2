-- What the replay of discover_times visits ascends: the four loaded lists and the waiting joins are ascending, so the least head is the least
-- of all that remains, and what stepping moves is all that equals it.
--
-- Rising: ascending, equal times allowed. ascending_rising: what ascends strictly rises
-- front_past, front_past_all: a list is its front part and what is past it. all_front, all_past: what holds of a list holds of both
-- front_passes, front_equal: the front part is what passes, what equals n. past_above, past_edits-above: of a rising list, what is past n is later
-- moved_in: what moves is n
-- Each P s: P holds of each of the five lists that remain. each_remaining, remaining_each: the same of `remaining s`
-- Ordered: the five lists rise. start_ordered: at the start (check 15 for the pending list). step_ordered: after a step
-- seeds_left, input_left, output_left: what a step leaves ahead is what is past n
-- next-over: where there is a next time, no limit was passed. next_head, next_in: the next time is a head, so it remains
-- next-least: it is at most each that remains. next_none: where there is none, nothing remains
-- all_joins, joins_all, made_all: what holds of the joins of n, and of those that a step makes
-- step-remaining, step_back, step-made: what remains after a step, from what remained and what was made, and back
-- made-above, step-above: joins that are made, and all that remains after the step, are later
-- run-keeps: what each step keeps, a run keeps
use Prim.Native.Nat.{ℕ, zero, suc, ◌<◌, ◌≤◌}
use mathlib.Core.Bool.{Bool, true, false, cond, ◌&&◌, not, false≢true}
use mathlib.Core.List.{List, [], ◌∷◌, ◌++◌, map}
use mathlib.Core.Option.{Option, none, some, some-ne-none, none-ne-some, some-injective}
use mathlib.Core.Logic.{⊎_elim}
use mathlib.Core.Path.{◌≡◌, refl}
use native.Mathlib.Omega.{arith}
use lib.Dec.{eqb, ltb, leb}
use lib.ListN.{take}
use borrow.Author.Tests.{eqb-true, eqb-false, ltb-true, ltb-false, leb-true, leb-false, not-true}
use Rattle.grid.specs.Lists.{keep, front, past, insert, sort, ascending}
use Rattle.grid.specs.Times.{join, below, joined, meets, put, puts}
use Rattle.grid.specs.Frontiers.{beyond, short_of}
use Rattle.grid.proofs.Tests.{by-test, clash, and_l, and_r, or_cases}
use Rattle.grid.proofs.Lists.{All, nil, cons, head, tail, all_of, all_imp, all_append, all_l, all_r, all_keep, keep_all, kept_all, all_map, map_all, all_insert, all_put, all_puts, puts_all}
use Rattle.grid.proofs.Consolidate.{Canon, none, more, canon_consolidate, strict_lex, strict_ltb}
use Rattle.grid.proofs.Meets.{Unseen, false_unseen, unseen_false, join-above}
use Rattle.rules.specs.Histories.{Edit, time_of, earlier, joined_edit, load_times, load_edits, stepped, moved}
use Rattle.rules.specs.Discover.{State, start, lesser, least, heads, next, seeds_past, known, is_moment, input_past, output_past, joins, made_of_buffers, made_short, made_beyond, made, waiting_past, acted, remaining, remeet, step, run}

-- ---- ascending lists
pub data Rising : List ℕ → Type 0 where
  empty : Rising []
  then : {x : ℕ} {xs : List ℕ} → All (λ y. x ≤ y) xs → Rising xs → Rising (x ∷ xs)

pub ascending_rising : (xs : List ℕ) → ascending ltb xs ≡ true → Rising xs
ascending_rising [] e = empty
ascending_rising (x ∷ []) e = then nil empty
ascending_rising (x ∷ y ∷ ys) e = go (ascending_rising (y ∷ ys) (and_r (ltb x y) (ascending ltb (y ∷ ys)) e)) (ltb-true x y (and_l (ltb x y) (ascending ltb (y ∷ ys)) e))
  where
    go : Rising (y ∷ ys) → x < y → Rising (x ∷ y ∷ ys)
    go (then a r) l = then {x = x} (cons {x = y} (omega arith) (all_imp (λ z k. omega arith) a)) (then a r)

rising_insert : (x : ℕ) {xs : List ℕ} → Rising xs → Rising (insert leb x xs)
rising_insert x empty = then nil empty
rising_insert x (then {x = y} a r) =
    by-test (leb x y)
    (λ e. let h = leb-true x y e in rw e (then (cons {x = y} h (all_imp (λ z k. omega arith) a)) (then a r)))
    (λ e. let h = leb-false x y e in rw e (then (all_insert leb x (omega arith) a) (rising_insert x r)))

rising_sort : (xs : List ℕ) → Rising (sort leb xs)
rising_sort [] = empty
rising_sort (x ∷ xs) = rising_insert x (rising_sort xs)

rising_put : (t : ℕ) {us : List ℕ} → Rising us → Rising (put t us)
rising_put t empty = then nil empty
rising_put t (then {x = u} a r) =
    by-test (ltb t u)
    (λ e. let h = ltb-true t u e in rw e (then {x = t} (cons {x = u} (omega arith) (all_imp (λ z k. omega arith) a)) (then a r)))
    (λ e. let h = ltb-false t u e in by-test (eqb t u) (λ e'. rw (e, e') (then a r)) (λ e'. rw (e, e') (then (all_put t h a) (rising_put t r))))

rising_puts : (ts : List ℕ) {us : List ℕ} → Rising us → Rising (puts ts us)
rising_puts [] r = r
rising_puts (t ∷ ts) r = rising_put t (rising_puts ts r)

earlier-time : (k l : ℕ × ℕ) → earlier k l ≡ true → k.0 ≤ l.0
earlier-time k l e =
    ⊎_elim (λ t. let h = ltb-true k.0 l.0 t in omega arith)
    (λ t. ltb-false l.0 k.0 (not-true (ltb l.0 k.0) (and_l (not (ltb l.0 k.0)) (ltb k.1 l.1) t)))
    (or_cases (ltb k.0 l.0) (not (ltb l.0 k.0) && ltb k.1 l.1) e)

rising_canon : {es : List Edit} → Canon earlier es → Rising (map time_of es)
unfolding time_of
rising_canon none = empty
rising_canon (more {y = y} z a c) = then (all_map time_of (all_imp (λ (x : Edit) t. earlier-time y.0 x.0 t) a)) (rising_canon c)

-- ---- the front of a list and what is past it
module _ {A : Type 0} (p : A → Bool) where
  pub front_past : (xs : List A) → front p xs ++ past p xs ≡ xs
  front_past [] = refl
  front_past (x ∷ xs) = by-test (p x) (λ e. rw (e, front_past xs)) (λ e. rw e)

  pub front_past_all : {P : A → Type 0} (xs : List A) → All P (front p xs) → All P (past p xs) → All P xs
  front_past_all xs h k = rw (← front_past xs) (all_append h k)

  pub all_front : {P : A → Type 0} {xs : List A} → All P xs → All P (front p xs)
  all_front nil = nil
  all_front (cons {x = x} q h) = by-test (p x) (λ e. rw e (cons q (all_front h))) (λ e. rw e nil)

  pub all_past : {P : A → Type 0} {xs : List A} → All P xs → All P (past p xs)
  all_past nil = nil
  all_past (cons {x = x} q h) = by-test (p x) (λ e. rw e (all_past h)) (λ e. rw e (cons q h))

  pub front_passes : (xs : List A) → All (λ x. p x ≡ true) (front p xs)
  front_passes [] = nil
  front_passes (x ∷ xs) = by-test (p x) (λ e. rw e (cons e (front_passes xs))) (λ e. rw e nil)

pub front_equal : {A : Type 0} (P : ℕ → Type 0) (f : A → ℕ) (n : ℕ) (xs : List A) → P n → All (λ x. P (f x)) (front (λ x. eqb n (f x)) xs)
front_equal P f n xs p = all_imp (λ x e. rw (← eqb-true n (f x) e) p) (front_passes (λ x. eqb n (f x)) xs)

-- what moved is n
pub moved_in : (P : ℕ → Type 0) (n : ℕ) (xs : List ℕ) → moved (eqb n) xs ≡ true → All P xs → P n
unfolding moved
moved_in P n [] e h = absurd (false≢true e)
moved_in P n (x ∷ xs) e h = by-test (eqb n x) (λ q. rw (eqb-true n x q) (head h)) (λ q. absurd (false≢true (rw q at e)))

past_map : {A : Type 0} (f : A → ℕ) (n : ℕ) (xs : List A) → map f (past (λ x. eqb n (f x)) xs) ≡ past (eqb n) (map f xs)
past_map f n [] = refl
past_map f n (x ∷ xs) = by-test (eqb n (f x)) (λ e. rw (e, past_map f n xs)) (λ e. rw e)

rising_past : (n : ℕ) {xs : List ℕ} → Rising xs → Rising (past (eqb n) xs)
rising_past n empty = empty
rising_past n (then {x = x} a r) = by-test (eqb n x) (λ e. rw e (rising_past n r)) (λ e. rw e (then a r))

pub past_above : (n : ℕ) {xs : List ℕ} → Rising xs → All (λ x. n ≤ x) xs → All (λ x. n < x) (past (eqb n) xs)
past_above n empty h = nil
past_above n (then {x = x} a r) h =
    by-test (eqb n x)
    (λ e. rw e (past_above n r (tail h)))
    (λ e. let l = above (head h) e in rw e (cons l (all_imp (λ y k. omega arith) a)))
  where
    above : n ≤ x → eqb n x ≡ false → n < x
    above l e = omega (arith, eqb-false n x e)

pub past_edits-above : (n : ℕ) (es : List Edit) → Rising (map time_of es) → All (λ x. n ≤ x) (map time_of es) → All (λ x. n < x) (map time_of (past (λ e. eqb n (time_of e)) es))
past_edits-above n es r h = rw (past_map time_of n es) (past_above n r h)

take_all : {A : Type 0} {P : A → Type 0} {xs : List A} → All P xs → All P (take 1 xs)
take_all nil = nil
take_all (cons p h) = cons p nil

head_none : {P : ℕ → Type 0} (xs : List ℕ) → All (λ x. ⊥) (take 1 xs) → All P xs
head_none [] h = nil
head_none (x ∷ xs) h = absurd (head h)

head_least : (n : ℕ) {xs : List ℕ} → Rising xs → All (λ x. n ≤ x) (take 1 xs) → All (λ x. n ≤ x) xs
head_least n empty h = nil
head_least n (then {x = x} a r) h = let l = head h in cons l (all_imp (λ y k. omega arith) a)

-- ---- the five lists that remain
pub record Each (P : ℕ → Type 0) (s : State) : Type 0 where
  pub seeds : All P s.seeds.ahead
  pub pending : All P s.pending
  pub input : All P (map time_of s.input.ahead)
  pub output : All P s.output.ahead
  pub waiting : All P s.waiting

module _ {P : ℕ → Type 0} (s : State) where
  pub each_remaining : Each P s → All P (remaining s)
  unfolding remaining
  each_remaining h = all_append h.seeds (all_append h.pending (all_append h.input (all_append h.output h.waiting)))

  pub remaining_each : All P (remaining s) → Each P s
  unfolding remaining
  remaining_each h =
      let pio = all_r s.seeds.ahead (s.pending ++ (map time_of s.input.ahead ++ (s.output.ahead ++ s.waiting))) h in
      let io = all_r s.pending (map time_of s.input.ahead ++ (s.output.ahead ++ s.waiting)) pio in
      let o = all_r (map time_of s.input.ahead) (s.output.ahead ++ s.waiting) io in
      record {
        seeds = all_l s.seeds.ahead _ h;
        pending = all_l s.pending _ pio;
        input = all_l (map time_of s.input.ahead) _ io;
        output = all_l s.output.ahead _ o;
        waiting = all_r s.output.ahead _ o;
      }

pub record Ordered (s : State) : Type 0 where
  pub seeds : Rising s.seeds.ahead
  pub pending : Rising s.pending
  pub input : Rising (map time_of s.input.ahead)
  pub output : Rising s.output.ahead
  pub waiting : Rising s.waiting

pub start_ordered : (seeds pending : List ℕ) (input : List Edit) (output : List ℕ) → Rising pending → Ordered (start seeds pending input output)
unfolding start load_times load_edits
start_ordered seeds pending input output r = record {
  seeds = rising_sort (map (joined none) seeds);
  pending = r;
  input = rising_canon (canon_consolidate (strict_lex strict_ltb strict_ltb) (map (joined_edit (meets (seeds ++ pending) none)) input));
  output = rising_sort (map (joined (meets (seeds ++ pending) none)) output);
  waiting = empty;
}

-- ---- the lists that a step leaves
pub seeds_left : (n : ℕ) (s : State) → (seeds_past n s).ahead ≡ past (eqb n) s.seeds.ahead
unfolding seeds_past stepped
seeds_left n s = by-test (moved (eqb n) s.seeds.ahead) (λ e. rw e) (λ e. rw e)

module _ (upper : List ℕ) (n : ℕ) (s : State) where
  pub input_left : (input_past upper n s).ahead ≡ past (λ e. eqb n (time_of e)) s.input.ahead
  unfolding input_past stepped
  input_left = by-test (is_moment upper n s) (λ e. rw e) (λ e. rw e)

  pub output_left : (output_past upper n s).ahead ≡ past (eqb n) s.output.ahead
  unfolding output_past stepped
  output_left = by-test (is_moment upper n s) (λ e. rw e) (λ e. rw e)

  pub step_ordered : Ordered s → Ordered (step upper n s)
  unfolding step remeet acted waiting_past
  step_ordered o = record {
    seeds = rw (seeds_left n s) (rising_past n o.seeds);
    pending = rising_past n o.pending;
    input = rw (input_left, past_map time_of n s.input.ahead) (rising_past n o.input);
    output = rw output_left (rising_past n o.output);
    waiting = rising_puts (keep (short_of upper) (made upper n s)) (rising_past n o.waiting);
  }

-- ---- the least head
least_none : {P : ℕ → Type 0} (xs : List ℕ) → least xs ≡ none → All P xs
unfolding least
least_none [] e = nil
least_none (t ∷ ts) e = absurd (some-ne-none _ e)

lesser_some : (t k n : ℕ) → lesser t (some k) ≡ n → (n ≤ t) × (n ≤ k)
unfolding lesser
lesser_some t k n e = by-test (ltb k t) (λ l. let q : k ≡ n = rw l at e in omega (arith, ltb-true k t l)) (λ l. let q : t ≡ n = rw l at e in omega (arith, ltb-false k t l))

least_all : (xs : List ℕ) (n : ℕ) → least xs ≡ some n → All (λ x. n ≤ x) xs
unfolding least lesser
least_all [] n e = nil
least_all (t ∷ ts) n e = go (least ts) refl (least_all ts) (some-injective _ _ e)
  where
    go : (o : Option ℕ) → least ts ≡ o → ((k : ℕ) → least ts ≡ some k → All (λ x. k ≤ x) ts) → lesser t (least ts) ≡ n → All (λ x. n ≤ x) (t ∷ ts)
    go none q ih l = let l' : t ≡ n = rw q at l in cons {x = t} (omega arith) (least_none ts q)
    go (some k) q ih l = let r = lesser_some t k n (rw q at l) in cons r.0 (all_imp (λ x h. omega arith) (ih k q))

least_in : (P : ℕ → Type 0) (xs : List ℕ) (n : ℕ) → least xs ≡ some n → All P xs → P n
unfolding least lesser
least_in P [] n e h = absurd (none-ne-some n e)
least_in P (t ∷ ts) n e h = go (least ts) refl (least_in P ts) (some-injective _ _ e)
  where
    go : (o : Option ℕ) → least ts ≡ o → ((k : ℕ) → least ts ≡ some k → All P ts → P k) → lesser t (least ts) ≡ n → P n
    go none q ih l = let l' : t ≡ n = rw q at l in rw (← l') (head h)
    go (some k) q ih l =
        by-test (ltb k t)
        (λ c. let l' : k ≡ n = rw (q, c) at l in rw (← l') (ih k q (tail h)))
        (λ c. let l' : t ≡ n = rw (q, c) at l in rw (← l') (head h))

pub next-over : (s : State) (n : ℕ) → next s ≡ some n → s.over ≡ false
unfolding next
next-over s n e = by-test s.over (λ o. absurd (none-ne-some n (rw o at e))) (λ o. o)

unless_over : (b : Bool) (x y : Option ℕ) → b ≡ false → cond b none x ≡ y → x ≡ y
unless_over true x y e h = clash true refl e
unless_over false x y e h = h

head_next : (s : State) (n : ℕ) → next s ≡ some n → least (heads s) ≡ some n
unfolding next
head_next s n e = unless_over s.over (least (heads s)) (some n) (next-over s n e) e

heads_each : {P : ℕ → Type 0} (s : State) → Each P s → All P (heads s)
unfolding heads
heads_each s h =
    all_append (take_all h.seeds) (all_append (take_all h.pending) (all_append (take_all h.input) (all_append (take_all h.output) (take_all h.waiting))))

pub next_head : (P : ℕ → Type 0) (s : State) (n : ℕ) → next s ≡ some n → All P (heads s) → P n
next_head P s n e h = least_in P (heads s) n (head_next s n e) h

pub next_in : (P : ℕ → Type 0) (s : State) (n : ℕ) → next s ≡ some n → All P (remaining s) → P n
next_in P s n e h = next_head P s n e (heads_each s (remaining_each s h))

-- what the heads tell of their lists
each_head : {P Q : ℕ → Type 0} (s : State) → ((xs : List ℕ) → Rising xs → All P (take 1 xs) → All Q xs) → Ordered s → All P (heads s) → Each Q s
unfolding heads
each_head s f o h =
    let pio = all_r (take 1 s.seeds.ahead) (take 1 s.pending ++ (take 1 (map time_of s.input.ahead) ++ (take 1 s.output.ahead ++ take 1 s.waiting))) h in
    let io = all_r (take 1 s.pending) (take 1 (map time_of s.input.ahead) ++ (take 1 s.output.ahead ++ take 1 s.waiting)) pio in
    let ow = all_r (take 1 (map time_of s.input.ahead)) (take 1 s.output.ahead ++ take 1 s.waiting) io in
    record {
      seeds = f s.seeds.ahead o.seeds (all_l (take 1 s.seeds.ahead) _ h);
      pending = f s.pending o.pending (all_l (take 1 s.pending) _ pio);
      input = f (map time_of s.input.ahead) o.input (all_l (take 1 (map time_of s.input.ahead)) _ io);
      output = f s.output.ahead o.output (all_l (take 1 s.output.ahead) _ ow);
      waiting = f s.waiting o.waiting (all_r (take 1 s.output.ahead) _ ow);
    }

module _ (s : State) (o : Ordered s) where
  pub next-least : (n : ℕ) → next s ≡ some n → All (λ x. n ≤ x) (remaining s)
  next-least n e = each_remaining s (each_head s (λ xs r h. head_least n r h) o (least_all (heads s) n (head_next s n e)))

  -- where there is no next time and no limit was passed, nothing remains
  pub next_none : {P : ℕ → Type 0} → s.over ≡ false → next s ≡ none → All P (remaining s)
  unfolding next
  next_none v e = each_remaining s (each_head s (λ xs r h. head_none xs h) o (least_none (heads s) (unless_over s.over (least (heads s)) none v e)))

-- ---- what is made at n, and what remains after it
module _ {P : ℕ → Type 0} (n : ℕ) where
  pub all_joins : {ts : List ℕ} → All (λ t. Unseen n t → P (join n t)) ts → All P (joins n ts)
  unfolding joins
  all_joins h = all_map (join n) (keep_all (λ t. not (below t n)) (all_imp (λ t f e. f (false_unseen n t (not-true (below t n) e))) h))

  pub joins_all : (ts : List ℕ) → All P (joins n ts) → All (λ t. Unseen n t → P (join n t)) ts
  unfolding joins
  joins_all ts h =
      all_imp (λ t f u. f (rw (unseen_false n t u))) (kept_all (λ t. not (below t n)) ts (map_all (join n) (keep (λ t. not (below t n)) ts) h))

module _ {P : ℕ → Type 0} (upper : List ℕ) (n : ℕ) (s : State) where
  beyond_all : All (λ t. Unseen n t → P (join n t)) (known n s) → All P (made_beyond n s)
  unfolding made_beyond
  beyond_all h = nil

  buffers_all : (is_moment upper n s ≡ true → (t : ℕ) → Unseen n t → P (join n t)) → All P (made_of_buffers upper n s)
  unfolding made_of_buffers
  buffers_all f =
      by-test (is_moment upper n s)
      (λ c. rw c (all_joins n (all_of (f c) (map time_of (input_past upper n s).buffer ++ (output_past upper n s).buffer))))
      (λ c. rw c nil)

  -- a fact of each join that is made: of those with the buffers if n is a moment, and of those with the known times
  pub made_all : (is_moment upper n s ≡ true → (t : ℕ) → Unseen n t → P (join n t)) → All (λ t. Unseen n t → P (join n t)) (known n s) → All P (made upper n s)
  unfolding made made_short
  made_all f h = by-test (beyond upper n) (λ e. rw e (beyond_all h)) (λ e. rw e (all_append (buffers_all f) (all_joins n h)))

  -- what remains after the step: what is past n, and the joins that wait
  step_each : All P (past (eqb n) s.seeds.ahead) → All P (past (eqb n) s.pending) → All P (map time_of (past (λ e. eqb n (time_of e)) s.input.ahead)) → All P (past (eqb n) s.output.ahead) → All P (past (eqb n) s.waiting) → All P (made upper n s) → All P (remaining (step upper n s))
  unfolding step remeet acted waiting_past
  step_each a b c d e h = each_remaining (step upper n s) (record {
    seeds = rw (seeds_left n s) a;
    pending = b;
    input = rw (input_left upper n s) c;
    output = rw (output_left upper n s) d;
    waiting = all_puts (all_keep (short_of upper) h) e;
  })

  pub step-remaining : All P (remaining s) → All P (made upper n s) → All P (remaining (step upper n s))
  step-remaining h k =
      let r = remaining_each s h in
      step_each (all_past (eqb n) r.seeds) (all_past (eqb n) r.pending)
      (all_map time_of (all_past (λ e. eqb n (time_of e)) (map_all time_of s.input.ahead r.input)))
      (all_past (eqb n) r.output) (all_past (eqb n) r.waiting) k

  -- and back: what remained is n, or remains
  pub step_back : All P (remaining (step upper n s)) → P n → All P (remaining s)
  unfolding step remeet acted waiting_past
  step_back h p =
      let r = remaining_each (step upper n s) h in
      each_remaining s (record {
        seeds = front_past_all (eqb n) s.seeds.ahead (front_equal P (λ t. t) n s.seeds.ahead p) (rw (seeds_left n s) at r.seeds);
        pending = front_past_all (eqb n) s.pending (front_equal P (λ t. t) n s.pending p) r.pending;
        input = all_map time_of (front_past_all (λ e. eqb n (time_of e)) s.input.ahead (front_equal P time_of n s.input.ahead p) (map_all time_of (past (λ e. eqb n (time_of e)) s.input.ahead) (rw (input_left upper n s) at r.input)));
        output = front_past_all (eqb n) s.output.ahead (front_equal P (λ t. t) n s.output.ahead p) (rw (output_left upper n s) at r.output);
        waiting = front_past_all (eqb n) s.waiting (front_equal P (λ t. t) n s.waiting p) (puts_all (keep (short_of upper) (made upper n s)) (past (eqb n) s.waiting) r.waiting).1;
      })

  pub step-made : All P (remaining (step upper n s)) → All (λ t. short_of upper t ≡ true → P t) (made upper n s)
  unfolding step remeet acted waiting_past
  step-made h =
      kept_all (short_of upper) (made upper n s) (puts_all (keep (short_of upper) (made upper n s)) (past (eqb n) s.waiting) (remaining_each (step upper n s) h).waiting).0

module _ (upper : List ℕ) (n : ℕ) (s : State) where
  pub made-above : All (λ t. n < t) (made upper n s)
  made-above = made_all upper n s (λ c t u. join-above n t u) (all_of (λ t u. join-above n t u) (known n s))

  pub step-above : Ordered s → next s ≡ some n → All (λ x. n < x) (remaining (step upper n s))
  step-above o e =
      let r = remaining_each s (next-least s o n e) in
      step_each upper n s (past_above n o.seeds r.seeds) (past_above n o.pending r.pending) (past_edits-above n s.input.ahead o.input r.input)
      (past_above n o.output r.output) (past_above n o.waiting r.waiting) made-above

-- ---- runs
-- what each step keeps, a run keeps
pub run-keeps {ℓ} : (Keeps : State → Type ℓ) (upper : List ℕ) → ((s : State) (n : ℕ) → next s ≡ some n → Keeps s → Keeps (step upper n s)) → (k : ℕ) (s : State) → Keeps s → Keeps (run upper k s)
unfolding run
run-keeps Keeps upper f zero s h = h
run-keeps Keeps upper f (suc k) s h = go (next s) refl (run-keeps Keeps upper f k)
  where
    go : (o : Option ℕ) → next s ≡ o → ((t : State) → Keeps t → Keeps (run upper k t)) → Keeps (run upper (suc k) s)
    go none e ih = rw (e, run) h
    go (some n) e ih = rw (e, run) (ih (step upper n s) (f s n e h))
