-- What is seen of a segment that ascends by value: the sum of its first run of equal values, unless that is zero, and what is seen of the rest.
--
-- seen_step: that. shown: the entries that are seen, before they are summed. sorted_drop, sorted_least, over_rest: of ascending columns
use Prim.Native.Nat.{ℕ, zero, suc, ◌<◌, ◌≤◌}
use native.Mathlib.Omega.{arith}
use mathlib.Core.Bool.{Bool, true, cond}
use mathlib.Core.Path.{◌≡◌, sym, ◌∙◌}
use mathlib.Core.List.{List, [], ◌∷◌, map}
use lib.Dec.{ltb, leb, eqb}
use lib.IntN.{ℤ, pos, ◌+ℤ◌, +ℤ_idl}
use lib.ListN.{length, take, drop, get_or}
use lib.Seq.{drop-cons}
use borrow.Author.Tests.{leb-true, le-leb, ltb-true, ltb-false, lt-ltb, eqb-true, eqb-false}
use Rattle.grid.specs.Lists.{keep}
use Rattle.grid.specs.Times.{below}
use Rattle.grid.specs.Consolidate.{unless_zero}
use Rattle.grid.proofs.Tests.{by-test}
use Rattle.grid.proofs.Lists.{All, nil, cons, head, tail, all_imp}
use Rattle.grid.proofs.Sort.{Sorted, none, more}
use Rattle.grid.proofs.Consolidate.{strict_ltb, tally, share_plus, consolidate_ext, zero_share}
use Rattle.grid.proofs.Operations.{no_length}
use Rattle.rules.specs.Histories.{Edit, time_of, value_of}
use Rattle.rules.specs.Backends.{Sums}
use Rattle.rules.specs.Retire.{seen}
use Rattle.backends.specs.Columns.{entries}
use Rattle.backends.proofs.Columns.{less}
use Rattle.backends.proofs.Turns.{Above, least_first}
use Rattle.moments.specs.Present.{edits}
use Rattle.moments.proofs.Summing.{run}

-- ---- ascending columns
pub sorted_drop : (n : ℕ) {l : List ℕ} → Sorted leb l → Sorted leb (drop n l)
sorted_drop zero s = s
sorted_drop (suc n) none = none
sorted_drop (suc n) (more h s) = sorted_drop n s

least : (v : ℕ) (r : List ℕ) → Sorted leb (v ∷ r) → All (λ y. leb v y ≡ true) (v ∷ r)
least v r (more h s) = cons (le-leb v v (omega arith)) h

pub sorted_least : (l : List ℕ) (i : ℕ) → i < length l → Sorted leb l → All (λ y. leb (get_or l i 0) y ≡ true) (drop i l)
sorted_least l i h s =
    let q = drop-cons l i 0 h in
    rw q (least (get_or l i 0) (drop (suc i) l) (rw q at (sorted_drop i s)))

strict : (v x : ℕ) → leb v x ≡ true → (x ≡ v → ⊥) → v < x
strict v x g n = by-test (ltb v x) (λ e. ltb-true v x e) (λ e. absurd (n (let h : v ≤ x = leb-true v x g in omega (arith, ltb-false v x e))))

-- past the run of the least value, all values are above it
pub over_rest : (v : ℕ) {l : List ℕ} → Sorted leb l → All (λ y. leb v y ≡ true) l → All (λ y. ltb v y ≡ true) (drop (run v l) l)
over_rest v none a = nil
over_rest v (more {x = x} h s) a =
    by-test (eqb x v) (λ e. rw e (over_rest v s (tail a)))
    (λ e. let k : v < x = strict v x (head a) (eqb-false x v e) in
    rw e (cons (lt-ltb v x k) (all_imp (λ y t. lt-ltb v y (omega (arith, leb-true x y t))) h)))

-- ---- what is seen, before it is summed
unfoldable pub shown : ℕ → List Edit → Sums
shown t es = map (λ e. (value_of e, e.1)) (keep (λ e. below (time_of e) t) es)

above_shown : (t v : ℕ) (vs ts : List ℕ) (ds : List ℤ) → All (λ y. ltb v y ≡ true) vs → Above v (shown t (edits vs ts ds))
unfolding shown edits time_of value_of
above_shown t v [] ts ds a = nil
above_shown t v (x ∷ vs) [] ds a = nil
above_shown t v (x ∷ vs) (u ∷ ts) [] a = nil
above_shown t v (x ∷ vs) (u ∷ ts) (d ∷ ds) a =
    by-test (below u t) (λ h. rw h (cons (head a) (above_shown t v vs ts ds (tail a)))) (λ h. rw h (above_shown t v vs ts ds (tail a)))

-- the sum of the run of v at times at or below t
abbrev pub run_sum : ℕ → ℕ → List ℕ → List ℕ → List ℤ → ℤ
run_sum t v vs ts ds = tally (λ u. below u t) (entries (take (run v vs) ts) (take (run v vs) ds))

abbrev pub past_run : ℕ → List ℕ → List ℕ → List ℤ → List Edit
past_run v vs ts ds = edits (drop (run v vs) vs) (drop (run v vs) ts) (drop (run v vs) ds)

-- the run's share in a tally
tally_run : (t v : ℕ) (p : ℕ → Bool) (vs ts : List ℕ) (ds : List ℤ) → length ts ≡ length vs → length ds ≡ length vs
    → tally p (shown t (edits vs ts ds)) ≡ cond (p v) (run_sum t v vs ts ds) (pos 0) +ℤ tally p (shown t (past_run v vs ts ds))
unfolding shown edits entries time_of value_of
tally_run t v p [] ts ds a b = zero_share (p v) (pos 0)
tally_run t v p (x ∷ vs) [] ds a b = no_length (length vs) (sym a)
tally_run t v p (x ∷ vs) (u ∷ ts) [] a b = no_length (length vs) (sym b)
tally_run t v p (x ∷ vs) (u ∷ ts) (d ∷ ds) a b =
    let ih = tally_run t v p vs ts ds (less a) (less b) in
    by-test (eqb x v)
    (λ e. by-test (below u t)
    (λ h. rw (e, h, ih, eqb-true x v e) (sym (share_plus (p v) d (run_sum t v vs ts ds) (tally p (shown t (past_run v vs ts ds))))))
    (λ h. rw (e, h, +ℤ_idl (run_sum t v vs ts ds)) ih))
    (λ e. rw e (zero_share (p v) _))

pub seen_step : (t v : ℕ) (vs ts : List ℕ) (ds : List ℤ) → length ts ≡ length vs → length ds ≡ length vs → All (λ y. ltb v y ≡ true) (drop (run v vs) vs)
    → seen t (edits vs ts ds) ≡ unless_zero v (run_sum t v vs ts ds) (seen t (past_run v vs ts ds))
unfolding seen shown
seen_step t v vs ts ds a b o =
    consolidate_ext strict_ltb (shown t (edits vs ts ds)) ((v, run_sum t v vs ts ds) ∷ shown t (past_run v vs ts ds)) (λ p. tally_run t v p vs ts ds a b)
    ∙ least_first v (run_sum t v vs ts ds) (above_shown t v (drop (run v vs) vs) (drop (run v vs) ts) (drop (run v vs) ds) o)
