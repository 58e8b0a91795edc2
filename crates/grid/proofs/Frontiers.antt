-- Frontiers: what is at or above a time beyond one is beyond it; inserting a time keeps an antichain one, and adds what is at or above the
-- time; the minimal times of a list.
--
-- beyond_up, short_down: beyond goes up, short of goes down
-- each_beyond: a list's own times are beyond it
-- Apart, Antichain: strictly ascending and pairwise incomparable, as a fact. antichain_true, true_antichain: the test and the fact
-- inserted-antichain, inserted-beyond, inserted_all, inserted-length: t inserted into an antichain f gives one; beyond it is what is at or above
-- t or beyond f; what holds of t and f's times holds of its times; it is at most one longer. The same of all_inserted
-- antichain_ext: an antichain is known by what is beyond it
-- minimal-antichain, minimal-beyond, minimal_from, minimal_covers: the minimal times of a list are an antichain; beyond them is what is beyond
-- the list; each is one of the list; each of the list is beyond them
-- minimal_only, minimal_exactly: no other antichain is like that; a time is one of them exactly if it is one of the list with no other of the
-- list at or below it
use Prim.Native.Nat.{ℕ, suc, ◌+◌, ◌≤◌, ◌<◌}
use mathlib.Core.Bool.{Bool, true, false, ◌&&◌, ◌||◌, not}
use mathlib.Core.List.{List, [], ◌∷◌}
use mathlib.Core.Path.{◌≡◌, refl, sym, ◌∙◌, ap, ap₂}
use native.Mathlib.Omega.{arith}
use lib.Dec.{eqb, ltb}
use lib.ListN.{length}
use borrow.Author.Tests.{eqb-true, eqb-false, eq-eqb, ltb-true, ltb-false, lt-ltb, not-true}
use Rattle.grid.specs.Lists.{any, every, keep}
use Rattle.grid.specs.Times.{below, put}
use Rattle.grid.specs.Frontiers.{beyond, comparable, antichain, inserted, all_inserted, minimal}
use Rattle.grid.proofs.Tests.{by-test, clash, same_test, and_l, and_r, and_i, or_l, or_r, or_false_l, or_false_r}
use Rattle.grid.proofs.Lists.{All, nil, cons, head, tail, all_of, all_imp, all_at, every_all, all_every, keep_length, all_keep, kept_all, keep_all, all_put, put_all, all_both, none_all, any_none}
use Rattle.grid.proofs.Operations.{put-length}
use Rattle.grid.proofs.Times.{Below, below_true, true_below, below_trans, below_refl, below_antisym, below_le}

pub short_down : (f : List ℕ) (s t : ℕ) → Below s t → beyond f t ≡ false → beyond f s ≡ false
unfolding beyond
short_down f s t h e =
    any_none (λ u. below u s) f
    (all_imp (λ u n. by-test (below u s) (λ b. clash (below u t) (true_below u t (below_trans u s t (below_true u s b) h)) n) (λ b. b)) (none_all (λ u. below u t) f e))

pub beyond_up : (f : List ℕ) (s t : ℕ) → Below s t → beyond f s ≡ true → beyond f t ≡ true
beyond_up f s t h e = by-test (beyond f t) (λ b. b) (λ b. clash (beyond f s) e (short_down f s t h b))

-- ---- a list's own times
-- a reflexive test of an element and some element
each_any : {A : Type 0} (p : A → A → Bool) → ((x : A) → p x x ≡ true) → (xs : List A) → All (λ x. any (p x) xs ≡ true) xs
each_any p r [] = nil
each_any p r (x ∷ xs) = cons (or_l (p x x) _ (r x)) (all_imp (λ y e. or_r (p y x) (any (p y) xs) e) (each_any p r xs))

pub each_beyond : (f : List ℕ) → All (λ t. beyond f t ≡ true) f
unfolding beyond
each_beyond f = each_any (λ t u. below u t) (λ t. true_below t t (below_refl t)) f

-- ---- antichains
-- s is before t, and not at or below it (so t is not at or below s either)
pub record Apart (s t : ℕ) : Type 0 where
  pub earlier : s < t
  pub not-below : below s t ≡ false

pub data Antichain : List ℕ → Type 0 where
  none : Antichain []
  more : {t : ℕ} {ts : List ℕ} → All (Apart t) ts → Antichain ts → Antichain (t ∷ ts)

not-above : (s t : ℕ) → s < t → below t s ≡ false
not-above s t h = by-test (below t s) (λ b. absurd (omega (arith, below_le t s (below_true t s b)))) (λ b. b)

pub antichain_true : (f : List ℕ) → antichain f ≡ true → Antichain f
unfolding antichain comparable
antichain_true [] e = none
antichain_true (t ∷ ts) e =
    more (all_imp (λ u k. record { earlier = ltb-true t u (and_l (ltb t u) _ k); not-below = or_false_l (below t u) _ (not-true _ (and_r (ltb t u) _ k)) }) (every_all _ ts (and_l _ _ e)))
    (antichain_true ts (and_r (every _ ts) (antichain ts) e))

pub true_antichain : {f : List ℕ} → Antichain f → antichain f ≡ true
unfolding antichain comparable
true_antichain none = refl
true_antichain (more {t = t} {ts = ts} a h) =
    and_i _ _ (all_every _ (all_imp (λ u k. and_i (ltb t u) _ (lt-ltb t u k.earlier) (rw (k.not-below, not-above t u k.earlier))) a)) (true_antichain h)

-- a time of an antichain has no other at or below it
antichain_alone : (t : ℕ) {f : List ℕ} → Antichain f → any (eqb t) f ≡ true → All (λ s. below s t ≡ true → s ≡ t) f
antichain_alone t none e = nil
antichain_alone t (more {t = u} {ts = us} a h) e =
    by-test (eqb t u)
    (λ b. let q = eqb-true t u b in cons (λ _. sym q) (all_imp (λ s k c. absurd (omega (arith, k.earlier, below_le s t (below_true s t c)))) a))
    (λ b. let k : any (eqb t) us ≡ true = rw b at e in cons (λ c. clash (below u t) c (all_at t us a k).not-below) (antichain_alone t h k))

antichain-least : (s t : ℕ) {f : List ℕ} → Antichain f → any (eqb t) f ≡ true → beyond f s ≡ true → Below s t → s ≡ t
unfolding beyond
antichain-least s t {f} h e c b =
    by-test (eqb s t) (λ n. eqb-true s t n)
    (λ n. clash (beyond f s) c (any_none (λ v. below v s) f (all_imp (λ v alone. by-test (below v s)
    (λ d. let p = below_true v s d in
    let q : Below t s = rw (alone (true_below v t (below_trans v s t p b))) at p in
    absurd (eqb-false s t n (below_antisym s t b q)))
    (λ d. d)) (antichain_alone t h e))))

antichain_keep : (p : ℕ → Bool) {f : List ℕ} → Antichain f → Antichain (keep p f)
antichain_keep p none = none
antichain_keep p (more {t = t} a h) = by-test (p t) (λ e. rw e (more (all_keep p a) (antichain_keep p h))) (λ e. rw e (antichain_keep p h))

antichain-put : (t : ℕ) {f : List ℕ} → All (λ u. below u t ≡ false) f → All (λ u. below t u ≡ false) f → Antichain f → Antichain (put t f)
antichain-put t l r none = more nil none
antichain-put t l r (more {t = u} {ts = us} a h) =
    by-test (ltb t u)
    (λ e. rw e (more (cons (record { earlier = ltb-true t u e; not-below = head r })
    (all_imp (λ v k. record { earlier = omega (arith, ltb-true t u e, k.0.earlier); not-below = k.1 }) (all_both a (tail r)))) (more a h)))
    (λ e. by-test (eqb t u) (λ e'. rw (e, e') (more a h))
    (λ e'. rw (e, e') (more (all_put t (record { earlier = omega (arith, ltb-false t u e, eqb-false t u e'); not-below = head l }) a) (antichain-put t (tail l) (tail r) h))))

-- ---- inserting
undominated : (t : ℕ) (f : List ℕ) → All (λ u. below t u ≡ false) (keep (λ u. not (below t u)) f)
undominated t f = keep_all (λ u. not (below t u)) (all_of (λ u e. not-true (below t u) e) f)

pub inserted-antichain : (t : ℕ) (f : List ℕ) → Antichain f → Antichain (inserted t f)
unfolding inserted beyond
inserted-antichain t f h =
    by-test (beyond f t) (λ e. rw e h)
    (λ e. rw e (antichain-put t (all_keep (λ u. not (below t u)) (none_all (λ u. below u t) f e)) (undominated t f) (antichain_keep (λ u. not (below t u)) h)))

pub inserted_all : {P : ℕ → Type 0} (t : ℕ) {f : List ℕ} → P t → All P f → All P (inserted t f)
unfolding inserted
inserted_all t {f} p h = by-test (beyond f t) (λ e. rw e h) (λ e. rw e (all_put t p (all_keep (λ u. not (below t u)) h)))

same_short : (a b : Bool) → (a ≡ false → b ≡ false) → (b ≡ false → a ≡ false) → a ≡ b
same_short true true f g = refl
same_short true false f g = g refl
same_short false b f g = sym (f refl)

-- t put in place of what it dominates
put-beyond : (t : ℕ) (f : List ℕ) (s : ℕ) → beyond (put t (keep (λ u. not (below t u)) f)) s ≡ (below t s || beyond f s)
unfolding beyond
put-beyond t f s =
    same_short _ _
    (λ e. let k = put_all t (keep (λ u. not (below t u)) f) (none_all (λ u. below u s) (put t (keep (λ u. not (below t u)) f)) e) in
    rw k.0 (any_none (λ u. below u s) f (all_imp (λ u g. dominated u k.0 g) (kept_all (λ u. not (below t u)) f k.1))))
    (λ e. any_none (λ u. below u s) (put t (keep (λ u. not (below t u)) f))
    (all_put t (or_false_l (below t s) (beyond f s) e) (all_keep (λ u. not (below t u)) (none_all (λ u. below u s) f (or_false_r (below t s) (beyond f s) e)))))
  where
    dominated : (u : ℕ) → below t s ≡ false → (not (below t u) ≡ true → below u s ≡ false) → below u s ≡ false
    dominated u n g =
        by-test (below t u)
        (λ b. by-test (below u s) (λ c. clash (below t s) (true_below t s (below_trans t u s (below_true t u b) (below_true u s c))) n) (λ c. c))
        (λ b. g (rw b))

-- at or above t, or beyond f
pub inserted-beyond : (t : ℕ) (f : List ℕ) (s : ℕ) → beyond (inserted t f) s ≡ (below t s || beyond f s)
unfolding inserted
inserted-beyond t f s =
    by-test (beyond f t)
    (λ e. rw e (by-test (below t s) (λ b. rw (b, beyond_up f t s (below_true t s b) e)) (λ b. rw b)))
    (λ e. rw e (put-beyond t f s))

pub inserted-length : (t : ℕ) (f : List ℕ) → length (inserted t f) ≤ suc (length f)
unfolding inserted
inserted-length t f =
    by-test (beyond f t) (λ e. rw e (omega arith))
    (λ e. rw e (omega (arith, put-length t (keep (λ u. not (below t u)) f), keep_length (λ u. not (below t u)) f)))

module _ (f : List ℕ) where
  pub all_inserted-antichain : Antichain f → (ts : List ℕ) → Antichain (all_inserted ts f)
  unfolding all_inserted
  all_inserted-antichain h [] = h
  all_inserted-antichain h (t ∷ ts) = inserted-antichain t (all_inserted ts f) (all_inserted-antichain h ts)

  pub all_inserted_all : {P : ℕ → Type 0} → All P f → {ts : List ℕ} → All P ts → All P (all_inserted ts f)
  unfolding all_inserted
  all_inserted_all h nil = h
  all_inserted_all h (cons {x = t} p k) = inserted_all t p (all_inserted_all h k)

  -- at or above one of the list, or beyond f
  pub all_inserted-beyond : (ts : List ℕ) (s : ℕ) → beyond (all_inserted ts f) s ≡ (beyond ts s || beyond f s)
  unfolding all_inserted beyond
  all_inserted-beyond [] s = refl
  all_inserted-beyond (t ∷ ts) s =
      inserted-beyond t (all_inserted ts f) s ∙ by-test (below t s) (λ b. rw b) (λ b. rw b (all_inserted-beyond ts s))

  pub all_inserted-length : (ts : List ℕ) → length (all_inserted ts f) ≤ length ts + length f
  unfolding all_inserted
  all_inserted-length [] = omega arith
  all_inserted-length (t ∷ ts) = omega (arith, inserted-length t (all_inserted ts f), all_inserted-length ts)

-- ---- an antichain is known by what is beyond it
-- nothing before the first time of an antichain is beyond it
before_short : (t u : ℕ) {us : List ℕ} → t < u → Antichain (u ∷ us) → beyond (u ∷ us) t ≡ false
unfolding beyond
before_short t u {us} h (more a k) =
    any_none (λ v. below v t) (u ∷ us) (cons (not-above t u h) (all_imp (λ v b. not-above t v (omega (arith, b.earlier))) a))

-- what is beyond the rest of one is beyond the rest of another with the same first time
rest_beyond : (t : ℕ) (f g : List ℕ) → All (Apart t) f → ((s : ℕ) → beyond (t ∷ f) s ≡ beyond (t ∷ g) s) → (s : ℕ) → beyond f s ≡ true → beyond g s ≡ true
unfolding beyond
rest_beyond t f g a same s e = by-test (beyond g s) (λ b. b) (λ b. clash (beyond f s) e (any_none (λ u. below u s) f (all_imp (λ u k. passes u k.0 k.1 b) (all_both a (each_beyond f)))))
  where
    passes : (u : ℕ) → Apart t u → beyond f u ≡ true → beyond g s ≡ false → below u s ≡ false
    passes u p q b =
        by-test (below u s)
        (λ c. let k : beyond g u ≡ true = rw p.not-below at (sym (same u) ∙ or_r (below t u) (beyond f u) q) in
        clash (beyond g s) (beyond_up g u s (below_true u s c) k) b)
        (λ c. c)

pub antichain_ext : {f g : List ℕ} → Antichain f → Antichain g → ((s : ℕ) → beyond f s ≡ beyond g s) → f ≡ g
unfolding beyond
antichain_ext none none same = refl
antichain_ext none (more {t = u} {ts = us} b k) same = clash (beyond (u ∷ us) u) (head (each_beyond (u ∷ us))) (sym (same u))
antichain_ext (more {t = t} {ts = ts} a h) none same = clash (beyond (t ∷ ts) t) (head (each_beyond (t ∷ ts))) (same t)
antichain_ext (more {t = t} {ts = ts} a h) (more {t = u} {ts = us} b k) same =
    by-test (ltb t u)
    (λ e. clash (beyond (t ∷ ts) t) (head (each_beyond (t ∷ ts))) (same t ∙ before_short t u (ltb-true t u e) (more b k)))
    (λ e. by-test (ltb u t)
    (λ e'. clash (beyond (u ∷ us) u) (head (each_beyond (u ∷ us))) (sym (same u) ∙ before_short u t (ltb-true u t e') (more a h)))
    (λ e'. let q : t ≡ u = omega (arith, ltb-false t u e, ltb-false u t e') in
    let same' : (s : ℕ) → beyond (t ∷ ts) s ≡ beyond (t ∷ us) s = (λ s. same s ∙ ap (λ x. beyond (x ∷ us) s) (sym q)) in
    ap₂ ◌∷◌ q (antichain_ext h k (λ s. same_test (beyond ts s) (beyond us s) (rest_beyond t ts us a same' s) (rest_beyond t us ts (rw q b) (λ x. sym (same' x)) s)))))

-- ---- the minimal times of a list
or_unless : (a b : Bool) → (a ≡ true → b ≡ true) → (not a || b) ≡ true
or_unless true b f = f refl
or_unless false b f = refl

module _ (ts : List ℕ) where
  pub minimal-antichain : Antichain (minimal ts)
  unfolding minimal
  minimal-antichain = all_inserted-antichain [] none ts

  pub minimal-beyond : (s : ℕ) → beyond (minimal ts) s ≡ beyond ts s
  unfolding minimal beyond
  minimal-beyond s = all_inserted-beyond [] ts s ∙ by-test (beyond ts s) (λ e. rw e) (λ e. rw e)

  -- each is one of the list
  pub minimal_from : All (λ t. any (eqb t) ts ≡ true) (minimal ts)
  unfolding minimal
  minimal_from = all_inserted_all [] nil (each_any eqb (λ t. eq-eqb t t refl) ts)

  -- each of the list is at or above one of them
  pub minimal_covers : All (λ t. beyond (minimal ts) t ≡ true) ts
  minimal_covers = all_imp (λ t e. minimal-beyond t ∙ e) (each_beyond ts)

  pub minimal_only : {f : List ℕ} → Antichain f → ((s : ℕ) → beyond f s ≡ beyond ts s) → minimal ts ≡ f
  minimal_only a same = antichain_ext minimal-antichain a (λ s. minimal-beyond s ∙ sym (same s))

  -- a time is one of them exactly if it is one of the list and no other time of the list is at or below it
  pub minimal_exactly : (t : ℕ) → any (eqb t) (minimal ts) ≡ (any (eqb t) ts && every (λ s. not (below s t) || eqb s t) ts)
  unfolding beyond
  minimal_exactly t =
      same_test _ _
      (λ e. and_i _ _ (all_at t (minimal ts) minimal_from e)
      (all_every _ (all_imp (λ s c. or_unless (below s t) (eqb s t) (λ b. eq-eqb s t (antichain-least s t minimal-antichain e c (below_true s t b)))) minimal_covers)))
      (λ e. by-test (any (eqb t) (minimal ts)) (λ k. k)
      (λ n. clash (beyond (minimal ts) t) (all_at t ts minimal_covers (and_l (any (eqb t) ts) _ e))
      (any_none (λ v. below v t) (minimal ts)
      (all_imp (λ v k. other v (all_at v ts (every_all (λ s. not (below s t) || eqb s t) ts (and_r (any (eqb t) ts) _ e)) k.0) k.1)
      (all_both minimal_from (none_all (eqb t) (minimal ts) n))))))
    where
      other : (v : ℕ) → (not (below v t) || eqb v t) ≡ true → eqb t v ≡ false → below v t ≡ false
      other v e n =
          by-test (below v t) (λ b. let k : eqb v t ≡ true = rw b at e in clash (eqb t v) (eq-eqb t v (sym (eqb-true v t k))) n) (λ b. b)
