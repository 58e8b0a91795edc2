-- Consolidation, for every strict order of what is added up.
--
-- Strict: connected, irreflexive, transitive; of numbers, of pairs by `lex`, and along a function that tells elements apart
-- tally p: the sum of the diffs of the entries that pass p. tally_consolidate: consolidation keeps every tally
-- Canon: ascending, without zeros. canon_consolidate: consolidation gives that. canon_ext: such a list is known by its tallies
-- consolidate_ext: lists of the same tallies consolidate to the same list
use mathlib.Core.Bool.{Bool, true, false, cond, ◌&&◌, not}
use mathlib.Core.List.{List, [], ◌∷◌}
use mathlib.Core.Path.{◌≡◌, refl, sym, ◌∙◌, ap, ap₂}
use native.Mathlib.Omega.{arith}
use lib.Dec.{ltb}
use lib.IntN.{ℤ, pos, negsuc, ◌+ℤ◌, neg_ℤ, +ℤ_assoc, +ℤ_idl, +ℤ_idr, +ℤ_invl}
use borrow.Author.Tests.{eqb-true, ltb-true, ltb-false, lt-ltb, le-ltb, not-true}
use Rattle.grid.specs.Consolidate.{is_zero, lex, unless_zero, add, consolidate}
use mathlib.Core.Logic.{◌⊎◌, inl, inr, ⊎_elim}
use Rattle.grid.proofs.Tests.{by-test, clash, and_l, and_r, or_false_l, or_l}
use Rattle.grid.proofs.Lists.{All, nil, cons, all_imp}
use Rattle.grid.proofs.Sums.{sum, left_comm}

-- ---- orders
pub record Strict {A : Type 0} (lt : A → A → Bool) : Type 0 where
  pub connected : (a b : A) → lt a b ≡ false → lt b a ≡ false → a ≡ b
  pub irreflexive : (a : A) → lt a a ≡ false
  pub transitive : (a b c : A) → lt a b ≡ true → lt b c ≡ true → lt a c ≡ true

pub strict_ltb : Strict ltb
strict_ltb = record {
  connected = λ a b p q. omega (arith, ltb-false a b p, ltb-false b a q);
  irreflexive = λ a. le-ltb a a (omega arith);
  transitive = λ a b c p q. lt-ltb a c (omega (arith, ltb-true a b p, ltb-true b c q));
}

module _ {A B : Type 0} {l : A → A → Bool} {r : B → B → Bool} (L : Strict l) (R : Strict r) where
  lex_cases : (p q : A × B) → lex l r p q ≡ true → (l p.0 q.0 ≡ true) ⊎ ((p.0 ≡ q.0) × (r p.1 q.1 ≡ true))
  lex_cases p q e =
      by-test (l p.0 q.0) (λ t. inl t)
      (λ t. let k : (not (l q.0 p.0) && r p.1 q.1) ≡ true = rw t at e in
      inr (L.connected p.0 q.0 t (not-true (l q.0 p.0) (and_l (not (l q.0 p.0)) _ k)), and_r (not (l q.0 p.0)) (r p.1 q.1) k))

  lex-first : (p q : A × B) → l p.0 q.0 ≡ true → lex l r p q ≡ true
  lex-first p q t = or_l (l p.0 q.0) _ t

  lex-second : (p q : A × B) → p.0 ≡ q.0 → r p.1 q.1 ≡ true → lex l r p q ≡ true
  lex-second p q e t = rw (e, L.irreflexive q.0, t)

  lex_transitive : (a b c : A × B) → lex l r a b ≡ true → lex l r b c ≡ true → lex l r a c ≡ true
  lex_transitive a b c p q =
      ⊎_elim
      (λ u. lex-first a c (⊎_elim (λ v. L.transitive a.0 b.0 c.0 u v) (λ v. rw (← v.0) u) (lex_cases b c q)))
      (λ u. ⊎_elim (λ v. lex-first a c (rw u.0 v)) (λ v. lex-second a c (u.0 ∙ v.0) (R.transitive a.1 b.1 c.1 u.1 v.1)) (lex_cases b c q))
      (lex_cases a b p)

  lex_connected : (a b : A × B) → lex l r a b ≡ false → lex l r b a ≡ false → a ≡ b
  lex_connected a b p q =
      let t = or_false_l (l a.0 b.0) _ p in
      let u = or_false_l (l b.0 a.0) _ q in
      let e = L.connected a.0 b.0 t u in
      let p' : r a.1 b.1 ≡ false = rw (t, u) at p in
      let q' : r b.1 a.1 ≡ false = rw (t, u) at q in
      let f = R.connected a.1 b.1 p' q' in
      λ i. (e i, f i)

  pub strict_lex : Strict (lex l r)
  strict_lex = record {
    connected = lex_connected;
    irreflexive = λ a. rw (L.irreflexive a.0, R.irreflexive a.1);
    transitive = lex_transitive;
  }

-- along a function that tells elements apart
pub strict_by : {A B : Type 0} {lt : B → B → Bool} (f : A → B) → ((a b : A) → f a ≡ f b → a ≡ b) → Strict lt → Strict (λ (a b : A). lt (f a) (f b))
strict_by f apart S = record {
  connected = λ a b p q. apart a b (S.connected (f a) (f b) p q);
  irreflexive = λ a. S.irreflexive (f a);
  transitive = λ a b c p q. S.transitive (f a) (f b) (f c) p q;
}

-- ---- tallies
pub zero_is : (d : ℤ) → is_zero d ≡ true → d ≡ pos 0
zero_is (pos n) e = ap pos (eqb-true n 0 e)
zero_is (negsuc n) e = cc

-- the diff of an entry that passes
abbrev pub share : {A : Type 0} → (A → Bool) → A × ℤ → ℤ
share p y = cond (p y.0) y.1 (pos 0)

abbrev pub tally : {A : Type 0} → (A → Bool) → List (A × ℤ) → ℤ
tally p es = sum (share p) es

pub share_plus : (b : Bool) (c d s : ℤ) → cond b (c +ℤ d) (pos 0) +ℤ s ≡ cond b c (pos 0) +ℤ (cond b d (pos 0) +ℤ s)
share_plus true c d s = +ℤ_assoc c d s
share_plus false c d s = simp +ℤ_idl

pub zero_share : (b : Bool) (s : ℤ) → s ≡ cond b (pos 0) (pos 0) +ℤ s
zero_share true s = sym (+ℤ_idl s)
zero_share false s = sym (+ℤ_idl s)

tally_unless_zero : {A : Type 0} (p : A → Bool) (a : A) (d : ℤ) (r : List (A × ℤ)) → tally p (unless_zero a d r) ≡ cond (p a) d (pos 0) +ℤ tally p r
tally_unless_zero p a d r = by-test (is_zero d) (λ e. rw (e, zero_is d e) (zero_share (p a) (tally p r))) (λ e. rw e)

module _ {A : Type 0} {lt : A → A → Bool} (S : Strict lt) (p : A → Bool) where
  pub tally_add : (a : A) (d : ℤ) (r : List (A × ℤ)) → tally p (add lt a d r) ≡ cond (p a) d (pos 0) +ℤ tally p r
  tally_add a d [] = tally_unless_zero p a d []
  tally_add a d (y ∷ r) =
      by-test (lt a y.0) (λ e. rw e (tally_unless_zero p a d (y ∷ r)))
      (λ e. by-test (lt y.0 a)
      (λ e'. rw (e, e', tally_add a d r) (left_comm (share p y) (cond (p a) d (pos 0)) (tally p r)))
      (λ e'. rw (e, e')
      (tally_unless_zero p a (d +ℤ y.1) r ∙ share_plus (p a) d y.1 (tally p r)
      ∙ ap (λ z. cond (p a) d (pos 0) +ℤ (cond (p z) y.1 (pos 0) +ℤ tally p r)) (S.connected a y.0 e e'))))

  pub tally_consolidate : (es : List (A × ℤ)) → tally p (consolidate lt es) ≡ tally p es
  tally_consolidate [] = refl
  tally_consolidate (y ∷ r) = rw (tally_add, tally_consolidate r)

-- ---- canonical lists
pub data Canon {A : Type 0} (lt : A → A → Bool) : List (A × ℤ) → Type 0 where
  none : Canon lt []
  more : {y : A × ℤ} {r : List (A × ℤ)} → is_zero y.1 ≡ false → All (λ (z : A × ℤ). lt y.0 z.0 ≡ true) r → Canon lt r → Canon lt (y ∷ r)

module _ {A : Type 0} {lt : A → A → Bool} (S : Strict lt) where
  -- what holds of each key of a list and of a holds of each key of the list with a added
  module _ (P : A → Type 0) where
    all_unless_zero : (a : A) (d : ℤ) {r : List (A × ℤ)} → P a → All (λ (z : A × ℤ). P z.0) r → All (λ (z : A × ℤ). P z.0) (unless_zero a d r)
    all_unless_zero a d p h = by-test (is_zero d) (λ e. rw e h) (λ e. rw e (cons p h))

    pub all_add : (a : A) (d : ℤ) {r : List (A × ℤ)} → P a → All (λ (z : A × ℤ). P z.0) r → All (λ (z : A × ℤ). P z.0) (add lt a d r)
    all_add a d p nil = all_unless_zero a d p nil
    all_add a d p (cons {x = y} k h) =
        by-test (lt a y.0) (λ e. rw e (all_unless_zero a d p (cons k h)))
        (λ e. by-test (lt y.0 a) (λ e'. rw (e, e') (cons k (all_add a d p h))) (λ e'. rw (e, e') (all_unless_zero a (d +ℤ y.1) p h)))

    pub all_consolidate : {es : List (A × ℤ)} → All (λ (z : A × ℤ). P z.0) es → All (λ (z : A × ℤ). P z.0) (consolidate lt es)
    all_consolidate nil = nil
    all_consolidate (cons {x = y} p h) = all_add y.0 y.1 p (all_consolidate h)

  canon_unless_zero : (a : A) (d : ℤ) {r : List (A × ℤ)} → All (λ (z : A × ℤ). lt a z.0 ≡ true) r → Canon lt r → Canon lt (unless_zero a d r)
  canon_unless_zero a d u c = by-test (is_zero d) (λ e. rw e c) (λ e. rw e (more e u c))

  canon_add : (a : A) (d : ℤ) {r : List (A × ℤ)} → Canon lt r → Canon lt (add lt a d r)
  canon_add a d none = canon_unless_zero a d nil none
  canon_add a d (more {y = y} {r = r} n u c) =
      by-test (lt a y.0)
      (λ e. rw e (canon_unless_zero a d (cons e (all_imp (λ (z : A × ℤ) t. S.transitive a y.0 z.0 e t) u)) (more n u c)))
      (λ e. by-test (lt y.0 a)
      (λ e'. rw (e, e') (more n (all_add (λ k. lt y.0 k ≡ true) a d e' u) (canon_add a d c)))
      (λ e'. rw (e, e') (canon_unless_zero a (d +ℤ y.1) (rw (S.connected a y.0 e e') u) c)))

  pub canon_consolidate : (es : List (A × ℤ)) → Canon lt (consolidate lt es)
  canon_consolidate [] = none
  canon_consolidate (y ∷ r) = canon_add y.0 y.1 (canon_consolidate r)

  -- the entries of a key, by its place in the order
  abbrev at_key : A → A → Bool
  at_key k a = not (lt k a) && not (lt a k)

  none_at : (k : A) {r : List (A × ℤ)} → All (λ (z : A × ℤ). lt k z.0 ≡ true) r → tally (at_key k) r ≡ pos 0
  none_at k nil = refl
  none_at k (cons {x = y} p h) = rw (p, none_at k h)

  head_at : (y : A × ℤ) {r : List (A × ℤ)} → All (λ (z : A × ℤ). lt y.0 z.0 ≡ true) r → tally (at_key y.0) (y ∷ r) ≡ y.1
  head_at y u = rw (S.irreflexive y.0, none_at y.0 u) (+ℤ_idr y.1)

pub cancel_l : (a b c : ℤ) → a +ℤ b ≡ a +ℤ c → b ≡ c
cancel_l a b c h =
    sym (+ℤ_idl b) ∙ ap (λ z. z +ℤ b) (sym (+ℤ_invl a)) ∙ +ℤ_assoc (neg_ℤ a) a b ∙ ap (λ z. neg_ℤ a +ℤ z) h
    ∙ sym (+ℤ_assoc (neg_ℤ a) a c) ∙ ap (λ z. z +ℤ c) (+ℤ_invl a) ∙ +ℤ_idl c

not-zero : {C : Type 0} (d : ℤ) → is_zero d ≡ false → d ≡ pos 0 → C
not-zero {C} d e z = clash (is_zero d) (rw z) e

module _ {A : Type 0} {lt : A → A → Bool} (S : Strict lt) where
  abbrev Same : List (A × ℤ) → List (A × ℤ) → Type 0
  Same xs ys = (p : A → Bool) → tally p xs ≡ tally p ys

  above : (k : A) (y : A × ℤ) {r : List (A × ℤ)} → lt k y.0 ≡ true → All (λ (z : A × ℤ). lt y.0 z.0 ≡ true) r → All (λ (z : A × ℤ). lt k z.0 ≡ true) (y ∷ r)
  above k y e u = cons e (all_imp (λ (z : A × ℤ) t. S.transitive k y.0 z.0 e t) u)

  tails : (x y : A × ℤ) (xs ys : List (A × ℤ)) → x ≡ y → Same (x ∷ xs) (y ∷ ys) → Same xs ys
  tails x y xs ys e h p = cancel_l (share p x) (tally p xs) (tally p ys) (h p ∙ ap (λ z. share p z +ℤ tally p ys) (sym e))

  pub canon_ext : {xs ys : List (A × ℤ)} → Canon lt xs → Canon lt ys → ((p : A → Bool) → tally p xs ≡ tally p ys) → xs ≡ ys
  canon_ext none none h = refl
  canon_ext none (more {y = y} n u d) h = not-zero y.1 n (sym (head_at S y u) ∙ sym (h (at_key S y.0)))
  canon_ext (more {y = x} n u c) none h = not-zero x.1 n (sym (head_at S x u) ∙ h (at_key S x.0))
  canon_ext (more {y = x} {r = xs} n u c) (more {y = y} {r = ys} m v d) h =
      by-test (lt x.0 y.0)
      (λ e. not-zero x.1 n (sym (head_at S x u) ∙ h (at_key S x.0) ∙ none_at S x.0 (above x.0 y e v)))
      (λ e. by-test (lt y.0 x.0)
      (λ e'. not-zero y.1 m (sym (head_at S y v) ∙ sym (h (at_key S y.0)) ∙ none_at S y.0 (above y.0 x e' u)))
      (λ e'. let k = S.connected x.0 y.0 e e' in
      let q : x.1 ≡ y.1 = sym (head_at S x u) ∙ h (at_key S x.0) ∙ ap (λ z. tally (at_key S z) (y ∷ ys)) k ∙ head_at S y v in
      let f : x ≡ y = (λ i. (k i, q i)) in
      ap₂ ◌∷◌ f (canon_ext c d (tails x y xs ys f h))))

  pub consolidate_ext : (xs ys : List (A × ℤ)) → ((p : A → Bool) → tally p xs ≡ tally p ys) → consolidate lt xs ≡ consolidate lt ys
  consolidate_ext xs ys h =
      canon_ext (canon_consolidate S xs) (canon_consolidate S ys)
      (λ p. tally_consolidate S p xs ∙ h p ∙ sym (tally_consolidate S p ys))

  -- a canonical list consolidates to itself
  pub consolidate_canon : {xs : List (A × ℤ)} → Canon lt xs → consolidate lt xs ≡ xs
  consolidate_canon {xs} c = canon_ext (canon_consolidate S xs) c (λ p. tally_consolidate S p xs)
