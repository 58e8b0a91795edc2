-- What is seen at a time, rightness by tallies, and what a round settles.
--
-- tally_seen: what is seen, as a tally of the edits. seen_ext: lists of which the same is seen. canon_seen: it ascends, without zeros
-- same_visible, none_visible, visible_append: the tallies of edits that are seen alike, that are not seen, and of two lists
-- canon_wanted: what is wanted ascends, without zeros. tally_right: rightness by tallies. right_as: rightness goes by what is seen
-- empty_is: an empty list. tally_correction: present and correction together are what is wanted
-- fixes-correction: a round's fixes are the correction, crossing or not
-- fix_at: the fixes of a round, as edits. fix-times: they are at its time. fix_right: after its round the output is right at a moment
-- corrections-times: the corrections of all rounds are at moments
-- corrected: the output with the corrections of some moments. corrected_last: of one moment more
-- fix_unseen, corrected_unseen: moments that are not seen change nothing
use Prim.Native.Nat.{ℕ}
use mathlib.Core.Bool.{Bool, true, false, cond, ◌&&◌}
use mathlib.Core.List.{List, [], ◌∷◌, ◌++◌, map, append_assoc, append-nil}
use mathlib.Core.Path.{◌≡◌, refl, sym, ◌∙◌, ap, ap₂}
use lib.Dec.{ltb, eqb}
use lib.IntN.{ℤ, pos, ◌+ℤ◌, neg_ℤ, +ℤ_idr, +ℤ_invr}
use borrow.Author.Tests.{not-false}
use Rattle.grid.specs.Lists.{keep, is_empty}
use Rattle.grid.specs.Times.{below}
use Rattle.grid.specs.Consolidate.{is_zero, total}
use Rattle.grid.proofs.Tests.{by-test, and_l, and_r}
use Rattle.grid.proofs.Lists.{All, nil, cons, all_of, all_append, all_map, all_keep}
use Rattle.grid.proofs.Times.{below_refl, true_below}
use Rattle.grid.proofs.Meets.{Unseen, unseen_false}
use Rattle.grid.proofs.Sums.{left_comm, sum-append, sum-map, sum_keep, sum_ext, sum-neg}
use Rattle.grid.proofs.Consolidate.{strict_ltb, share, tally, tally_consolidate, Canon, none, more, canon_consolidate, canon_ext, consolidate_ext}
use Rattle.rules.specs.Histories.{Edit, time_of, value_of}
use Rattle.rules.specs.Backends.{Sums, count, distinct, listed, wanted, minus, correction}
use Rattle.rules.specs.Retire.{seen, crosses, dated, round_at, settle, corrections}
use Rattle.rules.specs.Right.{Right}
use Rattle.rules.proofs.Histories.{visible}

-- ---- what is seen
cond_and : (a b : Bool) (d : ℤ) → cond a (cond b d (pos 0)) (pos 0) ≡ cond (a && b) d (pos 0)
cond_and true b d = refl
cond_and false b d = refl

abbrev part : ℕ → List Edit → Sums
part t es = map (λ e. (value_of e, e.1)) (keep (λ e. below (time_of e) t) es)

tally_part : (t : ℕ) (p : ℕ → Bool) (es : List Edit) → tally p (part t es) ≡ tally (visible t p) es
unfolding time_of value_of
tally_part t p es =
    sum-map (share p) (λ (e : Edit). (value_of e, e.1)) (keep (λ e. below (time_of e) t) es)
    ∙ sum_keep (λ (e : Edit). cond (p e.0.1) e.1 (pos 0)) (λ e. below (time_of e) t) es
    ∙ sum_ext _ _ (λ (e : Edit). cond_and (below e.0.0 t) (p e.0.1) e.1) es

pub tally_seen : (t : ℕ) (p : ℕ → Bool) (es : List Edit) → tally p (seen t es) ≡ tally (visible t p) es
unfolding seen
tally_seen t p es = tally_consolidate strict_ltb p (part t es) ∙ tally_part t p es

pub seen_ext : (t u : ℕ) (es fs : List Edit) → ((p : ℕ → Bool) → tally (visible t p) es ≡ tally (visible u p) fs) → seen t es ≡ seen u fs
unfolding seen
seen_ext t u es fs h = consolidate_ext strict_ltb (part t es) (part u fs) (λ p. tally_part t p es ∙ h p ∙ sym (tally_part u p fs))

pub canon_seen : (t : ℕ) (es : List Edit) → Canon ltb (seen t es)
unfolding seen
canon_seen t es = canon_consolidate strict_ltb (part t es)

-- the same is seen if each edit is seen at both times or at neither
pub same_visible : (t u : ℕ) (p : ℕ → Bool) {es : List Edit} → All (λ e. below e.0.0 t ≡ below e.0.0 u) es → tally (visible t p) es ≡ tally (visible u p) es
same_visible t u p nil = refl
same_visible t u p (cons q h) = rw (q, same_visible t u p h)

pub none_visible : (t : ℕ) (p : ℕ → Bool) {es : List Edit} → All (λ e. Unseen t e.0.0) es → tally (visible t p) es ≡ pos 0
none_visible t p nil = refl
none_visible t p (cons {x = e} q h) = rw (unseen_false t e.0.0 q, none_visible t p h)

pub visible_append : (t : ℕ) (p : ℕ → Bool) (es fs : List Edit) → tally (visible t p) (es ++ fs) ≡ tally (visible t p) es +ℤ tally (visible t p) fs
visible_append t p es fs = sum-append (share (visible t p)) es fs

-- ---- what is wanted
canon_listed : {c : Sums} → Canon ltb c → Canon ltb (map (λ p. (p.0, pos 1)) (keep (λ p. listed p.1) c))
canon_listed none = none
canon_listed (more {y = y} z a c) =
    by-test (listed y.1)
    (λ e. rw e (more refl (all_map (λ (p : ℕ × ℤ). (p.0, pos 1)) (all_keep (λ p. listed p.1) a)) (canon_listed c)))
    (λ e. rw e (canon_listed c))

canon_count : (c : Sums) → Canon ltb (count c)
unfolding count
canon_count c = by-test (is_zero (total c)) (λ e. rw e none) (λ e. rw e (more refl nil none))

pub canon_wanted : (mode : ℕ) {c : Sums} → Canon ltb c → Canon ltb (wanted mode c)
unfolding wanted distinct
canon_wanted mode {c} h = by-test (eqb mode 1) (λ e. rw e (canon_count c)) (λ e. rw e (canon_listed h))

-- ---- rightness
module _ (mode : ℕ) where
  pub right_as : {I I' O O' : List Edit} (t u : ℕ) → seen t I ≡ seen u I' → seen t O ≡ seen u O' → Right mode I O t → Right mode I' O' u
  right_as t u i o r = record { is_reduction = sym o ∙ r.is_reduction ∙ ap (wanted mode) i }

  pub tally_right : (I O : List Edit) (t : ℕ) → ((p : ℕ → Bool) → tally (visible t p) O ≡ tally p (wanted mode (seen t I))) → Right mode I O t
  tally_right I O t h = record { is_reduction = canon_ext strict_ltb (canon_seen t O) (canon_wanted mode (canon_seen t I)) (λ p. tally_seen t p O ∙ h p) }

-- ---- one round
tally_minus : (p : ℕ → Bool) (c : Sums) → tally p (minus c) ≡ neg_ℤ (tally p c)
unfolding minus
tally_minus p c =
    sum-map (share p) (λ (q : ℕ × ℤ). (q.0, neg_ℤ q.1)) c
    ∙ sum_ext _ _ (λ (q : ℕ × ℤ). neg_cond (p q.0) q.1) c
    ∙ sum-neg (share p) c
  where
    neg_cond : (b : Bool) (d : ℤ) → cond b (neg_ℤ d) (pos 0) ≡ neg_ℤ (cond b d (pos 0))
    neg_cond true d = refl
    neg_cond false d = refl

pub tally_correction : (mode : ℕ) (p : ℕ → Bool) (i o : Sums) → tally p o +ℤ tally p (correction mode i o) ≡ tally p (wanted mode i)
unfolding correction
tally_correction mode p i o =
    ap (λ z. tally p o +ℤ z) (tally_consolidate strict_ltb p (wanted mode i ++ minus o) ∙ sum-append (share p) (wanted mode i) (minus o) ∙ ap (λ z. tally p (wanted mode i) +ℤ z) (tally_minus p o))
    ∙ plus_minus (tally p o) (tally p (wanted mode i))
  where
    plus_minus : (x y : ℤ) → x +ℤ (y +ℤ neg_ℤ x) ≡ y
    plus_minus x y = left_comm x y (neg_ℤ x) ∙ ap (λ z. y +ℤ z) (+ℤ_invr x) ∙ +ℤ_idr y

pub correction_nothing : (mode : ℕ) → correction mode [] [] ≡ []
unfolding correction wanted count distinct minus
correction_nothing mode = by-test (eqb mode 1) (λ e. rw e) (λ e. rw e)

pub empty_is : {A : Type 0} (xs : List A) → is_empty xs ≡ true → xs ≡ []
empty_is [] e = refl
empty_is (x ∷ xs) e = cc

-- a key with both sums empty does not cross, and has no correction
uncrossed : (mode : ℕ) (i o : Sums) → crosses i o ≡ false → correction mode i o ≡ []
unfolding crosses
uncrossed mode i o e =
    let b = not-false (is_empty i && is_empty o) e in
    ap₂ (correction mode) (empty_is i (and_l (is_empty i) (is_empty o) b)) (empty_is o (and_r (is_empty i) (is_empty o) b)) ∙ correction_nothing mode

pub fixes-correction : (mode : ℕ) (input output : List Edit) (t : ℕ) → (round_at mode input output t).fixes ≡ correction mode (seen t input) (seen t output)
unfolding round_at
fixes-correction mode input output t =
    by-test (crosses (seen t input) (seen t output)) (λ e. rw e) (λ e. rw e (sym (uncrossed mode (seen t input) (seen t output) e)))

unfoldable pub fix_at : ℕ → List Edit → List Edit → ℕ → List Edit
fix_at mode input output t = dated t (round_at mode input output t).fixes

visible_dated : (t u : ℕ) (p : ℕ → Bool) (c : Sums) → below u t ≡ true → tally (visible t p) (dated u c) ≡ tally p c
unfolding dated
visible_dated t u p c h = sum-map _ (λ (q : ℕ × ℤ). ((u, q.0), q.1)) c ∙ sum_ext _ _ (λ (q : ℕ × ℤ). rw h) c

module _ (mode : ℕ) (input output : List Edit) where
  pub fix-times : (P : ℕ → Type 0) (t : ℕ) → P t → All (λ e. P e.0.0) (fix_at mode input output t)
  unfolding fix_at dated
  fix-times P t h = all_map (λ (q : ℕ × ℤ). ((t, q.0), q.1)) (all_of (λ q. h) (round_at mode input output t).fixes)

  -- after its round the output is right at t
  pub fix_right : (t : ℕ) → Right mode input (output ++ fix_at mode input output t) t
  unfolding fix_at
  fix_right t =
      tally_right mode input (output ++ fix_at mode input output t) t
      (λ p. visible_append t p output (fix_at mode input output t)
      ∙ ap₂ ◌+ℤ◌ (sym (tally_seen t p output)) (visible_dated t t p (round_at mode input output t).fixes (true_below t t (below_refl t)) ∙ ap (tally p) (fixes-correction mode input output t))
      ∙ tally_correction mode p (seen t input) (seen t output))

  -- and where t is not seen nothing changes
  pub fix_unseen : (t u : ℕ) → Unseen u t → seen u (output ++ fix_at mode input output t) ≡ seen u output
  fix_unseen t u f =
      seen_ext u u (output ++ fix_at mode input output t) output
      (λ p. visible_append u p output (fix_at mode input output t)
      ∙ ap (λ z. tally (visible u p) output +ℤ z) (none_visible u p (fix-times (Unseen u) t f))
      ∙ +ℤ_idr (tally (visible u p) output))

-- ---- all rounds
-- the output with the corrections of a list of moments
abbrev pub corrected : ℕ → List Edit → List Edit → List ℕ → List Edit
corrected mode input output ts = output ++ corrections (settle mode input output ts)

module _ (mode : ℕ) (input : List Edit) where
  -- the rounds from the second on are those of the output with the first round's corrections
  corrected_first : (output : List Edit) (t : ℕ) (ts : List ℕ) → corrected mode input output (t ∷ ts) ≡ corrected mode input (output ++ fix_at mode input output t) ts
  unfolding corrections settle fix_at round_at
  corrected_first output t ts = sym (append_assoc output (fix_at mode input output t) (corrections (settle mode input (output ++ fix_at mode input output t) ts)))

  pub corrected_last : (output : List Edit) (ts : List ℕ) (n : ℕ) → corrected mode input output (ts ++ (n ∷ [])) ≡ corrected mode input output ts ++ fix_at mode input (corrected mode input output ts) n
  unfolding corrections settle
  corrected_last output [] n = corrected_first output n [] ∙ append-nil (output ++ fix_at mode input output n) ∙ ap (λ o. o ++ fix_at mode input o n) (sym (append-nil output))
  corrected_last output (t ∷ ts) n =
      corrected_first output t (ts ++ (n ∷ []))
      ∙ corrected_last (output ++ fix_at mode input output t) ts n
      ∙ ap (λ o. o ++ fix_at mode input o n) (sym (corrected_first output t ts))

  pub corrections-times : {P : ℕ → Type 0} (output : List Edit) {ts : List ℕ} → All P ts → All (λ e. P e.0.0) (corrections (settle mode input output ts))
  unfolding corrections settle round_at fix_at
  corrections-times output nil = nil
  corrections-times {P} output (cons {x = t} p h) = all_append (fix-times mode input output P t p) (corrections-times (output ++ fix_at mode input output t) h)

  -- where no moment is seen nothing changes
  pub corrected_unseen : (t : ℕ) (output : List Edit) {ts : List ℕ} → All (Unseen t) ts → seen t (corrected mode input output ts) ≡ seen t output
  corrected_unseen t output {ts} h =
      seen_ext t t (corrected mode input output ts) output
      (λ p. visible_append t p output (corrections (settle mode input output ts))
      ∙ ap (λ z. tally (visible t p) output +ℤ z) (none_visible t p (corrections-times output h))
      ∙ +ℤ_idr (tally (visible t p) output))
