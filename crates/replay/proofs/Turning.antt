-- A key replayed collapsed has the rounds that it has as it is. Of its input a part X is held and R is ahead, ascending by time, and of its output U and S;
-- in a turn what is ahead up to the moment is gathered into what is held, by a meet at or below the moments that are left.
--
-- turn_rounds: what is held after the gathering gives the round at hand, and, with what is still ahead and the round's correction, the later rounds
-- start_rounds: loaded by a meet at or below its moments a key has the rounds that it has as it is
use Prim.Native.Nat.{ℕ, ◌≤◌, ◌<◌}
use native.Mathlib.Omega.{arith}
use mathlib.Core.Bool.{true}
use mathlib.Core.List.{List, [], ◌∷◌, ◌++◌, append_assoc}
use mathlib.Core.Option.{some}
use mathlib.Core.Path.{◌≡◌, sym, ◌∙◌, ap, ap₂}
use lib.Dec.{leb}
use lib.IntN.{ℤ, ◌+ℤ◌, +ℤ_idr}
use borrow.Author.Tests.{leb-true, leb-false}
use Rattle.grid.specs.Lists.{front, past}
use Rattle.grid.specs.Times.{below}
use Rattle.grid.proofs.Tests.{by-test}
use Rattle.grid.proofs.Lists.{All, nil, cons, all_imp, map_all}
use Rattle.grid.proofs.Times.{below_true}
use Rattle.grid.proofs.Meets.{Unseen, later_unseen}
use Rattle.grid.proofs.Sort.{more}
use Rattle.grid.proofs.Sums.{acℤ}
use Rattle.grid.proofs.Consolidate.{tally}
use Rattle.rules.specs.Histories.{Edit, time_of, load_edits}
use Rattle.rules.specs.Backends.{Sums}
use Rattle.rules.specs.Retire.{dated, round_at, settle}
use Rattle.rules.proofs.Histories.{visible, load_visible, advance_visible}
use Rattle.rules.proofs.Order.{front_past}
use Rattle.rules.proofs.Retire.{none_visible, visible_append}
use Rattle.slots.proofs.Alike.{SeenAs, round_alike, settle-alike}
use Rattle.gather.specs.Loads.{Timely}
use Rattle.gather.specs.Gather.{up_to, gathered}

-- ---- a key's edits
past_later : (t : ℕ) (es : List Edit) → Timely es → All (λ (e : Edit). Unseen t e.0.0) (past (up_to t) es)
unfolding time_of
past_later t [] s = nil
past_later t (e ∷ es) (more a s) =
    by-test (leb e.0.0 t)
    (λ q. rw q (past_later t es s))
    (λ q. let h : t < e.0.0 = leb-false e.0.0 t q in
    rw q (cons {x = e} (later_unseen h) (all_imp (λ (f : Edit) b. later_unseen (let k : e.0.0 ≤ f.0.0 = leb-true e.0.0 f.0.0 b in omega arith)) (map_all time_of es a))))

-- once what is ahead up to u is gathered, the same is seen from times that the meet is under, and at u nothing of what is ahead
module _ (m u : ℕ) (X R : List Edit) where
  gathered-seen : (t : ℕ) → below m t ≡ true → SeenAs (gathered u m X R ++ past (up_to u) R) (X ++ R) t
  gathered-seen t h = record {
    tallies = λ p.
        visible_append t p (gathered u m X R) (past (up_to u) R)
        ∙ ap (λ z. z +ℤ tally (visible t p) (past (up_to u) R)) (advance_visible (some m) t p (below_true m t h) (X ++ front (up_to u) R))
        ∙ sym (visible_append t p (X ++ front (up_to u) R) (past (up_to u) R))
        ∙ ap (tally (visible t p)) (append_assoc X (front (up_to u) R) (past (up_to u) R) ∙ ap (λ l. X ++ l) (front_past (up_to u) R));
  }

  gathered_now : Timely R → below m u ≡ true → SeenAs (gathered u m X R) (X ++ R) u
  gathered_now s h = record {
    tallies = λ p.
        let g = gathered u m X R in
        sym (ap (λ z. tally (visible u p) g +ℤ z) (none_visible u p (past_later u R s)) ∙ +ℤ_idr (tally (visible u p) g))
        ∙ sym (visible_append u p g (past (up_to u) R))
        ∙ (gathered-seen u h).tallies p;
  }

swap_last : (a b c : ℤ) → (a +ℤ b) +ℤ c ≡ (a +ℤ c) +ℤ b
swap_last a b c = simp acℤ

-- a correction between what is held and what is ahead is seen as one past both
between_seen : (h d a z : List Edit) (t : ℕ) → SeenAs (h ++ a) z t → SeenAs ((h ++ d) ++ a) (z ++ d) t
between_seen h d a z t s = record {
  tallies = λ p.
      let v = visible t p in
      visible_append t p (h ++ d) a
      ∙ ap (λ x. x +ℤ tally v a) (visible_append t p h d)
      ∙ swap_last (tally v h) (tally v d) (tally v a)
      ∙ ap (λ x. x +ℤ tally v d) (sym (visible_append t p h a) ∙ s.tallies p)
      ∙ sym (visible_append t p z d);
}

-- ---- its rounds
module _ (mode t m : ℕ) (X R U S : List Edit) (ts : List ℕ) (h : All (λ u. below m u ≡ true) (t ∷ ts)) (r : Timely R) (s : Timely S) where
  round_now : round_at mode (gathered t m X R) (gathered t m U S) t ≡ round_at mode (X ++ R) (U ++ S) t
  round_now = now h
    where
      now : {us : List ℕ} → All (λ u. below m u ≡ true) (t ∷ us) → round_at mode (gathered t m X R) (gathered t m U S) t ≡ round_at mode (X ++ R) (U ++ S) t
      now (cons b bs) = round_alike mode t (gathered_now m t X R r b) (gathered_now m t U S s b)

  rounds_later : (c : Sums) → settle mode (gathered t m X R ++ past (up_to t) R) ((gathered t m U S ++ dated t c) ++ past (up_to t) S) ts ≡ settle mode (X ++ R) ((U ++ S) ++ dated t c) ts
  rounds_later c = later h
    where
      later : {us : List ℕ} → All (λ u. below m u ≡ true) (t ∷ us)
          → settle mode (gathered t m X R ++ past (up_to t) R) ((gathered t m U S ++ dated t c) ++ past (up_to t) S) us ≡ settle mode (X ++ R) ((U ++ S) ++ dated t c) us
      later {us} (cons b bs) =
          settle-alike mode us (all_imp (λ u g. gathered-seen m t X R u g) bs)
          (all_imp (λ u g. between_seen (gathered t m U S) (dated t c) (past (up_to t) S) (U ++ S) u (gathered-seen m t U S u g)) bs)

  pub turn_rounds : settle mode (X ++ R) (U ++ S) (t ∷ ts)
      ≡ round_at mode (gathered t m X R) (gathered t m U S) t
      ∷ settle mode (gathered t m X R ++ past (up_to t) R) ((gathered t m U S ++ dated t (round_at mode (gathered t m X R) (gathered t m U S) t).fixes) ++ past (up_to t) S) ts
  unfolding settle
  turn_rounds =
      let a = round_at mode (gathered t m X R) (gathered t m U S) t in
      ap₂ ◌∷◌ (sym round_now) (ap (λ x. settle mode (X ++ R) ((U ++ S) ++ dated t x.fixes) ts) (sym round_now) ∙ sym (rounds_later a.fixes))

load_seen : (m : ℕ) (es : List Edit) (t : ℕ) → below m t ≡ true → SeenAs (load_edits (some m) es) es t
load_seen m es t h = record { tallies = λ p. load_visible (some m) t p (below_true m t h) es }

pub start_rounds : (mode m : ℕ) (I O : List Edit) (ts : List ℕ) → All (λ u. below m u ≡ true) ts → settle mode (load_edits (some m) I) (load_edits (some m) O) ts ≡ settle mode I O ts
start_rounds mode m I O ts h = settle-alike mode ts (all_imp (load_seen m I) h) (all_imp (load_seen m O) h)
