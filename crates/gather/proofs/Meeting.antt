-- The meets of moments, from the last to the first.
--
-- onto_more, onto_last: the meet of the moments from the i-th on, where that of those after it is known,
-- and where there is none after it
-- Backing: the meets from the i-th on are taken. backing_start, backing_more, backing_end: the loop keeps that. backing_ahead: what a turn asks
-- meets_at: where the meet of the moments from the j-th on stands
use Prim.Native.Nat.{ℕ, zero, suc, ◌+◌, ◌-◌, ◌<◌, ◌≤◌}
use native.Mathlib.Omega.{arith}
use mathlib.Core.List.{List, [], ◌∷◌}
use mathlib.Core.Path.{◌≡◌, refl, sym, ◌∙◌, ap, ap₂}
use lib.ListN.{length, take, drop, get_or, set, length-set, length-drop, drop_of_length-le}
use lib.Seq.{drop-cons, drop-set-lt, get_or-set_same, get_or-take}
use Rattle.grid.specs.Times.{meet, meet_onto, meets}
use Rattle.grid.proofs.Loops.{drop_more}
use Rattle.backends.specs.Segments.{part}
use Rattle.gather.specs.Meets.{meet_of, meets_of}

past_none : (i : ℕ) (l : List ℕ) → length l ≤ i → 0 ≡ meet_of (drop i l)
unfolding meet_of
past_none i l h = ap meet_of (sym (drop_of_length-le l {i = i} h))

-- ---- one moment more
meet-first : (t : ℕ) (l : List ℕ) → 0 < length l → meet_of (t ∷ l) ≡ meet t (meet_of l)
unfolding meet_of meets meet_onto
meet-first t [] h = omega arith
meet-first t (u ∷ l) h = refl

module _ (i : ℕ) (l : List ℕ) where
  pub onto_more : {next r : ℕ} → next ≡ meet_of (drop (i + 1) l) → i + 1 < length l → r ≡ meet (get_or l i 0) next → r ≡ meet_of (drop i l)
  onto_more e h q =
      let n : 0 < length (drop (i + 1) l) = rw length-drop (omega arith) in
      q ∙ ap (meet (get_or l i 0)) e ∙ sym (meet-first (get_or l i 0) (drop (i + 1) l) n) ∙ ap meet_of (sym (drop_more l i 0 (omega arith)))

  pub onto_last : i < length l → length l ≤ i + 1 → get_or l i 0 ≡ meet_of (drop i l)
  unfolding meet_of meets meet_onto
  onto_last h k = sym (ap meet_of (drop_more l i 0 h ∙ ap (λ z. get_or l i 0 ∷ z) (drop_of_length-le l {i = i + 1} k)))

-- ---- all of them
pub record Backing (s far₀ far : List ℕ) (i next : ℕ) : Type 0 where
  pub room : length s ≤ length far₀
  pub same : length far ≡ length far₀
  pub till : i ≤ length s
  pub ahead : next ≡ meet_of (drop i s)
  pub written : part i (length s) far ≡ meets_of (drop i s)

pub backing_start : (s far : List ℕ) → length s ≤ length far → Backing s far far (length s) 0
unfolding meets_of
backing_start s far h =
    let n : length s - length s ≡ 0 = omega arith in
    record {
      room = h;
      same = refl;
      till = omega arith;
      ahead = past_none (length s) s (omega arith);
      written = ap (λ z. take z (drop (length s) far)) n ∙ ap meets_of (sym (drop_of_length-le s {i = length s} (omega arith)));
    }

module _ {s far₀ far : List ℕ} {i next : ℕ} (m : Backing s far₀ far i next) where
  module _ (h : 0 < i) where
    pub backing_ahead : next ≡ meet_of (drop (i - 1 + 1) s)
    backing_ahead = let n : i ≡ i - 1 + 1 = omega arith in m.ahead ∙ ap (λ z. meet_of (drop z s)) n

    here_far : i - 1 < length far
    here_far = let a : length far ≡ length far₀ = m.same in let b : length s ≤ length far₀ = m.room in let c : i ≤ length s = m.till in omega arith

    pub backing_more : {x : ℕ} → x ≡ meet_of (drop (i - 1) s) → Backing s far₀ (set far (i - 1) x) (i - 1) x
    unfolding meets_of
    backing_more {x} e =
        let c : i ≤ length s = m.till in
        let g : i - 1 < length far = here_far in
        let n : suc (i - 1) ≡ i = omega arith in
        let o : length s - (i - 1) ≡ suc (length s - i) = omega arith in
        let p : i - 1 + 1 ≡ i = omega arith in
        let here : drop (i - 1) (set far (i - 1) x) ≡ x ∷ drop i far =
        drop-cons (set far (i - 1) x) (i - 1) 0 (rw length-set g)
        ∙ ap₂ ◌∷◌ (get_or-set_same far (i - 1) x 0 g) (ap (λ z. drop z (set far (i - 1) x)) n ∙ drop-set-lt i far (i - 1) x (omega arith)) in
        let more : drop (i - 1) s ≡ get_or s (i - 1) 0 ∷ drop i s = drop_more s (i - 1) 0 (omega arith) ∙ ap (λ z. get_or s (i - 1) 0 ∷ drop z s) p in
        record {
          room = m.room;
          same = simp length-set m.same;
          till = omega arith;
          ahead = e;
          written = (λ z. take (o z) (here z)) ∙ ap₂ ◌∷◌ (e ∙ ap meet_of more) m.written ∙ ap meets_of (sym more);
        }

  pub backing_end : i ≤ 0 → take (length s) far ≡ meets_of s
  backing_end h =
      let e : i ≡ 0 = omega arith in
      let n : length s ≡ length s - 0 = omega arith in
      ap (λ z. take z far) n ∙ sym (ap (λ z. part z (length s) far) e) ∙ m.written ∙ ap (λ z. meets_of (drop z s)) e

-- ---- one of them
get_or-meets : (s : List ℕ) (j : ℕ) → j < length s → get_or (meets_of s) j 0 ≡ meet_of (drop j s)
unfolding meets_of
get_or-meets [] j h = absurd (omega arith)
get_or-meets (t ∷ s) zero h = refl
get_or-meets (t ∷ s) (suc j) h = get_or-meets s j (omega arith)

pub meets_at : (s far : List ℕ) (j : ℕ) → take (length s) far ≡ meets_of s → j < length s → get_or far j 0 ≡ meet_of (drop j s)
meets_at s far j e h = sym (get_or-take (length s) far j 0 h) ∙ ap (λ l. get_or l j 0) e ∙ get_or-meets s j h
