-- Edits that join what is held, in one and the same columns.
--
-- within_end: where they end. within_moves: what moving them asks. within_asks: what the advance asks. within_done: what it leaves
use Prim.Native.Nat.{ℕ, zero, suc, ◌+◌, ◌-◌, ◌≤◌}
use native.Mathlib.Omega.{arith}
use mathlib.Core.Path.{◌≡◌, sym, ◌∙◌, ap, subst}
use mathlib.Core.List.{List, [], ◌∷◌, ◌++◌}
use mathlib.Core.Option.{some}
use lib.Dec.{leb}
use lib.IntN.{ℤ, nat_abs}
use lib.ListN.{length, take, drop, length-take}
use lib.Seq.{length-take-le, take-nil, take-take}
use Rattle.grid.specs.Lists.{front, past}
use Rattle.grid.proofs.Sizes.{mass}
use Rattle.grid.proofs.Slices.{drop-later}
use Rattle.rules.specs.Histories.{Edit, advance_edits}
use Rattle.consolidation.specs.Entries.{most_mass}
use Rattle.edits.specs.Edits as timed
use Rattle.edits.specs.Buffers.{LentBuffer}
use Rattle.advances.specs.Renewed.{Renewed}
use Rattle.backends.specs.Segments.{part}
use Rattle.moments.specs.Present.{edits}
use Rattle.moments.proofs.Columns.{edits_long, take-edits}
use Rattle.gather.specs.Gather.{Ascends, up_to, gathered, Moves, Moved, Within, WithinDone}
use Rattle.gather.proofs.Ends.{times_end, ends_bounds, ends_front, ends_past}
use Rattle.gather.proofs.Bounds.{front_light, gathered_light, gathered_ascends}
use Rattle.gather.proofs.Buffers.{buffer_asks, buffer_held, buffer_past}

drop-take : {A : Type 0} (a e : ℕ) (l : List A) → a ≤ e → drop a (take e l) ≡ part a e l
drop-take zero e l h = let z : e ≡ e - 0 = omega arith in ap (λ n. take n l) z
drop-take (suc a) zero l h = absurd (omega arith)
drop-take (suc a) (suc e) [] h = sym (take-nil (suc e - suc a))
drop-take (suc a) (suc e) (x ∷ l) h = let z : e - a ≡ suc e - suc a = omega arith in drop-take a e l (omega arith) ∙ ap (λ n. take n (drop a l)) z

module _ {a e n : ℕ} {xv xt : List ℕ} {xd : List ℤ} {places firsts seconds : List ℕ} {sums : List ℤ} (p : Within a e n xv xt xd places firsts seconds sums)
    (t : ℕ) {to : ℕ} (q : to ≡ a + length (front (λ u. leb u t) (drop a (take (e - 0) xt)))) where
  abbrev xs : List Edit
  xs = edits xv xt xd

  abbrev ahead : List Edit
  ahead = drop a (take e xs)

  xs_long : length xs ≡ length xv
  xs_long = edits_long xv xt xd p.moves.same_t p.moves.same_d

  front_long : length (take e xs) ≡ e
  front_long = let l : length xs ≡ length xv = xs_long in let h : e ≤ length xv = p.moves.within in length-take-le e xs (omega arith)

  inside : a ≤ length (take e xs)
  inside = let l : length (take e xs) ≡ e = front_long in let h : a ≤ e = p.moves.forth in omega arith

  end_is : to ≡ a + length (front (up_to t) ahead)
  end_is =
      let z : e - 0 ≡ e = omega arith in
      times_end t a (take e xv) (take e xt) (take e xd) (simp (length-take, p.moves.same_t)) (simp (length-take, p.moves.same_d)) (q ∙ ap (λ i. a + length (front (λ u. leb u t) (drop a (take i xt)))) z)
      ∙ ap (λ i. a + length (front (up_to t) (drop a i))) (sym (take-edits e xv xt xd))

  pub within_end : (a ≤ to) × (to ≤ e)
  within_end =
      let b = ends_bounds t a (take e xs) inside end_is in
      let l : length (take e xs) ≡ e = front_long in
      let h : to ≤ length (take e xs) = b.1 in
      (b.0, omega arith)

  ahead_is : ahead ≡ part a e xs
  ahead_is = drop-take a e xs p.moves.forth

  new_is : part a to xs ≡ front (up_to t) (part a e xs)
  new_is =
      let x : a ≤ to = within_end.0 in
      let y : to ≤ e = within_end.1 in
      sym (take-take (to - a) (e - a) (drop a xs) (omega arith)) ∙ ap (take (to - a)) (sym ahead_is) ∙ ends_front t a (take e xs) inside end_is ∙ ap (front (up_to t)) ahead_is

  rest_is : part to e xs ≡ past (up_to t) (part a e xs)
  rest_is = sym (drop-take to e xs within_end.1) ∙ ends_past t a (take e xs) inside end_is ∙ ap (past (up_to t)) ahead_is

  pub within_moves : Moves a to n xv xt xd
  within_moves =
      let y : to ≤ e = within_end.1 in
      let h : e ≤ length xv = p.moves.within in
      record { same_t = p.moves.same_t; same_d = p.moves.same_d; before = p.moves.before; forth = within_end.0; within = omega arith }

  module _ (xv₁ xt₁ : List ℕ) (xd₁ : List ℤ) {c : ℕ} (lv : length xv₁ ≡ length xv) (lt : length xt₁ ≡ length xt) (ld : length xd₁ ≡ length xd) (r : Moved a to n xs (edits xv₁ xt₁ xd₁) c) where
    behind : c ≤ to
    behind = let b : n ≤ a = p.moves.before in let x : a ≤ to = within_end.0 in let q : c ≡ n + (to - a) = r.end in omega arith

    few : c ≤ e
    few = let b : c ≤ to = behind in let y : to ≤ e = within_end.1 in omega arith

    same_t : length xt₁ ≡ length xv₁
    same_t = lt ∙ p.moves.same_t ∙ sym lv

    same_d : length xd₁ ≡ length xv₁
    same_d = ld ∙ p.moves.same_d ∙ sym lv

    within : c ≤ length xv₁
    within = let f : c ≤ e = few in let b : e ≤ length xv = p.moves.within in omega arith

    row : take c (edits xv₁ xt₁ xd₁) ≡ take n xs ++ front (up_to t) (part a e xs)
    row = r.front_is ∙ ap (λ z. take n xs ++ z) new_is

    pub within_asks : LentBuffer c xt₁ xv₁ xd₁ places firsts seconds sums
    within_asks =
        let f : mass nat_abs (front (up_to t) (part a e xs)) ≤ mass nat_abs (part a e xs) = front_light t (part a e xs) in
        let l : mass nat_abs (take n xs) + mass nat_abs (part a e xs) ≤ most_mass = p.light in
        buffer_asks xv₁ xt₁ xd₁ c (take n xs) (front (up_to t) (part a e xs)) same_t same_d within row (omega arith) few p.scratch

    pub within_done : (m : ℕ) (xv₂ xt₂ : List ℕ) (xd₂ : List ℤ) {k : ℕ} → length xv₂ ≡ length xv₁ → length xt₂ ≡ length xt₁ → length xd₂ ≡ length xd₁
        → Renewed (advance_edits (some m) (take c (timed.edits xt₁ xv₁ xd₁))) c (timed.edits xt₁ xv₁ xd₁) (timed.edits xt₂ xv₂ xd₂) k
        → WithinDone t m a e n xs (edits xv₂ xt₂ xd₂) (record { count = k; at = to })
    within_done m xv₂ xt₂ xd₂ {k} mv mt md w =
        let h : take k (edits xv₂ xt₂ xd₂) ≡ gathered t m (take n xs) (part a e xs) = buffer_held xv₁ xt₁ xd₁ c (take n xs) (front (up_to t) (part a e xs)) same_t same_d within row m xv₂ xt₂ xd₂ w in
        let d : drop c (edits xv₂ xt₂ xd₂) ≡ drop c (edits xv₁ xt₁ xd₁) = buffer_past xv₁ xt₁ xd₁ c (take n xs) (front (up_to t) (part a e xs)) same_t same_d within row m xv₂ xt₂ xd₂ w in
        let b : c ≤ to = behind in
        let g : part to e (edits xv₂ xt₂ xd₂) ≡ past (up_to t) (part a e xs) = ap (take (e - to)) (drop-later (edits xv₂ xt₂ xd₂) (edits xv₁ xt₁ xd₁) c to b d ∙ r.past_is) ∙ rest_is in
        let l : k ≤ c = w.within in
        let i : c ≤ length xv₁ = within in
        let o : length (edits xv₂ xt₂ xd₂) ≡ length xv₂ = edits_long xv₂ xt₂ xd₂ (mt ∙ same_t ∙ sym mv) (md ∙ same_d ∙ sym mv) in
        let x : mass nat_abs (take k (edits xv₂ xt₂ xd₂)) ≡ mass nat_abs (gathered t m (take n xs) (part a e xs)) = ap (mass nat_abs) h in
        let y : mass nat_abs (part to e (edits xv₂ xt₂ xd₂)) ≡ mass nat_abs (past (up_to t) (part a e xs)) = ap (mass nat_abs) g in
        let z : mass nat_abs (gathered t m (take n xs) (part a e xs)) + mass nat_abs (past (up_to t) (part a e xs)) ≤ mass nat_abs (take n xs) + mass nat_abs (part a e xs) = gathered_light t m (take n xs) (part a e xs) in
        record {
          held_is = h;
          held_long = omega arith;
          held_ascends = subst Ascends (sym h) (gathered_ascends t m (take n xs) (part a e xs));
          ahead_is = g;
          before = omega arith;
          forth = within_end.1;
          light = omega arith;
        }
