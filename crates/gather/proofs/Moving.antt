-- Edits that are moved to the front.
--
-- column_moved: what is left of a column. moved: of three
use Prim.Native.Nat.{ℕ, ◌+◌, ◌-◌, ◌≤◌}
use native.Mathlib.Omega.{arith}
use mathlib.Core.Path.{◌≡◌, refl, sym, ◌∙◌, ap, subst}
use mathlib.Core.List.{List, ◌++◌, append_assoc}
use lib.IntN.{ℤ}
use lib.ListN.{length, take, drop, length-take}
use lib.Seq.{drop-drop}
use borrow.Rule.Slice.PartMut.{put_mid}
use Rattle.std.specs.List.{copy_within}
use Rattle.grid.proofs.Slices.{drop-later}
use Rattle.backends.specs.Columns.{Column}
use Rattle.backends.specs.Segments.{part}
use Rattle.backends.proofs.Columns.{column_put}
use Rattle.backends.proofs.Segments.{part_length}
use Rattle.moments.specs.Present.{edits}
use Rattle.moments.proofs.Columns.{edits-append, take-edits, drop-edits, part-edits}
use Rattle.gather.specs.Gather.{Moves, Moved}

module _ (a e n : ℕ) (h : a ≤ e) (b : n ≤ a) where
  column_moved : {A : Type 0} {s s' : List A} → s' ≡ copy_within s a e n → e ≤ length s → Column s n (part a e s) s' (n + (e - a))
  column_moved {s = s} q k =
      let p : copy_within s a e n ≡ put_mid n (e - a) s (part a e s) = append_assoc (take n s) (part a e s) (drop (n + (e - a)) s) ∙ ap (λ z. take n s ++ (part a e s ++ z)) (sym (drop-drop (e - a) n s)) in
      subst (λ z. Column s n (part a e s) z (n + (e - a))) (sym (q ∙ p)) (column_put refl (part_length a e s h k) (omega arith) refl)

module _ {a e n : ℕ} {xv xt : List ℕ} {xd : List ℤ} (m : Moves a e n xv xt xd) {xv' xt' : List ℕ} {xd' : List ℤ} where
  pub moved : xv' ≡ copy_within xv a e n → xt' ≡ copy_within xt a e n → xd' ≡ copy_within xd a e n → Moved a e n (edits xv xt xd) (edits xv' xt' xd') (n + (e - a))
  moved p q s =
      let cv = column_moved a e n m.forth m.before p m.within in
      let ct = column_moved a e n m.forth m.before q (omega (arith, m.same_t, m.within)) in
      let cd = column_moved a e n m.forth m.before s (omega (arith, m.same_d, m.within)) in
      let k = n + (e - a) in
      let l : drop k (edits xv' xt' xd') ≡ drop k (edits xv xt xd) = drop-edits k xv' xt' xd' ∙ (λ z. edits (cv.past z) (ct.past z) (cd.past z)) ∙ sym (drop-edits k xv xt xd) in
      record {
        end = refl;
        front_is = take-edits k xv' xt' xd' ∙ (λ z. edits (cv.front z) (ct.front z) (cd.front z))
            ∙ edits-append (take n xv) (take n xt) (take n xd) (part a e xv) (part a e xt) (part a e xd) (simp (length-take, m.same_t)) (simp (length-take, m.same_d))
            ∙ (λ z. sym (take-edits n xv xt xd) z ++ part-edits a e xv xt xd z);
        past_is = drop-later (edits xv' xt' xd') (edits xv xt xd) k e (omega (arith, m.before, m.forth)) l;
      }
