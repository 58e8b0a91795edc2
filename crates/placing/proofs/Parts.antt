-- A part of a slice that was lent and is back, as a list laid into the slice.
--
-- from_zero: a part may start at 0. part-laid: a list that fills the part. part_front: a list over the front of the part, whose rest stayed as it was
-- first-length, first_part: of the first n elements, and what they are afterwards
use Prim.Native.Nat.{ℕ, ◌+◌, ◌-◌, ◌≤◌}
use native.Mathlib.Omega.{arith}
use native.Mathlib.Nat.{sub-zero}
use mathlib.Core.List.{List, ◌++◌, append_assoc}
use mathlib.Core.Path.{◌≡◌, sym, ◌∙◌, ap}
use lib.ListN.{length, take, drop, take-append-drop}
use lib.Seq.{length-take-le, take_at, drop-append-le, drop-drop}
use borrow.Rule.Slice.PartMut.{put_mid, mid_of, post_of, Post-is, mid_len}
use Rattle.placing.specs.Parts.{laid_at}

pub from_zero : (n : ℕ) → 0 ≤ n
from_zero n = omega arith

module _ {A : Type 0} (s : List A) (at : ℕ) (xs : List A) where
  pub part-laid : (e : ℕ) {part : List A} → at + length xs ≡ e → part ≡ xs → put_mid at (e - at) s part ≡ laid_at at xs s
  unfolding laid_at
  part-laid e l p = (λ i. take at s ++ (p i ++ Post-is at e s (omega arith) i)) ∙ ap (λ n. take at s ++ (xs ++ drop n s)) (sym l)

  pub part_front : (e : ℕ) {part : List A} → at + length xs ≤ e → e ≤ length s → part ≡ xs ++ drop (length xs) (mid_of at (e - at) s) → put_mid at (e - at) s part ≡ laid_at at xs s
  unfolding laid_at
  part_front e {part} h f p =
      let l : length (mid_of at (e - at) s) ≡ e - at = mid_len at e s f in
      let rest : drop (length xs) (mid_of at (e - at) s) ++ post_of at (e - at) s ≡ drop (at + length xs) s =
      sym (drop-append-le (length xs) (mid_of at (e - at) s) (post_of at (e - at) s) (omega arith))
      ∙ ap (drop (length xs)) (take-append-drop (e - at) (drop at s))
      ∙ drop-drop (length xs) at s in
      ap (λ y. take at s ++ (y ++ post_of at (e - at) s)) p
      ∙ ap (λ y. take at s ++ y) (append_assoc xs (drop (length xs) (mid_of at (e - at) s)) (post_of at (e - at) s) ∙ ap (λ y. xs ++ y) rest)

module _ {A : Type 0} {n : ℕ} (s : List A) where
  pub first-length : n ≤ length s → length (take (n - 0) s) ≡ n
  first-length h = length-take-le (n - 0) s (omega arith) ∙ sub-zero n

  pub first_part : (part : List A) → length part ≡ n → take n (put_mid 0 (n - 0) s part) ≡ part
  first_part part l = take_at part (post_of 0 (n - 0) s) n l
