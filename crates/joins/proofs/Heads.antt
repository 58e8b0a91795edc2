-- The least of heads, and the meet of what remains, part by part.
--
-- lesser_less, lesser_more, lesser_none: the lesser of two times, the second of which may be absent
-- head_some, head_none: the lesser of a head and another. least_five: the least of five heads
-- meets-append: the meet of lists in a row. ahead_some, ahead_none: the same of what is ahead
-- meets_four: the meet of four lists in a row. meets_last: the last of two lists may be met last
use Prim.Native.Nat.{ℕ, ◌≤◌, ◌<◌}
use native.Mathlib.Omega.{arith}
use mathlib.Core.Bool.{true, false}
use mathlib.Core.List.{List, [], ◌∷◌, ◌++◌}
use mathlib.Core.Option.{Option, none, some}
use mathlib.Core.Path.{◌≡◌, refl, sym, ◌∙◌, ap}
use lib.Dec.{ltb}
use lib.ListN.{length, take, drop, get_or, drop_of_length-le}
use Rattle.grid.specs.Times.{meet, meet_onto, meets}
use Rattle.grid.proofs.Loops.{drop_more}
use Rattle.grid.proofs.Times.{ext, hi-meet, lo-meet}
use Rattle.times.specs.Meets.{optional}
use Rattle.times.specs.Meets.{Meet}
use Rattle.std.specs.Prelude.{Some, None}
use Rattle.times.specs.declared.time.PackedTime.{PackedTime}
use Rattle.rules.specs.Discover.{lesser, least}
use Rattle.histories.specs.Suffixes.{Suffixes}
use Rattle.joins.specs.Heads.{head_with}

module _ (t : ℕ) {u : PackedTime} {o : Meet} where
  pub lesser_less : o ≡ Some u → ltb u.0 t ≡ true → u.0 ≡ lesser t (optional o)
  unfolding lesser
  lesser_less e h = rw (e, h)

  pub lesser_more : o ≡ Some u → ltb u.0 t ≡ false → t ≡ lesser t (optional o)
  unfolding lesser
  lesser_more e h = rw (e, h)

pub lesser_none : (t : ℕ) {o : Meet} → o ≡ None → t ≡ lesser t (optional o)
unfolding lesser
lesser_none t e = rw e

module _ (ts : List ℕ) (at : ℕ) (o : Option ℕ) where
  pub head_some : {x : ℕ} → at < length ts → x ≡ lesser (get_or ts at 0) o → some x ≡ head_with (drop at ts) o
  unfolding head_with
  head_some h e = rw (drop_more ts at 0 h, ← e)

  pub head_none : length ts ≤ at → o ≡ head_with (drop at ts) o
  unfolding head_with
  head_none h = rw (drop_of_length-le ts h)

least_head : (xs ys : List ℕ) → head_with xs (least ys) ≡ least (take 1 xs ++ ys)
unfolding head_with least
least_head [] ys = refl
least_head (x ∷ xs) ys = refl

least_one : (xs : List ℕ) → head_with xs none ≡ least (take 1 xs)
unfolding head_with least
least_one [] = refl
least_one (x ∷ xs) = refl

pub least_five : (a b c d e : List ℕ) {v w x y z : Option ℕ} → v ≡ head_with e none → w ≡ head_with d v → x ≡ head_with c w → y ≡ head_with b x → z ≡ head_with a y → z ≡ least (take 1 a ++ (take 1 b ++ (take 1 c ++ (take 1 d ++ take 1 e))))
least_five a b c d e {v} {w} {x} {y} p q r s t =
    let p' : v ≡ least (take 1 e) = p ∙ least_one e in
    let q' : w ≡ least (take 1 d ++ take 1 e) = q ∙ ap (head_with d) p' ∙ least_head d (take 1 e) in
    let r' : x ≡ least (take 1 c ++ (take 1 d ++ take 1 e)) = r ∙ ap (head_with c) q' ∙ least_head c (take 1 d ++ take 1 e) in
    let s' : y ≡ least (take 1 b ++ (take 1 c ++ (take 1 d ++ take 1 e))) = s ∙ ap (head_with b) r' ∙ least_head b (take 1 c ++ (take 1 d ++ take 1 e)) in
    t ∙ ap (head_with a) s' ∙ least_head a (take 1 b ++ (take 1 c ++ (take 1 d ++ take 1 e)))

-- ---- meets
meet_assoc : (s t u : ℕ) → meet (meet s t) u ≡ meet s (meet t u)
meet_assoc s t u = ext _ _ (simp hi-meet (omega arith)) (simp lo-meet (omega arith))

unfoldable both : Option ℕ → Option ℕ → Option ℕ
both none o = o
both (some t) o = some (meet_onto t o)

both_onto : (t : ℕ) (p o : Option ℕ) → some (meet_onto t (both p o)) ≡ both (some (meet_onto t p)) o
unfolding both meet_onto
both_onto t none o = refl
both_onto t (some u) none = refl
both_onto t (some u) (some v) = ap some (sym (meet_assoc t u v))

meets-after : (ts : List ℕ) (o : Option ℕ) → meets ts o ≡ both (meets ts none) o
unfolding meets both
meets-after [] o = refl
meets-after (t ∷ ts) o = ap (λ p. some (meet_onto t p)) (meets-after ts o) ∙ both_onto t (meets ts none) o

module _ (ts ms : List ℕ) (at : ℕ) (o : Option ℕ) where
  pub ahead_some : {x : ℕ} → Suffixes ts ms at → at < length ts → x ≡ meet_onto (get_or ms at 0) o → some x ≡ meets (drop at ts) o
  unfolding both
  ahead_some w h e = ap some e ∙ ap (λ p. both p o) (sym (w.tells at (omega arith) h)) ∙ sym (meets-after (drop at ts) o)

  pub ahead_none : length ts ≤ at → o ≡ meets (drop at ts) o
  unfolding meets
  ahead_none h = rw (drop_of_length-le ts h)

pub meets-append : (xs ys : List ℕ) (o : Option ℕ) → meets xs (meets ys o) ≡ meets (xs ++ ys) o
unfolding meets
meets-append [] ys o = refl
meets-append (x ∷ xs) ys o = ap (λ p. some (meet_onto x p)) (meets-append xs ys o)

pub meets_four : (a b c d : List ℕ) {w x y z : Option ℕ} → w ≡ meets d none → x ≡ meets c w → y ≡ meets b x → z ≡ meets a y → z ≡ meets (a ++ (b ++ (c ++ d))) none
meets_four a b c d {w} {x} {y} p q r s =
    let q' : x ≡ meets (c ++ d) none = q ∙ ap (meets c) p ∙ meets-append c d none in
    let r' : y ≡ meets (b ++ (c ++ d)) none = r ∙ ap (meets b) q' ∙ meets-append b (c ++ d) none in
    s ∙ ap (meets a) r' ∙ meets-append a (b ++ (c ++ d)) none

meet_comm : (s t : ℕ) → meet s t ≡ meet t s
meet_comm s t = ext _ _ (simp hi-meet (omega arith)) (simp lo-meet (omega arith))

both_comm : (o p : Option ℕ) → both o p ≡ both p o
unfolding both meet_onto
both_comm none none = refl
both_comm none (some u) = refl
both_comm (some t) none = refl
both_comm (some t) (some u) = ap some (meet_comm t u)

pub meets_last : (xs ys : List ℕ) → meets ys (meets xs none) ≡ meets (xs ++ ys) none
meets_last xs ys = meets-after ys (meets xs none) ∙ both_comm (meets ys none) (meets xs none) ∙ sym (meets-after xs (meets ys none)) ∙ meets-append xs ys none
