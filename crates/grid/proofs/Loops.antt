-- What loops keep. A loop that reads a list keeps the answer of what is left of it, `drop i l`; a loop that writes a list from the front
-- keeps `take k out ++ rest ≡ goal`: what is written and what is still to be written are the goal.
--
-- all_get_d: what holds of each element holds of the one at i. any_at: that one is one of the list
-- any_hit, any_miss, any_end: the element at i passes, does not pass, all is read. every_hit (the element does not pass), every_miss, every_end: the same for `every`
-- put_more, put_end: a store of rest's first element, and nothing is left
-- drop_more, map_more, fills_more, fills_none: what is left to be copied, to be gathered, to be filled
-- ahead_more, ahead_set, ahead_get_or: what lies ahead of i is as it was, also after a store behind it
use Prim.Native.Nat.{ℕ, zero, suc, ◌≤◌, ◌<◌, ◌+◌, ◌-◌}
use native.Mathlib.Nat.{add-zero}
use native.Mathlib.Numerals.{add-one}
use native.Mathlib.Omega.{arith}
use mathlib.Core.Bool.{Bool, true, false}
use mathlib.Core.List.{List, [], ◌∷◌, ◌++◌, append-nil, map}
use mathlib.Core.Path.{◌≡◌, refl, sym, ◌∙◌, ap}
use lib.Dec.{eqb}
use borrow.Author.Tests.{eq-eqb}
use lib.ListN.{length, take, drop, get_or, set, replicate, drop_of_length-le}
use lib.Seq.{take-suc-set, append_snoc, drop-cons, take_all, drop-drop, drop-set-lt, get_or-drop}
use Rattle.grid.specs.Lists.{any, every}
use Rattle.grid.proofs.Tests.{by-test, clash}
use Rattle.grid.proofs.Lists.{All, head, tail, none_all}

-- ---- reading
pub all_get_d : {A : Type 0} {P : A → Type 0} (l : List A) (i : ℕ) (d : A) → All P l → i < length l → P (get_or l i d)
all_get_d [] i d a h = absurd (omega arith)
all_get_d (x ∷ l) zero d a h = head a
all_get_d (x ∷ l) (suc i) d a h = all_get_d l i d (tail a) (let k : suc i < suc (length l) = h in omega arith)

module _ {A : Type 0} (p : A → Bool) (l : List A) (i : ℕ) (d : A) {a : Bool} where
  pub any_hit : i < length l → any p (drop i l) ≡ a → p (get_or l i d) ≡ true → true ≡ a
  any_hit h e t = rw (← e, drop-cons l i d h, t)

  pub any_miss : i < length l → any p (drop i l) ≡ a → p (get_or l i d) ≡ false → any p (drop (i + 1) l) ≡ a
  any_miss h e t = rw (← e, drop-cons l i d h, t, add-one)

  pub every_hit : i < length l → every p (drop i l) ≡ a → p (get_or l i d) ≡ false → false ≡ a
  every_hit h e t = rw (← e, drop-cons l i d h, t)

  pub every_miss : i < length l → every p (drop i l) ≡ a → p (get_or l i d) ≡ true → every p (drop (i + 1) l) ≡ a
  every_miss h e t = rw (← e, drop-cons l i d h, t, add-one)

module _ {A : Type 0} (p : A → Bool) (l : List A) (i : ℕ) {a : Bool} where
  pub any_end : length l ≤ i → any p (drop i l) ≡ a → false ≡ a
  any_end h e = rw (← e, drop_of_length-le l h)

  pub every_end : length l ≤ i → every p (drop i l) ≡ a → true ≡ a
  every_end h e = rw (← e, drop_of_length-le l h)

-- ---- writing
module _ {A : Type 0} (out : List A) (k : ℕ) {rest goal : List A} where
  pub put_more : (x : A) {rest' : List A} → k < length out → take k out ++ rest ≡ goal → rest ≡ x ∷ rest' → take (k + 1) (set out k x) ++ rest' ≡ goal
  put_more x h e s = rw (add-one, take-suc-set out k x h, append_snoc, ← s) e

  pub put_end : length out ≤ k → take k out ++ rest ≡ goal → rest ≡ [] → out ≡ goal
  put_end h e s = rw (← e, s, append-nil, take_all k out h)

pub drop_more : {A : Type 0} (src : List A) (i : ℕ) (d : A) → i < length src → drop i src ≡ get_or src i d ∷ drop (i + 1) src
drop_more src i d h = rw add-one (drop-cons src i d h)

pub map_more : {A B : Type 0} (f : A → B) (l : List A) (i : ℕ) (d : A) → i < length l → map f (drop i l) ≡ f (get_or l i d) ∷ map f (drop (i + 1) l)
map_more f l i d h = ap (map f) (drop_more l i d h)

pub fills_more : {A : Type 0} (v : A) (n k : ℕ) → k < n → replicate (n - k) v ≡ v ∷ replicate (n - (k + 1)) v
fills_more v n k h = let e : n - k ≡ suc (n - (k + 1)) = omega arith in rw e

pub fills_none : {A : Type 0} (v : A) (n k : ℕ) → n ≤ k → replicate (n - k) v ≡ []
fills_none v n k h = let e : n - k ≡ 0 = omega arith in rw e

-- ---- reading ahead of what is written
module _ {A : Type 0} (s s₀ : List A) (i : ℕ) where
  pub ahead_more : drop i s ≡ drop i s₀ → drop (i + 1) s ≡ drop (i + 1) s₀
  ahead_more e = sym (drop-drop 1 i s) ∙ ap (drop 1) e ∙ drop-drop 1 i s₀

  pub ahead_set : (k : ℕ) (v : A) → k ≤ i → drop i s ≡ drop i s₀ → drop (i + 1) (set s k v) ≡ drop (i + 1) s₀
  ahead_set k v h e = drop-set-lt (i + 1) s k v (omega arith) ∙ ahead_more e

  pub ahead_get_or : (d : A) → drop i s ≡ drop i s₀ → get_or s i d ≡ get_or s₀ i d
  ahead_get_or d e = sym (at s) ∙ ap (λ l. get_or l 0 d) e ∙ at s₀
    where
      at : (l : List A) → get_or (drop i l) 0 d ≡ get_or l i d
      at l = get_or-drop i l 0 d ∙ ap (λ n. get_or l n d) (add-zero i)

pub any_at : (ts : List ℕ) (i : ℕ) → i < length ts → any (eqb (get_or ts i 0)) ts ≡ true
any_at ts i h =
    by-test (any (eqb (get_or ts i 0)) ts) (λ e. e)
    (λ e. clash (eqb (get_or ts i 0) (get_or ts i 0)) (eq-eqb (get_or ts i 0) (get_or ts i 0) refl) (all_get_d ts i 0 (none_all (eqb (get_or ts i 0)) ts e) h))
