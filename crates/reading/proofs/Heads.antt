-- Lists of times, and what follows the last line.
--
-- Listing: so many times of a list were read, and the rest is still to come. end_more: bytes stand after the last line
use Prim.Native.Nat.{ℕ, suc, ◌+◌, ◌-◌, ◌≤◌, ◌<◌}
use native.Mathlib.Omega.{arith}
use native.Mathlib.Numerals.{add-one}
use mathlib.Core.Path.{◌≡◌, refl, sym, ◌∙◌, ap}
use mathlib.Core.List.{List, [], ◌∷◌, ◌++◌}
use mathlib.Core.Option.{Option, none, some}
use lib.ListN.{length, drop, take, set, length-set}
use lib.Seq.{drop-cons, take-suc-set, append_snoc}
use Rattle.rules.specs.Call.{Request as AnyRequest}
use Rattle.form.specs.Text.{ascii}
use Rattle.form.specs.Read.{then, word, time, times, bad, ended}

-- ---- a list
abbrev pub prepend : List ℕ → Option (List ℕ × List ℕ) → Option (List ℕ × List ℕ)
prepend xs none = none
prepend xs (some y) = some (xs ++ y.0, y.1)

prepend_snoc : (xs : List ℕ) (x : ℕ) (o : Option (List ℕ × List ℕ)) → prepend (xs ++ (x ∷ [])) o ≡ prepend xs (then o (λ ts. some (x ∷ ts.0, ts.1)))
prepend_snoc xs x none = refl
prepend_snoc xs x (some y) = rw (append_snoc xs x y.0)

-- k times stand in out
pub record Listing (s : List ℕ) (from : ℕ) (out₀ out : List ℕ) (at k : ℕ) : Type 0 where
  pub most : k ≤ 16
  pub long : length out ≡ length out₀
  pub same : prepend (take k out) (times (16 - k) (drop at s)) ≡ times 16 (drop from s)

module _ {s : List ℕ} {from : ℕ} {out₀ out : List ℕ} {at k : ℕ} (l : Listing s from out₀ out at k) where
  left : k < 16 → 16 - k ≡ suc (16 - (k + 1))
  left h = omega arith

  pub listing_none : k < 16 → none ≡ time (drop at s) → none ≡ times 16 (drop from s)
  unfolding times
  listing_none h e = rw (← l.same, left h, ← e)

  pub listing_full : 16 ≤ k → none ≡ times 16 (drop from s)
  unfolding times
  listing_full h = let z : 16 - k ≡ 0 = omega arith in rw (← l.same, z)

  module _ {t : ℕ} {r : List ℕ} (h : k < 16) (big : 16 ≤ length out₀) (e : some (t, r) ≡ time (drop at s)) where
    inout : k < length out
    inout = rw l.long (omega arith)

    stored : take (k + 1) (set out k t) ≡ take k out ++ (t ∷ [])
    stored = rw (add-one k) (take-suc-set out k t inout)

    pub listing_last : none ≡ word (59 ∷ []) r → some (take (k + 1) (set out k t), r) ≡ times 16 (drop from s)
    unfolding times word
    listing_last f = rw (← l.same, left h, ← e, ← f, stored)

    pub listing_more : {r' : ℕ} → some (drop r' s) ≡ word (59 ∷ []) r → Listing s from out₀ (set out k t) r' (k + 1)
    unfolding times word
    listing_more {r'} f = record {
      most = omega arith;
      long = length-set out k t ∙ l.long;
      same = rw (stored, prepend_snoc (take k out) t (times (16 - (k + 1)) (drop r' s)), ← l.same, left h, ← e, ← f);
    }

-- ---- the end
pub end_more : (s : List ℕ) (n at k : ℕ) → some (drop k s) ≡ word (ascii "end=\n") (drop at s) → k < length s → (a : AnyRequest) → bad (n + 1) ≡ ended n a (word (ascii "end=\n") (drop at s))
unfolding ended
end_more s n at k e h a = ap bad (add-one n) ∙ ap (λ l. ended n a (some l)) (sym (drop-cons s k 0 h)) ∙ ap (ended n a) e
