-- Numbers written from a place on.
--
-- laid-at: one number. laid_then: one list after another
-- laid_part: a list that was written over a part of a slice
-- laid_room: room for what follows
-- zeros_length: of a list of zeros. bound-length, tile-length: how many numbers a bound and a tile have
-- bound_written: a bound's length, times and zeros, written one after the other. tile-first, tile-second, tile_written: the same of a tile
use Prim.Native.Nat.{ℕ, zero, suc, ◌+◌, ◌-◌, ◌≤◌}
use native.Mathlib.Omega.{arith}
use mathlib.Core.List.{List, [], ◌∷◌, ◌++◌, append_assoc}
use mathlib.Core.Path.{◌≡◌, refl, sym, ◌∙◌, ap, subst}
use lib.ListN.{length, take, drop, set, replicate, length-append}
use lib.Seq.{length-take-le}
use Rattle.grid.specs.Lists.{padded}
use Rattle.rules.specs.Memory.{most_bound, tile_numbers}
use Rattle.grid.specs.Slices.{Laid}
use Rattle.grid.proofs.Slices.{Laying, laying_more, laying_end, laid_fits, laid-length, laid_front, laid-twice}
use borrow.Rule.Slice.PartMut.{put_mid}
use Rattle.std.proofs.lemmas.Slice.{put_mid-paste}
use Rattle.std.proofs.lemmas.List.Edits.{paste_all}
use Rattle.tiles.specs.Described.{bound}

module _ {A : Type 0} where
  laying_at : (s : List A) (at : ℕ) (xs : List A) → at ≤ length s → Laying s s at xs (take at s ++ xs)
  laying_at s at xs h = record { within = h; same = refl; done = refl; ahead = refl }

  pub laid-at : (s : List A) (at : ℕ) (x : A) → at + 1 ≤ length s → Laid (take at s ++ x ∷ []) s (set s at x) (at + 1)
  laid-at s at x h = laying_end (laying_more (laying_at s at (x ∷ []) (omega arith)) x (omega arith) refl) refl

  pub laid_then : (at : ℕ) (xs ys : List A) {s s₁ s₂ : List A} {k r : ℕ} → at + (length xs + length ys) ≤ length s
      → Laid (take at s ++ xs) s s₁ k → Laid (take k s₁ ++ ys) s₁ s₂ r → Laid (take at s ++ (xs ++ ys)) s s₂ r
  laid_then at xs ys {s} {s₁} {s₂} {k} {r} h a b =
      let n : length (take at s ++ xs) ≡ at + length xs = length-append (take at s) xs ∙ ap (λ m. m + length xs) (length-take-le at s (omega arith)) in
      let m : length ((take at s ++ xs) ++ ys) ≡ length (take at s ++ xs) + length ys = length-append (take at s ++ xs) ys in
      let b' : Laid ((take at s ++ xs) ++ ys) s₁ s₂ r = subst (λ l. Laid (l ++ ys) s₁ s₂ r) (laid_front a (omega arith)) b in
      subst (λ l. Laid l s s₂ r) (append_assoc (take at s) xs ys) (laid-twice a b' (omega arith) (omega arith))

  -- there is room for n more
  pub laid_room : (at : ℕ) (xs : List A) (n : ℕ) {s s₁ : List A} {k : ℕ} → at + (length xs + n) ≤ length s → Laid (take at s ++ xs) s s₁ k → k + n ≤ length s₁
  laid_room at xs n {s} {s₁} {k} h a =
      let m : length (take at s ++ xs) ≡ at + length xs = length-append (take at s) xs ∙ ap (λ m. m + length xs) (length-take-le at s (omega arith)) in
      let l : length s₁ ≡ length s = ap length a.holds ∙ laid-length (take at s ++ xs) s in
      omega (arith, a.counted)

-- ---- a part of a slice written as a whole
pub laid_part : {A : Type 0} (s : List A) (at : ℕ) (xs : List A) {ys : List A} {n : ℕ} → at + n ≤ length s → n ≡ length xs → ys ≡ xs → Laid (take at s ++ xs) s (put_mid at (at + n - at) s ys) (at + n)
laid_part s at xs {ys} {n} h e p =
    let k : n ≡ at + n - at = omega arith in
    let l : length (take at s ++ xs) ≡ at + n = length-append (take at s) xs ∙ rw (length-take-le at s (omega arith), e) in
    record {
      counted = sym l;
      holds = put_mid-paste at (at + n - at) s ys xs n p k e ∙ paste_all s at xs n e ∙ sym (append_assoc (take at s) xs (drop (at + n) s)) ∙ sym (rw (laid_fits (take at s ++ xs) s (omega arith), l));
    }

pub zeros_length : (n : ℕ) → length {A = ℕ} (replicate n 0) ≡ n
zeros_length zero = refl
zeros_length (suc n) = ap suc (zeros_length n)

-- ---- a bound, a tile
pub bound-length : (f : List ℕ) → length f ≤ most_bound → length (bound f) ≡ 32
unfolding bound
bound-length f h =
    let n : length (padded 0 most_bound f) ≡ length f + length {A = ℕ} (replicate (most_bound - length f) 0) = length-append f (replicate (most_bound - length f) 0) in
    omega (arith, zeros_length (most_bound - length f))

module _ (s : List ℕ) (at : ℕ) (f : List ℕ) (h : at + 32 ≤ length s) (b : length f ≤ most_bound) {s₁ : List ℕ} {k₁ : ℕ} (w₁ : Laid (take at s ++ length f ∷ []) s s₁ k₁) where
  bound_room : k₁ + 31 ≤ length s₁
  bound_room = laid_room at (length f ∷ []) 31 h w₁

  module _ {s₂ : List ℕ} {k₂ : ℕ} (w₂ : Laid (take k₁ s₁ ++ f) s₁ s₂ k₂) where
    pub bound_written : {s₃ : List ℕ} {r : ℕ} → Laid (take k₂ s₂ ++ replicate (most_bound - length f) 0) s₂ s₃ r → Laid (take at s ++ bound f) s s₃ r
    unfolding bound
    bound_written w₃ =
        let zeros = zeros_length (most_bound - length f) in
        let n : length (padded 0 most_bound f) ≡ length f + length {A = ℕ} (replicate (most_bound - length f) 0) = length-append f (replicate (most_bound - length f) 0) in
        laid_then at (length f ∷ []) (padded 0 most_bound f) (omega arith) w₁ (laid_then k₁ f (replicate (most_bound - length f) 0) (omega (arith, bound_room)) w₂ w₃)

module _ (s : List ℕ) (at : ℕ) (lower upper : List ℕ) (h : at + 65 ≤ length s) (l : length lower ≤ most_bound) (u : length upper ≤ most_bound)
    {s₁ : List ℕ} {k₁ : ℕ} (w₁ : Laid (take at s ++ bound lower) s s₁ k₁) where
  tile_room : k₁ + 33 ≤ length s₁
  tile_room = laid_room at (bound lower) 33 (omega (arith, bound-length lower l)) w₁

  pub tile-first : k₁ + 32 ≤ length s₁
  tile-first = omega (arith, tile_room)

  module _ {s₂ : List ℕ} {k₂ : ℕ} (w₂ : Laid (take k₁ s₁ ++ bound upper) s₁ s₂ k₂) where
    pub tile-second : k₂ + 1 ≤ length s₂
    tile-second = laid_room k₁ (bound upper) 1 (omega (arith, tile_room, bound-length upper u)) w₂

    pub tile_written : (held : ℕ) {s₃ : List ℕ} {r : ℕ} → Laid (take k₂ s₂ ++ held ∷ []) s₂ s₃ r → Laid (take at s ++ tile_numbers (record { lower = lower; upper = upper; held = held })) s s₃ r
    unfolding tile_numbers bound
    tile_written held {s₃} {r} w₃ =
        let n : length (bound upper ++ held ∷ []) ≡ length (bound upper) + 1 = length-append (bound upper) (held ∷ []) in
        subst (λ t. Laid (take at s ++ t) s s₃ r) (sym (append_assoc (bound lower) (bound upper) (held ∷ [])))
        (laid_then at (bound lower) (bound upper ++ held ∷ []) (omega (arith, bound-length lower l, bound-length upper u)) w₁
        (laid_then k₁ (bound upper) (held ∷ []) (omega (arith, tile_room, bound-length upper u)) w₂ w₃))

pub tile-length : (lower upper : List ℕ) (held : ℕ) → length lower ≤ most_bound → length upper ≤ most_bound → length (tile_numbers (record { lower = lower; upper = upper; held = held })) ≡ 65
unfolding tile_numbers bound
tile-length lower upper held l u =
    length-append (bound lower ++ bound upper) (held ∷ []) ∙ rw (length-append (bound lower) (bound upper), bound-length lower l, bound-length upper u)
