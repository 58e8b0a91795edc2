-- The marks of a window stand for the rounds in which some key crossed.
--
-- marked-count: of lists no longer than n, the marks set over 1,024 zeros, counted up to n, are the rounds in which one of the lists is true
-- count_most: no more are marked than there are marks
use Prim.Native.Nat.{ℕ, zero, suc, ◌≤◌}
use native.Mathlib.Omega.{arith}
use mathlib.Core.Bool.{Bool, true, false, cond, ◌||◌}
use mathlib.Core.Path.{◌≡◌, refl, sym, ◌∙◌, ap, ap₂}
use mathlib.Core.List.{List, [], ◌∷◌}
use lib.Dec.{eqb}
use lib.ListN.{length, take, replicate}
use Rattle.grid.specs.Lists.{keep}
use Rattle.grid.proofs.Lists.{All, nil, cons, keep_length}
use Rattle.rules.specs.Retire.{either, rounds_of}
use Rattle.marks.specs.Marks.{marked, marked_all, count_of}

pub count_most : (ms : List ℕ) → count_of ms ≤ length ms
unfolding count_of
count_most ms = keep_length (eqb 1) ms

-- the first m marks of these rounds
shown : ℕ → List Bool → List ℕ
shown zero bs = []
shown (suc m) [] = 0 ∷ shown m []
shown (suc m) (b ∷ bs) = cond b 1 0 ∷ shown m bs

shown_none : (m : ℕ) → shown m [] ≡ replicate m 0
unfolding shown
shown_none zero = refl
shown_none (suc m) = ap (λ l. 0 ∷ l) (shown_none m)

either_none : (cs : List Bool) → either cs [] ≡ cs
either_none [] = refl
either_none (c ∷ cs) = refl

or_comm : (a b : Bool) → (a || b) ≡ (b || a)
or_comm true true = refl
or_comm true false = refl
or_comm false true = refl
or_comm false false = refl

or_turned : (a c b : Bool) → (a || (c || b)) ≡ ((c || a) || b)
or_turned true true b = refl
or_turned true false b = refl
or_turned false true b = refl
or_turned false false b = refl

mark_or : (c b : Bool) → ◌≡◌ {A = ℕ} (cond c 1 (cond b 1 0)) (cond (c || b) 1 0)
mark_or true b = refl
mark_or false b = refl

either_turned : (xs cs bs : List Bool) → either xs (either cs bs) ≡ either (either cs xs) bs
either_turned [] cs bs = rw (either_none cs)
either_turned (a ∷ xs) [] bs = refl
either_turned (a ∷ xs) (c ∷ cs) [] = ap₂ (λ x l. x ∷ l) (or_comm a c) (sym (ap (either xs) (either_none cs)) ∙ either_turned xs cs [] ∙ either_none (either cs xs))
either_turned (a ∷ xs) (c ∷ cs) (b ∷ bs) = ap₂ (λ x l. x ∷ l) (or_turned a c b) (either_turned xs cs bs)

mark_either : (m : ℕ) (cs bs : List Bool) → marked cs (shown m bs) ≡ shown m (either cs bs)
unfolding marked shown
mark_either m [] bs = refl
mark_either zero (c ∷ cs) bs = refl
mark_either (suc m) (c ∷ cs) [] = ap (λ l. cond c 1 0 ∷ l) (mark_either m cs [] ∙ ap (shown m) (either_none cs))
mark_either (suc m) (c ∷ cs) (b ∷ bs) = ap₂ (λ x l. x ∷ l) (mark_or c b) (mark_either m cs bs)

mark_all : (m : ℕ) (css : List (List Bool)) (bs : List Bool) → marked_all css (shown m bs) ≡ shown m (either (rounds_of css) bs)
unfolding marked_all
mark_all m [] bs = refl
mark_all m (cs ∷ css) bs = ap (marked_all css) (mark_either m cs bs) ∙ mark_all m css (either cs bs) ∙ ap (shown m) (either_turned (rounds_of css) cs bs)

either_short : (n : ℕ) (xs bs : List Bool) → length xs ≤ n → length bs ≤ n → length (either xs bs) ≤ n
either_short n [] bs h k = k
either_short n (a ∷ xs) [] h k = h
either_short zero (a ∷ xs) (b ∷ bs) h k = absurd (let z : suc (length xs) ≤ 0 = h in omega arith)
either_short (suc n) (a ∷ xs) (b ∷ bs) h k =
    let h' : suc (length xs) ≤ suc n = h in
    let k' : suc (length bs) ≤ suc n = k in
    let r : length (either xs bs) ≤ n = either_short n xs bs (omega arith) (omega arith) in
    omega arith

rounds_short : (n : ℕ) {css : List (List Bool)} → All (λ cs. length cs ≤ n) css → length (rounds_of css) ≤ n
rounds_short n nil = omega arith
rounds_short n (cons {x = cs} {xs = css} h a) = either_short n cs (rounds_of css) h (rounds_short n a)

count_shown : (m n : ℕ) (bs : List Bool) → length bs ≤ n → n ≤ m → count_of (take n (shown m bs)) ≡ length (keep (λ b. b) bs)
unfolding count_of shown
count_shown m zero [] h k = refl
count_shown m zero (b ∷ bs) h k = absurd (let z : suc (length bs) ≤ 0 = h in omega arith)
count_shown zero (suc n) bs h k = absurd (omega arith)
count_shown (suc m) (suc n) [] h k = count_shown m n [] (omega arith) (omega arith)
count_shown (suc m) (suc n) (true ∷ bs) h k = ap suc (count_shown m n bs (let z : suc (length bs) ≤ suc n = h in omega arith) (omega arith))
count_shown (suc m) (suc n) (false ∷ bs) h k = count_shown m n bs (let z : suc (length bs) ≤ suc n = h in omega arith) (omega arith)

pub marked-count : (n : ℕ) (css : List (List Bool)) → n ≤ 1024 → All (λ cs. length cs ≤ n) css → count_of (take n (marked_all css (replicate 1024 0))) ≡ length (keep (λ b. b) (rounds_of css))
marked-count n css h a =
    ap (λ l. count_of (take n (marked_all css l))) (sym (shown_none 1024))
    ∙ ap (λ l. count_of (take n l)) (mark_all 1024 css [] ∙ ap (shown 1024) (either_none (rounds_of css)))
    ∙ count_shown 1024 n (rounds_of css) (rounds_short n a) h
