-- The joins of a time with the times of a buffer, put into two sets.
--
-- joins-append: lists in a row
-- put_new, put_full: a time put into a set in lent memory, with room and without
-- made_none, made-below, made-beyond, made_short: no join, and a single one. made_then: the joins with one list after those with another
-- Making upper n buffer i w wn w' wn' p pn p' pn': a loop has made the joins with the times from i on. making_start, making_more: the loop keeps that
-- retracked_some, retracked_none: the tracked times joined with a meet that may be absent
use Prim.Native.Nat.{ℕ, suc, ◌+◌, ◌-◌, ◌≤◌, ◌<◌}
use native.Mathlib.Omega.{arith}
use mathlib.Core.Bool.{true, false, not}
use mathlib.Core.List.{List, [], ◌∷◌, ◌++◌, map, append_assoc, map-append}
use mathlib.Core.Option.{Option, none, some}
use mathlib.Core.Path.{◌≡◌, refl, sym, ◌∙◌, ap}
use lib.Dec.{ltb, eqb}
use lib.ListN.{length, take, drop, get_or, drop_of_length-le}
use lib.Seq.{length-take-le, drop-cons, take_at}
use Rattle.grid.specs.Lists.{keep}
use Rattle.grid.specs.Times.{join, joined, below, put, puts}
use Rattle.grid.specs.Frontiers.{beyond, short_of}
use Rattle.grid.proofs.Tests.{by-test}
use Rattle.grid.proofs.Ascending.{ascending_put}
use Rattle.grid.proofs.Operations.{puts-append, keep_append, length-puts}
use Rattle.distinct.specs.Sets.{Inserted, Removed}
use Rattle.rules.specs.Histories.{advance_times}
use Rattle.rules.specs.Discover.{most_moments, joins}
use Rattle.advances.specs.Renewed.{Renewed}
use Rattle.histories.proofs.Loads.{map_same}
use Rattle.joins.specs.Sets.{Set, Grown, same, over, Put, Made}

pub joins-append : (n : ℕ) (xs ys : List ℕ) → joins n (xs ++ ys) ≡ joins n xs ++ joins n ys
unfolding joins
joins-append n xs ys = rw (keep_append (λ t. not (below t n)) xs ys) (map-append (join n) (keep (λ t. not (below t n)) xs) (keep (λ t. not (below t n)) ys))

-- ---- lengths
length-put : (t : ℕ) (us : List ℕ) → (length us ≤ length (put t us)) × (length (put t us) ≤ length us + 1)
length-put t [] = (omega arith, omega arith)
length-put t (u ∷ us) =
    let ih = length-put t us in
    by-test (ltb t u) (λ e. rw e (omega arith, omega arith)) (λ e. by-test (eqb t u) (λ e'. rw (e, e') (omega arith, omega arith)) (λ e'. rw (e, e') (omega (arith, ih.0), omega (arith, ih.1))))

-- ---- a time put into a set
pub set_within : {s : List ℕ} {count : ℕ} → Set s count → count ≤ length s
set_within {s} {count} w = let f : count ≤ 1025 = w.few in let g : 1025 ≤ length s = w.long in omega arith

module _ (t : ℕ) (s : List ℕ) (count : ℕ) (w : Set s count) where
  pub put_full : most_moments < count → Put t s count s count
  put_full h =
      let e : length (take count s) ≡ count = length-take-le count s (set_within w) in
      let f : most_moments < length (take count s) = rw e h in
      record { set = w; grown = over f (let k = (length-put t (take count s)).0 in omega arith) }

  pub put_new : (s' : List ℕ) {r : ℕ} → count ≤ most_moments → length s' ≡ length s → Inserted t count s s' r → Put t s count s' r
  put_new s' {r} h l i =
      let e : length (take count s) ≡ count = length-take-le count s (set_within w) in
      let k : length (put t (take count s)) ≤ length (take count s) + 1 = (length-put t (take count s)).1 in
      let c : r ≡ length (put t (take count s)) = i.count_is in
      let g : suc most_moments ≤ length s = w.long in
      let f : take r s' ≡ put t (take count s) = rw i.exit_is (take_at (put t (take count s)) (drop r s) r (sym c)) in
      record { set = record { few = omega arith; long = omega arith; ascends = rw f (ascending_put t (take count s) w.ascends) }; grown = same f }

-- ---- joins
grown_then : {ts ts' us l l' : List ℕ} → Grown ts us l → Grown ts' l l' → Grown (ts' ++ ts) us l'
grown_then {ts} {ts'} {us} {l} (same e) (same f) = same (f ∙ ap (puts ts') e ∙ sym (puts-append ts' ts us))
grown_then {ts} {ts'} {us} {l} (same e) (over f g) = over f (rw (puts-append ts' ts us, ← e) g)
grown_then {ts} {ts'} {us} {l} {l'} (over e g) (same f) = over (rw f (let k = length-puts ts' l in omega arith)) (rw (puts-append ts' ts us) (let k = length-puts ts' (puts ts us) in omega arith))
grown_then {ts} {ts'} {us} {l} (over e g) (over f h) = over f (rw (puts-append ts' ts us) (let k = length-puts ts' (puts ts us) in omega arith))

module _ (upper : List ℕ) (n : ℕ) where
  made_none : (w p : List ℕ) → Made upper n [] w w p p
  unfolding joins
  made_none w p = record { waits = same refl; pends = same refl }

  -- the joins with ys, and after them those with xs
  pub made_then : {xs ys w w' w'' p p' p'' : List ℕ} → Made upper n ys w w' p p' → Made upper n xs w' w'' p' p'' → Made upper n (xs ++ ys) w w'' p p''
  made_then {xs} {ys} a b =
      record {
        waits = rw (joins-append n xs ys, keep_append (short_of upper) (joins n xs) (joins n ys)) (grown_then a.waits b.waits);
        pends = rw (joins-append n xs ys, keep_append (beyond upper) (joins n xs) (joins n ys)) (grown_then a.pends b.pends);
      }

  module _ (t : ℕ) (w p : List ℕ) where
    pub made-below : below t n ≡ true → Made upper n (t ∷ []) w w p p
    unfolding joins
    made-below e = record { waits = rw e (same refl); pends = rw e (same refl) }

    pub made-beyond : {j : ℕ} {l : List ℕ} → below t n ≡ false → j ≡ join n t → beyond upper j ≡ true → Grown (j ∷ []) p l → Made upper n (t ∷ []) w w p l
    unfolding joins
    made-beyond {j} {l} e f b g =
        let b' : beyond upper (join n t) ≡ true = rw f at b in
        let g' : Grown (join n t ∷ []) p l = rw f at g in
        record { waits = rw e (rw b' (same refl)); pends = rw e (rw b' g') }

    pub made_short : {j : ℕ} {l : List ℕ} → below t n ≡ false → j ≡ join n t → beyond upper j ≡ false → Grown (j ∷ []) w l → Made upper n (t ∷ []) w l p p
    unfolding joins
    made_short {j} {l} e f b g =
        let b' : beyond upper (join n t) ≡ false = rw f at b in
        let g' : Grown (join n t ∷ []) w l = rw f at g in
        record { waits = rw e (rw b' g'); pends = rw e (rw b' (same refl)) }

pub record Making (upper : List ℕ) (n : ℕ) (buffer : List ℕ) (i : ℕ) (w : List ℕ) (wn : ℕ) (w' : List ℕ) (wn' : ℕ) (p : List ℕ) (pn : ℕ) (p' : List ℕ) (pn' : ℕ) : Type 0 where
  pub sets : Set w' wn' × Set p' pn'
  pub made : Made upper n (drop i buffer) (take wn w) (take wn' w') (take pn p) (take pn' p')

pub making_start : (upper : List ℕ) (n : ℕ) (buffer w : List ℕ) (wn : ℕ) (p : List ℕ) (pn : ℕ) → Set w wn × Set p pn → Making upper n buffer (length buffer) w wn w wn p pn p pn
making_start upper n buffer w wn p pn a = record { sets = a; made = rw (drop_of_length-le buffer {i = length buffer} (omega arith)) (made_none upper n (take wn w) (take pn p)) }

pub making_more : {upper : List ℕ} {n : ℕ} {buffer : List ℕ} {i : ℕ} {w : List ℕ} {wn : ℕ} {w' : List ℕ} {wn' : ℕ} {p : List ℕ} {pn : ℕ} {p' : List ℕ} {pn' : ℕ} {w'' : List ℕ} {wn'' : ℕ} {p'' : List ℕ} {pn'' : ℕ}
    → Making upper n buffer i w wn w' wn' p pn p' pn' → 0 < i → i ≤ length buffer → Set w'' wn'' × Set p'' pn''
    → Made upper n (get_or buffer (i - 1) 0 ∷ []) (take wn' w') (take wn'' w'') (take pn' p') (take pn'' p'')
    → Making upper n buffer (i - 1) w wn w'' wn'' p pn p'' pn''
making_more {upper} {n} {buffer} {i} m h l a x =
    let e : suc (i - 1) ≡ i = omega arith in
    record { sets = a; made = rw (drop-cons buffer (i - 1) 0 (omega arith), e) (made_then upper n m.made x) }

-- ---- tracked times
pub retracked_some : {o : Option ℕ} {x : ℕ} {count : ℕ} {s s' : List ℕ} {r : ℕ} → o ≡ some x → Renewed (advance_times (some x) (take count s)) count s s' r → (r ≤ count) × (take r s' ≡ puts (map (joined o) (take count s)) [])
unfolding advance_times joined
retracked_some e a = (a.within, rw e a.buffer)

length-distinct : (ts : List ℕ) → length (puts ts []) ≤ length ts
length-distinct [] = omega arith
length-distinct (t ∷ ts) = let ih = length-distinct ts in let k = (length-put t (puts ts [])).1 in omega arith

pub retracked_none : {o : Option ℕ} (count : ℕ) (s : List ℕ) {x : List ℕ} {r : ℕ} → o ≡ none → count ≤ length s → Removed (puts (take count s) []) (length (take count s)) x r → (r ≤ count) × (take r (x ++ drop count s) ≡ puts (map (joined o) (take count s)) [])
retracked_none {o} count s {x} {r} e h a =
    let n : length (take count s) ≡ count = length-take-le count s h in
    let c : r ≡ length (puts (take count s) []) = a.count_is in
    let l = length-distinct (take count s) in
    let f : take r (x ++ drop count s) ≡ puts (take count s) [] = rw (a.exit_is, append_assoc) (take_at (puts (take count s) []) _ r (sym c)) in
    (omega arith, f ∙ sym (rw (e, map_same (take count s))))
