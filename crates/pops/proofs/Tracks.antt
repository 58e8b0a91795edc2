-- All five are stepped past n: the laws of each part.
--
-- steps_later: a step goes on. seeds_some, seeds_none: seeds were stepped, some and none
-- equal_within, tracks: where the pending times equal to n end, and that they are tracked
-- shifted_down: all but the first of the waiting joins moved one place down
-- taken_none, taken_other, taken_first: of no waiting join, of a first one that is not n, and of n
use Prim.Native.Nat.{ℕ, suc, ◌+◌, ◌-◌, ◌≤◌, ◌<◌}
use native.Mathlib.Omega.{arith}
use native.Mathlib.Numerals.{add-one}
use native.Mathlib.Nat.{zero-add}
use mathlib.Core.Bool.{Bool, true, false}
use mathlib.Core.List.{List, [], ◌∷◌, ◌++◌, append-nil}
use mathlib.Core.Option.{Option}
use mathlib.Core.Path.{◌≡◌, refl, sym, ◌∙◌, ap}
use lib.Dec.{ltb, eqb}
use lib.ListN.{length, take, drop, get_or, set, length-drop}
use lib.Seq.{length-take-le, get_or-take, drop-drop, take-suc-set}
use borrow.Rule.Slice.PartMut.{put_mid}
use Rattle.std.specs.List.{copy_within}
use Rattle.std.specs.Prelude.{replicate}
use Rattle.std.proofs.lemmas.List.{drop-take, length-replicate}
use Rattle.std.proofs.lemmas.List.Edits.{take-paste}
use Rattle.std.proofs.lemmas.Slice.{take-put_mid}
use borrow.Author.Tests.{eqb-true, ltb-true, eq-eqb, ne_eqb, lt-ltb, le-ltb}
use Rattle.grid.specs.Lists.{front, past, ascending}
use Rattle.grid.proofs.Tests.{by-test}
use Rattle.grid.proofs.Lists.{All, nil, cons}
use Rattle.grid.proofs.Loops.{drop_more}
use Rattle.grid.proofs.Ascending.{ascending_rest, ascending_above}
use Rattle.grid.proofs.Consolidate.{strict_ltb}
use Rattle.grid.proofs.Slices.{drop-later}
use Rattle.rules.specs.Histories.{History, TimeHistory, stepped, moved, advance_times}
use Rattle.histories.specs.Places.{history_of, Placed, Steps}
use Rattle.histories.specs.declared.Place.{Place}
use Rattle.histories.specs.declared.Stepped.{Stepped}
use Rattle.histories.proofs.Steps.{past_drop}
use Rattle.grid.proofs.Operations.{front_fits}
use Rattle.advances.specs.Renewed.{Renewed}
use Rattle.joins.specs.Sets.{Set}
use Rattle.joins.proofs.Sets.{set_within}
use Rattle.pops.specs.Popping.{seeds_after, SeedsStepped, Tracking, Taking}

-- ---- seeds
pub steps_later : {A : Type 0} {pass : A → Bool} {col : List A} {p : Place} {col' : List A} {r : Stepped} → Placed (length col) p → length col' ≡ length col → Steps pass col p col' r → p.at ≤ r.place.at
unfolding history_of stepped
steps_later {A} {pass} {col} {p} {col'} {r} w l s =
    let e : drop r.place.at col' ≡ drop (length (front pass (drop p.at col))) (drop p.at col) = ap (λ (h : History A). h.ahead) s.history ∙ past_drop pass (drop p.at col) in
    let n : length col' - r.place.at ≡ (length col - p.at) - length (front pass (drop p.at col)) = sym (length-drop r.place.at col') ∙ ap length e ∙ length-drop (length (front pass (drop p.at col))) (drop p.at col) ∙ ap (λ k. k - length (front pass (drop p.at col))) (length-drop p.at col) in
    let a : p.at ≤ length col = w.within in
    let b : r.place.at ≤ length col = s.placed.within in
    omega arith

module _ {m : Option ℕ} {n : ℕ} {col : List ℕ} {p : Place} {col' : List ℕ} {s : Stepped} (w : Placed (length col) p) (l : length col' ≡ length col) (h : Steps (eqb n) col p col' s) where
  pub seeds_none : s.moved ≡ false → SeedsStepped m n col p col' s
  unfolding history_of seeds_after
  seeds_none e =
      let t : moved (eqb n) (drop p.at col) ≡ false = sym h.told ∙ e in
      record { placed = h.placed; history = rw t h.history; told = h.told; same_ahead = h.same_ahead; later = steps_later w l h }

  pub seeds_some : {col'' : List ℕ} {r : ℕ} → s.moved ≡ true → Renewed (advance_times m (take s.place.count col')) s.place.count col' col'' r → SeedsStepped m n col p col'' (record { place = record { count = r; at = s.place.at }; moved = s.moved })
  unfolding history_of seeds_after stepped
  seeds_some {col''} {r} e a =
      let t : moved (eqb n) (drop p.at col) ≡ true = sym h.told ∙ e in
      let b : s.place.count ≤ s.place.at = h.placed.behind in
      let c : s.place.at ≤ length col = h.placed.within in
      let k : r ≤ s.place.count = a.within in
      let same : drop s.place.at col'' ≡ drop s.place.at col' = drop-later col'' col' s.place.count s.place.at b a.same_ahead in
      let ahead : drop s.place.at col'' ≡ past (eqb n) (drop p.at col) = same ∙ ap (λ (g : TimeHistory). g.ahead) h.history in
      let buffer : take r col'' ≡ advance_times m (take p.count col ++ front (eqb n) (drop p.at col)) = a.buffer ∙ ap (λ (g : TimeHistory). advance_times m g.buffer) h.history in
      record {
        placed = record { behind = omega arith; within = c };
        history = rw t (λ i. record { ahead = ahead i; buffer = buffer i });
        told = h.told;
        same_ahead = same ∙ h.same_ahead;
        later = steps_later w l h;
      }

-- ---- pending times
front_alike : (n : ℕ) (xs : List ℕ) → front (eqb n) xs ≡ replicate (length (front (eqb n) xs)) n
front_alike n [] = refl
front_alike n (x ∷ xs) =
    by-test (eqb n x) (λ e. let q : n ≡ x = eqb-true n x e in rw e (ap (λ y. y ∷ front (eqb n) xs) (sym q) ∙ ap (λ l. n ∷ l) (front_alike n xs))) (λ e. rw e)

front_moves : (p : ℕ → Bool) (xs : List ℕ) (i : ℕ) → ltb i (i + length (front p xs)) ≡ moved p xs
unfolding moved
front_moves p [] i = le-ltb i (i + 0) (omega arith)
front_moves p (x ∷ xs) i = by-test (p x) (λ e. rw e (lt-ltb i (i + suc (length (front p xs))) (omega arith))) (λ e. rw e (le-ltb i (i + 0) (omega arith)))

pub equal_within : (n : ℕ) (pending : List ℕ) (at : ℕ) {to : ℕ} → at ≤ length pending → to ≡ at + length (front (eqb n) (drop at pending)) → (at ≤ to) × (to ≤ length pending)
equal_within n pending at w e =
    let l : length (front (eqb n) (drop at pending)) ≤ length (drop at pending) = front_fits (eqb n) (drop at pending) in
    let d : length (drop at pending) ≡ length pending - at = length-drop at pending in
    (omega arith, omega arith)

pub tracks : (n : ℕ) (pending : List ℕ) (at : ℕ) (tracked : List ℕ) (count : ℕ) {to : ℕ} {x : List ℕ} → at ≤ length pending → count + (length pending - at) ≤ length tracked → to ≡ at + length (front (eqb n) (drop at pending)) → x ≡ replicate (to - at) n
    → Tracking n pending at tracked count (put_mid count ((count + (to - at)) - count) tracked x) (record { count = count + (to - at); at = to })
tracks n pending at tracked count {to} {x} w r e f =
    let b = equal_within n pending at w e in
    let k : to - at ≡ length (front (eqb n) (drop at pending)) = omega arith in
    record {
      later = b.0;
      within = b.1;
      ahead = ap (λ i. drop i pending) e ∙ sym (drop-drop (length (front (eqb n) (drop at pending))) at pending) ∙ sym (past_drop (eqb n) (drop at pending));
      held =
          take-put_mid count ((count + (to - at)) - count) tracked x (count + (to - at)) (ap (λ i. count + i) (sym (ap length f ∙ length-replicate (to - at) n))) (omega arith)
          ∙ ap (λ l. take count tracked ++ l) (f ∙ ap (λ i. replicate i n) k ∙ sym (front_alike n (drop at pending)));
      counted = omega arith;
      told = rw e (front_moves (eqb n) (drop at pending) at);
    }

-- ---- waiting joins
pub shifted_down : (s : List ℕ) (count : ℕ) → 1 ≤ count → count ≤ length s → take (count - 1) (copy_within s 1 count 0) ≡ drop 1 (take count s)
shifted_down s count h l =
    let e : 1 + (count - 1) ≡ count = omega arith in
    ap (λ k. take k (copy_within s 1 count 0)) (sym (zero-add (count - 1))) ∙ take-paste s 0 (drop 1 s) (count - 1) (omega arith) (simp length-drop (omega arith)) ∙ sym (drop-take 1 (count - 1) s) ∙ ap (λ k. drop 1 (take k s)) e

module _ (n : ℕ) (waiting : List ℕ) (wcount : ℕ) (tracked : List ℕ) (tcount : ℕ) (w : Set waiting wcount) where
  stays : front (eqb n) (take wcount waiting) ≡ [] → past (eqb n) (take wcount waiting) ≡ take wcount waiting → Taking n waiting wcount tracked tcount waiting tracked (record { waiting = wcount; tracked = tcount })
  unfolding moved
  stays f g =
      record {
        set = w;
        rest = sym g;
        held = sym (append-nil (take tcount tracked)) ∙ ap (λ l. take tcount tracked ++ l) (sym f);
        fewer = omega arith;
        one = omega arith;
        counted = refl;
        told = le-ltb wcount wcount (omega arith) ∙ sym (rw f);
      }

  pub taken_none : wcount ≡ 0 → Taking n waiting wcount tracked tcount waiting tracked (record { waiting = wcount; tracked = tcount })
  taken_none e = stays (rw e) (rw e)

  module _ (h : wcount ≡ 0 → ⊥) where
    first : take wcount waiting ≡ get_or waiting 0 0 ∷ drop 1 (take wcount waiting)
    first =
        drop_more (take wcount waiting) 0 0 (rw (length-take-le wcount waiting (set_within w)) (omega (arith, h))) ∙ ap (λ x. x ∷ drop 1 (take wcount waiting)) (get_or-take wcount waiting 0 0 (omega (arith, h)))

    pub taken_other : (n ≡ get_or waiting 0 0 → ⊥) → Taking n waiting wcount tracked tcount waiting tracked (record { waiting = wcount; tracked = tcount })
    taken_other e =
        let t : eqb n (get_or waiting 0 0) ≡ false = ne_eqb n (get_or waiting 0 0) e in
        stays (rw first (rw t)) (rw first (rw t))

    pub taken_first : {waiting' : List ℕ} → n ≡ get_or waiting 0 0 → tcount < length tracked → length waiting' ≡ length waiting → take (wcount - 1) waiting' ≡ drop 1 (take wcount waiting)
        → Taking n waiting wcount tracked tcount waiting' (set tracked tcount n) (record { waiting = wcount - 1; tracked = tcount + 1 })
    unfolding moved
    taken_first {waiting'} e k l s =
        let f : wcount ≤ 1025 = w.few in
        let g : 1025 ≤ length waiting = w.long in
        let rest : List ℕ = drop 1 (take wcount waiting) in
        let d : take wcount waiting ≡ n ∷ drop 1 (take wcount waiting) = first ∙ ap (λ x. x ∷ drop 1 (take wcount waiting)) (sym e) in
        let asc : ascending ltb (n ∷ drop 1 (take wcount waiting)) ≡ true = rw d at w.ascends in
        let q : eqb n n ≡ true = eq-eqb n n refl in
        let above : All (λ y. ltb n y ≡ true) (drop 1 (take wcount waiting)) = ascending_above ltb strict_ltb n (drop 1 (take wcount waiting)) asc in
        record {
          set = record { few = omega arith; long = omega arith; ascends = rw s (ascending_rest ltb n (drop 1 (take wcount waiting)) asc) };
          rest = s ∙ sym (rw d (rw q (past_above above)));
          held = rw (add-one, take-suc-set tracked tcount n k) (ap (λ l. take tcount tracked ++ l) (sym (rw d (rw q (ap (λ l. n ∷ l) (front_above above))))));
          fewer = omega arith;
          one = omega arith;
          counted = omega (arith, h);
          told = lt-ltb (wcount - 1) wcount (omega (arith, h)) ∙ sym (rw d (rw q));
        }
      where
        apart : (y : ℕ) → ltb n y ≡ true → eqb n y ≡ false
        apart y c = ne_eqb n y (λ z. let o = ltb-true n y c in omega arith)

        front_above : {l : List ℕ} → All (λ y. ltb n y ≡ true) l → front (eqb n) l ≡ []
        front_above nil = refl
        front_above (cons {x = x} c a) = rw (apart x c)

        past_above : {l : List ℕ} → All (λ y. ltb n y ≡ true) l → past (eqb n) l ≡ l
        past_above nil = refl
        past_above (cons {x = x} c a) = rw (apart x c)
