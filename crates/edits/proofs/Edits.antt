-- Edits in three columns: what is done to each column alike is done to the edits.
--
-- times-edits, values_edits, diffs-edits: the columns, taken out of the edits again. edits-map: the edits of such columns
-- length-edits: as many as there are times
-- map-laid: a list laid over a column, and a function of each. edits-take: the front of each column. edits_slid: moved down in each column. edits_ahead: edits that agree from a place on have times that do
-- edits_within, edits-step, edits-step_one: what passes by its time, moved down in each column, is a step of the edits; so is the next one alone
use Prim.Native.Nat.{ℕ, suc, ◌+◌, ◌-◌, ◌≤◌, ◌<◌}
use native.Mathlib.Omega.{arith}
use mathlib.Core.Bool.{Bool}
use mathlib.Core.List.{List, [], ◌∷◌, ◌++◌, map, map-append}
use mathlib.Core.Path.{◌≡◌, refl, sym, ◌∙◌, ap}
use lib.Dec.{ltb}
use lib.IntN.{ℤ}
use lib.ListN.{length, take, drop, length-map}
use lib.Seq.{slice}
use Rattle.grid.specs.Lists.{front}
use Rattle.grid.proofs.Tests.{by-test}
use Rattle.grid.specs.Slices.{laid}
use Rattle.grid.proofs.Operations.{map-take, map-drop}
use Rattle.rules.specs.Histories.{Edit, time_of, value_of}
use Rattle.edits.specs.Edits.{edits, Alike}
use Rattle.histories.specs.Places.{Placed, Steps, StepsOne}
use Rattle.histories.specs.declared.Place.{Place}
use Rattle.histories.specs.declared.Stepped.{Stepped}
use Rattle.histories.proofs.Steps.{slid, steps_within, steps, steps_one}

-- ---- the columns of edits
abbrev pub diff_of : Edit → ℤ
diff_of e = e.1

pub times-edits : (ts vs : List ℕ) (ds : List ℤ) → Alike ts vs ds → map time_of (edits ts vs ds) ≡ ts
unfolding edits time_of
times-edits [] vs ds a = refl
times-edits (t ∷ ts) [] ds a = absurd (omega (arith, a.values))
times-edits (t ∷ ts) (v ∷ vs) [] a = absurd (omega (arith, a.diffs))
times-edits (t ∷ ts) (v ∷ vs) (d ∷ ds) a = ap (λ l. t ∷ l) (times-edits ts vs ds (record { values = omega (arith, a.values); diffs = omega (arith, a.diffs) }))

pub values_edits : (ts vs : List ℕ) (ds : List ℤ) → Alike ts vs ds → map value_of (edits ts vs ds) ≡ vs
unfolding edits value_of
values_edits [] [] ds a = refl
values_edits [] (v ∷ vs) ds a = absurd (omega (arith, a.values))
values_edits (t ∷ ts) [] ds a = absurd (omega (arith, a.values))
values_edits (t ∷ ts) (v ∷ vs) [] a = absurd (omega (arith, a.diffs))
values_edits (t ∷ ts) (v ∷ vs) (d ∷ ds) a = ap (λ l. v ∷ l) (values_edits ts vs ds (record { values = omega (arith, a.values); diffs = omega (arith, a.diffs) }))

pub diffs-edits : (ts vs : List ℕ) (ds : List ℤ) → Alike ts vs ds → map diff_of (edits ts vs ds) ≡ ds
unfolding edits
diffs-edits [] vs [] a = refl
diffs-edits [] vs (d ∷ ds) a = absurd (omega (arith, a.diffs))
diffs-edits (t ∷ ts) [] ds a = absurd (omega (arith, a.values))
diffs-edits (t ∷ ts) (v ∷ vs) [] a = absurd (omega (arith, a.diffs))
diffs-edits (t ∷ ts) (v ∷ vs) (d ∷ ds) a = ap (λ l. d ∷ l) (diffs-edits ts vs ds (record { values = omega (arith, a.values); diffs = omega (arith, a.diffs) }))

pub edits-map : (es : List Edit) → edits (map time_of es) (map value_of es) (map diff_of es) ≡ es
unfolding edits time_of value_of
edits-map [] = refl
edits-map (e ∷ es) = ap (λ l. e ∷ l) (edits-map es)

-- ---- what is done to each column alike
module _ {A B : Type 0} (f : A → B) where
  pub map-laid : (xs s : List A) → laid (map f xs) (map f s) ≡ map f (laid xs s)
  unfolding laid
  map-laid xs s = rw (length-map s f, length-map xs f, ← map-drop f (length xs) s, ← map-append f xs (drop (length xs) s)) (sym (map-take f (length s) (xs ++ drop (length xs) s)))

  map_slid : (s : List A) (count at to : ℕ) → slid (map f s) count at to ≡ map f (slid s count at to)
  map_slid s count at to = rw (← map-take f count s, ← map-take f to s, ← map-drop f at (take to s), ← map-append f (take count s) (slice at to s)) (map-laid (take count s ++ slice at to s) s)

  front_map : (q : B → Bool) (l : List A) → length (front q (map f l)) ≡ length (front (λ x. q (f x)) l)
  front_map q [] = refl
  front_map q (x ∷ l) = by-test (q (f x)) (λ e. rw e (ap suc (front_map q l))) (λ e. rw e)

module _ (ts vs : List ℕ) (ds : List ℤ) (a : Alike ts vs ds) where
  pub length-edits : length (edits ts vs ds) ≡ length ts
  length-edits = sym (length-map (edits ts vs ds) time_of) ∙ ap length (times-edits ts vs ds a)

  pub edits-take : (n : ℕ) → edits (take n ts) (take n vs) (take n ds) ≡ take n (edits ts vs ds)
  edits-take n =
      let es = edits ts vs ds in
      (λ i. edits (take n (sym (times-edits ts vs ds a) i)) (take n (sym (values_edits ts vs ds a) i)) (take n (sym (diffs-edits ts vs ds a) i)))
      ∙ (λ i. edits (sym (map-take time_of n es) i) (sym (map-take value_of n es) i) (sym (map-take diff_of n es) i))
      ∙ edits-map (take n es)

  pub edits_slid : {ts' vs' : List ℕ} {ds' : List ℤ} (count at to : ℕ) → ts' ≡ slid ts count at to → vs' ≡ slid vs count at to → ds' ≡ slid ds count at to → edits ts' vs' ds' ≡ slid (edits ts vs ds) count at to
  edits_slid {ts'} {vs'} {ds'} count at to p q r =
      let es = edits ts vs ds in
      (λ i. edits (p i) (q i) (r i))
      ∙ (λ i. edits (slid (sym (times-edits ts vs ds a) i) count at to) (slid (sym (values_edits ts vs ds a) i) count at to) (slid (sym (diffs-edits ts vs ds a) i) count at to))
      ∙ (λ i. edits (map_slid time_of es count at to i) (map_slid value_of es count at to i) (map_slid diff_of es count at to i))
      ∙ edits-map (slid es count at to)

  edits_end : (q : ℕ → Bool) (at : ℕ) {to : ℕ} → to ≡ at + length (front q (drop at ts)) → to ≡ at + length (front (λ e. q (time_of e)) (drop at (edits ts vs ds)))
  edits_end q at e = e ∙ ap (λ l. at + length (front q (drop at l))) (sym (times-edits ts vs ds a)) ∙ ap (λ l. at + length (front q l)) (sym (map-drop time_of at (edits ts vs ds))) ∙ ap (λ n. at + n) (front_map time_of q (drop at (edits ts vs ds)))

  pub edits_ahead : {ts' vs' : List ℕ} {ds' : List ℤ} (i : ℕ) → Alike ts' vs' ds' → drop i (edits ts' vs' ds') ≡ drop i (edits ts vs ds) → drop i ts' ≡ drop i ts
  edits_ahead {ts'} {vs'} {ds'} i b e =
      ap (drop i) (sym (times-edits ts' vs' ds' b)) ∙ sym (map-drop time_of i (edits ts' vs' ds')) ∙ ap (map time_of) e
      ∙ map-drop time_of i (edits ts vs ds) ∙ ap (drop i) (times-edits ts vs ds a)

  -- ---- a step
  module _ (p : Place) (w : Placed (length ts) p) where
    placed-edits : Placed (length (edits ts vs ds)) p
    placed-edits = rw length-edits w

    module _ (q : ℕ → Bool) {to : ℕ} (e : to ≡ p.at + length (front q (drop p.at ts))) where
      pub edits_within : Alike ts vs ds × ((p.count ≤ p.at) × ((p.at ≤ to) × (to ≤ length ts)))
      edits_within = (a, steps_within q ts p w e)

      pub edits-step : {es : List Edit} {r : Stepped} → es ≡ slid (edits ts vs ds) p.count p.at to → r ≡ record { place = record { count = p.count + (to - p.at); at = to }; moved = ltb p.at to } → Steps (λ x. q (time_of x)) (edits ts vs ds) p es r
      edits-step s told = steps (λ x. q (time_of x)) (edits ts vs ds) p placed-edits (edits_end q p.at e) s told

    pub edits-step_one : {es : List Edit} → p.at < length ts → es ≡ slid (edits ts vs ds) p.count p.at (p.at + 1) → StepsOne (edits ts vs ds) p es (record { count = p.count + 1; at = p.at + 1 })
    edits-step_one h s = steps_one (edits ts vs ds) p placed-edits (rw length-edits h) s
