-- bilinear_wave: its emissions consolidate to the plain cross product's, they are at most as many as there are pairs, no diff of a run that
-- passes check 14 grows too large, and each answer of the call has its one cause.
--
-- A pair is emitted when the second of its edits is stepped. By then the other's buffer was advanced by meets of what was ahead of the stepped
-- history, the stepped edit among it, so the joined time is the pair's own. What remains to be emitted is every pair with an edit ahead; a
-- step emits what no longer remains. Which head is earlier plays no part.
--
-- wave-first, wave-second: one step of the wave
-- wave_tally: emissions and plain cross product have the same sums. wave-cross: so they consolidate to the same list
-- load_mass, advance_mass: neither a load nor an advance makes the diffs larger in all
-- wave-mass: the emissions' sizes are in all at most the product of the two sides'. wave-count: so they are at most as many as the pairs
-- WaveRun: what check 14 asks of a side, as a fact; of an accepted call both sides have it. good_run_lem: the test and the fact
-- WaveOutcome: an answer with its cause. wave-outcome: the call's answer has one. wave-outcome_only: an answer that has one is the call's
-- Light: a history's diffs, ahead and in the buffer, are in all at most 2^30; it holds at load, and a step and an advance keep it
-- emitted_small: each emitted diff is at most 2^60
use Prim.Native.Nat.{ℕ, zero, suc, ◌+◌, ◌*◌, ◌^◌, ◌≤◌, ◌<◌}
use mathlib.Core.Bool.{Bool, true, false, cond, ◌&&◌}
use mathlib.Core.List.{List, [], ◌∷◌, ◌++◌, map, map-id}
use mathlib.Core.Option.{Option, none, some}
use mathlib.Core.Logic.{◌↔◌}
use mathlib.Core.Path.{◌≡◌, refl, sym, ◌∙◌, ap, ap₂}
use native.Mathlib.Omega.{arith}
use native.Mathlib.Nat.{mul-le-mul, mul-le-mul_left, mul-le-mul_right}
use lib.Dec.{leb, ltb}
use borrow.Author.Tests.{leb-true, leb-false, le-leb, lt-leb}
use lib.IntN.{ℤ, pos, nat_abs, ◌+ℤ◌, ◌*ℤ◌, +ℤ_idl, +ℤ_idr, *ℤ-zero, *ℤ_comm}
use lib.ListN.{length, take, drop, take-append-drop, drop_of_length-le}
use Rattle.grid.specs.Lists.{every}
use Rattle.grid.specs.Times.{join, joined, meet_onto, meets}
use Rattle.grid.specs.Consolidate.{lex, consolidate}
use Rattle.grid.proofs.Tests.{by-test, clash, and_l, and_r, and_i}
use Rattle.grid.proofs.Lists.{All, all_imp, map_all, every_all, all_every}
use Rattle.grid.proofs.Times.{Below, join_comm, advance_join}
use Rattle.grid.proofs.Meets.{meets_under}
use Rattle.grid.proofs.Sums.{sum, sum-append, sum_ext, sum-map, acℤ}
use Rattle.grid.proofs.Consolidate.{Strict, strict_ltb, strict_lex, strict_by, share, tally, consolidate_ext}
use Rattle.grid.proofs.Sizes.{Sizing, sizing_one, sizing_nat_abs, mass, mass-append, mass-map, mass_consolidate, mass_each, mass_most, mass_one}
use Rattle.grid.proofs.Products.{times-sum, sum_all, sum_swap, weigh, weigh_consolidate}
use Rattle.rules.specs.Histories.{Edit, ValueHistory, time_of, value_of, earlier, by_value, joined_edit, load_edits, loaded, advance_edits}
use Rattle.rules.specs.Wave.{Emission, emission, cross, first_steps, advanced_by, step_one, wave, wave_of, good_wave_run, WaveAnswer, wave_refused, wave_call}

join_advanced : (m s t : ℕ) → Below m t → join (join m s) t ≡ join s t
join_advanced m s t h = ap (λ z. join z t) (join_comm m s) ∙ sym (advance_join s m t h)

-- ---- tallies of a cross product: what happens to its first list
-- what a pair of edits of the keys k and l is emitted under
abbrev paired : ℕ × ℕ → ℕ × ℕ → ℕ × (ℕ × ℕ)
paired k l = (join k.0 l.0, (k.1, l.1))

share_times : (b : Bool) (c d : ℤ) → cond b (c *ℤ d) (pos 0) ≡ c *ℤ cond b d (pos 0)
share_times true c d = refl
share_times false c d = sym (*ℤ-zero c)

strict_by_value : Strict by_value
strict_by_value = strict_by (λ (k : ℕ × ℕ). (k.1, k.0)) (λ a b e. λ i. ((e i).1, (e i).0)) (strict_lex strict_ltb strict_ltb)

module _ (p : ℕ × (ℕ × ℕ) → Bool) where
  abbrev crossed : List Edit → List Edit → ℤ
  crossed as' bs = tally p (cross as' bs)

  crossed_sums : (as' bs : List Edit) → crossed as' bs ≡ sum (λ (a : Edit). sum (λ (b : Edit). share p (emission a b)) bs) as'
  unfolding cross
  crossed_sums [] bs = refl
  crossed_sums (a ∷ as') bs = sum-append (share p) (map (emission a) bs) (cross as' bs) ∙ ap₂ ◌+ℤ◌ (sum-map (share p) (emission a) bs) (crossed_sums as' bs)

  -- what the edits bs give beside one of key k and diff 1
  abbrev beside : List Edit → ℕ × ℕ → ℤ
  beside bs k = tally (λ l. p (paired k l)) bs

  -- as a function of its first list, it is a weighted sum
  crossed_weigh : (as' bs : List Edit) → crossed as' bs ≡ weigh (beside bs) as'
  unfolding emission time_of value_of
  crossed_weigh as' bs =
      crossed_sums as' bs
      ∙ sum_ext _ _ (λ (a : Edit). sum_ext _ _ (λ (b : Edit). share_times (p (paired a.0 b.0)) a.1 b.1) bs
      ∙ sym (times-sum a.1 (share (λ l. p (paired a.0 l))) bs)) as'

  crossed_append : (as' cs bs : List Edit) → crossed (as' ++ cs) bs ≡ crossed as' bs +ℤ crossed cs bs
  crossed_append as' cs bs =
      crossed_weigh (as' ++ cs) bs ∙ sum-append _ as' cs ∙ ap₂ ◌+ℤ◌ (sym (crossed_weigh as' bs)) (sym (crossed_weigh cs bs))

  crossed_parts : (as' bs : List Edit) → crossed as' bs ≡ crossed (take 1 as') bs +ℤ crossed (drop 1 as') bs
  crossed_parts as' bs = ap (λ z. crossed z bs) (sym (take-append-drop 1 as')) ∙ crossed_append (take 1 as') (drop 1 as') bs

  crossed_consolidate : {lt : ℕ × ℕ → ℕ × ℕ → Bool} → Strict lt → (as' bs : List Edit) → crossed (consolidate lt as') bs ≡ crossed as' bs
  crossed_consolidate {lt} S as' bs = crossed_weigh (consolidate lt as') bs ∙ weigh_consolidate S (beside bs) as' ∙ sym (crossed_weigh as' bs)

  crossed_load : (as' bs : List Edit) → crossed (load_edits none as') bs ≡ crossed as' bs
  unfolding load_edits joined_edit joined
  crossed_load as' bs = crossed_consolidate (strict_lex strict_ltb strict_ltb) (map (joined_edit none) as') bs ∙ ap (λ z. crossed z bs) (map-id as')

  -- joined with m, the first list gives the same beside edits at or above m
  crossed_joined : (m : ℕ) (as' : List Edit) {bs : List Edit} → All (λ b. Below m (time_of b)) bs → crossed (map (joined_edit (some m)) as') bs ≡ crossed as' bs
  unfolding joined_edit joined time_of
  crossed_joined m as' {bs} h =
      crossed_weigh (map (joined_edit (some m)) as') bs
      ∙ sum-map (λ (a : Edit). a.1 *ℤ beside bs a.0) (joined_edit (some m)) as'
      ∙ sum_ext _ _ (λ (a : Edit). ap (λ z. a.1 *ℤ z) (sum_all _ _ (all_imp (λ (b : Edit) q.
      ap (λ t. cond (p (t, (a.0.1, b.0.1))) b.1 (pos 0)) (join_advanced m a.0.0 b.0.0 q)) h))) as'
      ∙ sym (crossed_weigh as' bs)

  crossed_advanced : (as' bs : List Edit) → crossed (advance_edits (meets (map time_of bs) none) as') bs ≡ crossed as' bs
  unfolding meets advance_edits
  crossed_advanced as' [] = refl
  crossed_advanced as' (b ∷ bs) =
      let m = meet_onto (time_of b) (meets (map time_of bs) none) in
      crossed_consolidate strict_by_value (map (joined_edit (some m)) as') (b ∷ bs)
      ∙ crossed_joined m as' (map_all time_of (b ∷ bs) (meets_under (time_of b ∷ map time_of bs)))

-- ---- the second list is dealt with by symmetry
abbrev swapped : (ℕ × (ℕ × ℕ) → Bool) → ℕ × (ℕ × ℕ) → Bool
swapped p e = p (e.0, (e.1.1, e.1.0))

crossed_swap : (p : ℕ × (ℕ × ℕ) → Bool) (as' bs : List Edit) → crossed p as' bs ≡ crossed (swapped p) bs as'
unfolding emission time_of value_of
crossed_swap p as' bs =
    crossed_sums p as' bs ∙ sum_swap (λ (a b : Edit). share p (emission a b)) as' bs
    ∙ sum_ext _ _ (λ (b : Edit). sum_ext _ _ (λ (a : Edit).
    ap₂ (λ t d. cond (p (t, (a.0.1, b.0.1))) d (pos 0)) (join_comm a.0.0 b.0.0) (*ℤ_comm a.1 b.1)) as') bs
    ∙ sym (crossed_sums (swapped p) bs as')

-- ---- what remains to be emitted: of a pair, one edit or both are ahead
abbrev remains : (ℕ × (ℕ × ℕ) → Bool) → ValueHistory → ValueHistory → ℤ
remains p h k = crossed p h.ahead k.buffer +ℤ (crossed p h.ahead k.ahead +ℤ crossed p h.buffer k.ahead)

other_way : (a b c : ℤ) → a +ℤ (b +ℤ c) ≡ c +ℤ (b +ℤ a)
other_way a b c = simp acℤ

remains_swap : (p : ℕ × (ℕ × ℕ) → Bool) (h k : ValueHistory) → remains p h k ≡ remains (swapped p) k h
remains_swap p h k =
    ap₂ ◌+ℤ◌ (crossed_swap p h.ahead k.buffer) (ap₂ ◌+ℤ◌ (crossed_swap p h.ahead k.ahead) (crossed_swap p h.buffer k.ahead))
    ∙ other_way (crossed (swapped p) k.buffer h.ahead) (crossed (swapped p) k.ahead h.ahead) (crossed (swapped p) k.ahead h.buffer)

regroup : (a b c d e : ℤ) → a +ℤ (b +ℤ (c +ℤ (d +ℤ e))) ≡ (a +ℤ b) +ℤ ((e +ℤ c) +ℤ d)
regroup a b c d e = simp acℤ

-- a step emits what no longer remains
remains_first : (p : ℕ × (ℕ × ℕ) → Bool) (h k : ValueHistory) → crossed p (take 1 h.ahead) (advanced_by h k).buffer +ℤ remains p (step_one h) (advanced_by h k) ≡ remains p h k
unfolding advanced_by step_one
remains_first p h k =
    let b = advance_edits (meets (map time_of h.ahead) none) k.buffer in
    let x = take 1 h.ahead in
    let y = drop 1 h.ahead in
    ap (λ z. crossed p x b +ℤ (crossed p y b +ℤ (crossed p y k.ahead +ℤ z))) (crossed_append p h.buffer x k.ahead)
    ∙ regroup (crossed p x b) (crossed p y b) (crossed p y k.ahead) (crossed p h.buffer k.ahead) (crossed p x k.ahead)
    ∙ ap₂ ◌+ℤ◌
    (sym (crossed_parts p h.ahead b) ∙ crossed_swap p h.ahead b ∙ crossed_advanced (swapped p) k.buffer h.ahead ∙ sym (crossed_swap p h.ahead k.buffer))
    (ap (λ z. z +ℤ crossed p h.buffer k.ahead) (sym (crossed_parts p h.ahead k.ahead)))

remains_second : (p : ℕ × (ℕ × ℕ) → Bool) (h k : ValueHistory) → crossed p (advanced_by k h).buffer (take 1 k.ahead) +ℤ remains p (advanced_by k h) (step_one k) ≡ remains p h k
remains_second p h k =
    ap₂ ◌+ℤ◌ (crossed_swap p (advanced_by k h).buffer (take 1 k.ahead)) (remains_swap p (advanced_by k h) (step_one k))
    ∙ remains_first (swapped p) k h ∙ sym (remains_swap p h k)

-- nothing remains when nothing is ahead
remains_none : (p : ℕ × (ℕ × ℕ) → Bool) (h k : ValueHistory) → length h.ahead + length k.ahead ≤ 0 → remains p h k ≡ pos 0
unfolding cross
remains_none p h k l =
    let e : h.ahead ≡ [] = drop_of_length-le h.ahead {i = 0} (omega arith) in
    let f : k.ahead ≡ [] = drop_of_length-le k.ahead {i = 0} (omega arith) in
    rw (e, f) (+ℤ_idl _ ∙ +ℤ_idl _ ∙ crossed_swap p h.buffer [])

-- ---- the wave emits what remains, given a step for each edit ahead
ahead_first : (as' bs : List Edit) (n : ℕ) → first_steps as' bs ≡ true → length as' + length bs ≤ suc n → length (drop 1 as') + length bs ≤ n
unfolding first_steps
ahead_first [] bs n e l = clash false e refl
ahead_first (a ∷ as') bs n e l = omega arith

ahead_second : (as' bs : List Edit) (n : ℕ) → first_steps as' bs ≡ false → length as' + length bs ≤ suc n → length as' + length (drop 1 bs) ≤ n
unfolding first_steps
ahead_second [] [] n e l = omega arith
ahead_second (a ∷ as') [] n e l = clash true refl e
ahead_second as' (b ∷ bs) n e l = omega arith

pub wave-first : (n : ℕ) (h k : ValueHistory) → first_steps h.ahead k.ahead ≡ true → wave (suc n) h k ≡ cross (take 1 h.ahead) (advanced_by h k).buffer ++ wave n (step_one h) (advanced_by h k)
unfolding wave
wave-first n h k e = rw (e, wave)

pub wave-second : (n : ℕ) (h k : ValueHistory) → first_steps h.ahead k.ahead ≡ false → wave (suc n) h k ≡ cross (advanced_by k h).buffer (take 1 k.ahead) ++ wave n (advanced_by k h) (step_one k)
unfolding wave
wave-second n h k e = rw (e, wave)

wave_remains : (p : ℕ × (ℕ × ℕ) → Bool) (n : ℕ) (h k : ValueHistory) → length h.ahead + length k.ahead ≤ n → tally p (wave n h k) ≡ remains p h k
unfolding wave step_one advanced_by
wave_remains p zero h k l = sym (remains_none p h k l)
wave_remains p (suc n) h k l =
    by-test (first_steps h.ahead k.ahead)
    (λ e. ap (tally p) (wave-first n h k e)
    ∙ sum-append (share p) (cross (take 1 h.ahead) (advanced_by h k).buffer) (wave n (step_one h) (advanced_by h k))
    ∙ ap (λ z. crossed p (take 1 h.ahead) (advanced_by h k).buffer +ℤ z) (wave_remains p n (step_one h) (advanced_by h k) (ahead_first h.ahead k.ahead n e l))
    ∙ remains_first p h k)
    (λ e. ap (tally p) (wave-second n h k e)
    ∙ sum-append (share p) (cross (advanced_by k h).buffer (take 1 k.ahead)) (wave n (advanced_by k h) (step_one k))
    ∙ ap (λ z. crossed p (advanced_by k h).buffer (take 1 k.ahead) +ℤ z) (wave_remains p n (advanced_by k h) (step_one k) (ahead_second h.ahead k.ahead n e l))
    ∙ remains_second p h k)

-- ---- emitted pairs consolidate to the plain cross product's
only_middle : (a : ℤ) → pos 0 +ℤ (a +ℤ pos 0) ≡ a
only_middle a = +ℤ_idl (a +ℤ pos 0) ∙ +ℤ_idr a

pub wave_tally : (p : ℕ × (ℕ × ℕ) → Bool) (as' bs : List Edit) → tally p (wave_of as' bs) ≡ tally p (cross as' bs)
unfolding wave_of cross
wave_tally p as' bs =
    let h = load_edits none as' in
    let k = load_edits none bs in
    wave_remains p (length h + length k) (loaded h) (loaded k) (omega arith)
    ∙ ap (λ z. z +ℤ (crossed p h k +ℤ pos 0)) (crossed_swap p h [])
    ∙ only_middle (crossed p h k)
    ∙ crossed_load p as' k ∙ crossed_swap p as' k ∙ crossed_load (swapped p) bs as' ∙ sym (crossed_swap p as' bs)

pub wave-cross : (as' bs : List Edit) → consolidate (lex ltb (lex ltb ltb)) (wave_of as' bs) ≡ consolidate (lex ltb (lex ltb ltb)) (cross as' bs)
wave-cross as' bs = consolidate_ext (strict_lex strict_ltb (strict_lex strict_ltb strict_ltb)) (wave_of as' bs) (cross as' bs) (λ p. wave_tally p as' bs)

-- ---- sizes, for the number of emissions and for the sizes of the diffs at once
first_within : (x y a b b' c e w : ℕ) → b' ≤ b → e ≤ x * b' → w ≤ y * (b' + a) + (c + x) * a → e + w ≤ (x + y) * (b + a) + c * a
first_within x y a b b' c e w h k l = omega (arith, mul-le-mul_left x h, mul-le-mul_left y h)

second_within : (x y a b c c' e w : ℕ) → c' ≤ c → e ≤ c' * x → w ≤ a * ((b + x) + y) + c' * y → e + w ≤ a * (b + (x + y)) + c * (x + y)
second_within x y a b c c' e w h k l = omega (arith, mul-le-mul_right x h, mul-le-mul_right y h)

module _ {size : ℤ → ℕ} (S : Sizing size) where
  mass-row : (a : Edit) (bs : List Edit) → mass size (map (emission a) bs) ≤ size a.1 * mass size bs
  unfolding emission
  mass-row a [] = omega arith
  mass-row a (b ∷ bs) = omega (arith, mass-row a bs, S.times a.1 b.1)

  mass-cross : (as' bs : List Edit) → mass size (cross as' bs) ≤ mass size as' * mass size bs
  unfolding cross
  mass-cross [] bs = omega arith
  mass-cross (a ∷ as') bs = omega (arith, mass-append size (map (emission a) bs) (cross as' bs), mass-row a bs, mass-cross as' bs)

  mass-joined : (m : Option ℕ) (es : List Edit) → mass size (map (joined_edit m) es) ≡ mass size es
  unfolding joined_edit
  mass-joined m es = mass-map size (joined_edit m) (λ e. refl) es

  pub load_mass : (m : Option ℕ) (es : List Edit) → mass size (load_edits m es) ≤ mass size es
  unfolding load_edits
  load_mass m es = omega (arith, mass_consolidate size S earlier (map (joined_edit m) es), mass-joined m es)

  pub advance_mass : (m : Option ℕ) (es : List Edit) → mass size (advance_edits m es) ≤ mass size es
  unfolding advance_edits
  advance_mass none es = omega arith
  advance_mass (some m) es = omega (arith, mass_consolidate size S by_value (map (joined_edit (some m)) es), mass-joined (some m) es)

  mass_parts : (es : List Edit) → mass size es ≡ mass size (take 1 es) + mass size (drop 1 es)
  mass_parts es = ap (mass size) (sym (take-append-drop 1 es)) ∙ mass-append size (take 1 es) (drop 1 es)

  -- at most this much remains to be emitted
  abbrev within : ValueHistory → ValueHistory → ℕ
  within h k = mass size h.ahead * (mass size k.buffer + mass size k.ahead) + mass size h.buffer * mass size k.ahead

  wave_within : (n : ℕ) (h k : ValueHistory) → mass size (wave n h k) ≤ within h k
  unfolding wave advanced_by step_one
  wave_within zero h k = omega arith
  wave_within (suc n) h k =
      by-test (first_steps h.ahead k.ahead)
      (λ e. rw (wave-first n h k e, mass-append size (cross (take 1 h.ahead) (advanced_by h k).buffer) (wave n (step_one h) (advanced_by h k)), mass_parts h.ahead)
      (first_within (mass size (take 1 h.ahead)) (mass size (drop 1 h.ahead)) (mass size k.ahead) (mass size k.buffer) (mass size (advanced_by h k).buffer) (mass size h.buffer) _ _
      (advance_mass (meets (map time_of h.ahead) none) k.buffer)
      (mass-cross (take 1 h.ahead) (advanced_by h k).buffer)
      (rw (← mass-append size h.buffer (take 1 h.ahead)) (wave_within n (step_one h) (advanced_by h k)))))
      (λ e. rw (wave-second n h k e, mass-append size (cross (advanced_by k h).buffer (take 1 k.ahead)) (wave n (advanced_by k h) (step_one k)), mass_parts k.ahead)
      (second_within (mass size (take 1 k.ahead)) (mass size (drop 1 k.ahead)) (mass size h.ahead) (mass size k.buffer) (mass size h.buffer) (mass size (advanced_by k h).buffer) _ _
      (advance_mass (meets (map time_of k.ahead) none) h.buffer)
      (mass-cross (advanced_by k h).buffer (take 1 k.ahead))
      (rw (← mass-append size k.buffer (take 1 k.ahead)) (wave_within n (advanced_by k h) (step_one k)))))

  pub wave-mass : (as' bs : List Edit) → mass size (wave_of as' bs) ≤ mass size as' * mass size bs
  unfolding wave_of
  wave-mass as' bs =
      let h = load_edits none as' in
      let k = load_edits none bs in
      omega (arith, wave_within (length h + length k) (loaded h) (loaded k), mul-le-mul (load_mass none as') (load_mass none bs))

pub wave-count : (as' bs : List Edit) → length (wave_of as' bs) ≤ length as' * length bs
wave-count as' bs = rw (← mass_one (wave_of as' bs), ← mass_one as', ← mass_one bs) (wave-mass sizing_one as' bs)

-- ---- answers and their causes
pub record WaveRun (es : List Edit) : Type 0 where
  pub few : length es ≤ 1024
  pub small : All (λ (e : Edit). nat_abs e.1 ≤ 1048576) es

pub good_run_lem : (es : List Edit) → (good_wave_run es ≡ true) ↔ WaveRun es
unfolding good_wave_run
good_run_lem es =
    let small : Edit → Bool = (λ (e : Edit). leb (nat_abs e.1) 1048576) in (
      λ g. record {
        few = leb-true (length es) 1024 (and_l (leb (length es) 1024) (every small es) g);
        small = all_imp (λ e q. leb-true (nat_abs e.1) 1048576 q) (every_all small es (and_r (leb (length es) 1024) (every small es) g));
      },
      λ r. and_i (leb (length es) 1024) (every small es) (le-leb (length es) 1024 r.few) (all_every small (all_imp (λ e q. le-leb (nat_abs e.1) 1048576 q) r.small)),
    )

pub data WaveOutcome (lent_well : Bool) (as' bs : List Edit) : WaveAnswer → Type 0 where
  short : lent_well ≡ false → WaveOutcome lent_well as' bs (wave_refused 11)
  unfit : lent_well ≡ true → ¬ (WaveRun as' × WaveRun bs) → WaveOutcome lent_well as' bs (wave_refused 14)
  over : lent_well ≡ true → WaveRun as' × WaveRun bs → 4096 < length (wave_of as' bs) → WaveOutcome lent_well as' bs (wave_refused 18)
  worked : lent_well ≡ true → WaveRun as' × WaveRun bs → length (wave_of as' bs) ≤ 4096 → WaveOutcome lent_well as' bs (record { status = 0; emitted = wave_of as' bs })

good_runs : (as' bs : List Edit) → ((good_wave_run as' && good_wave_run bs) ≡ true) ↔ (WaveRun as' × WaveRun bs)
good_runs as' bs = (
  λ g. ((good_run_lem as').0 (and_l (good_wave_run as') (good_wave_run bs) g), (good_run_lem bs).0 (and_r (good_wave_run as') (good_wave_run bs) g)),
  λ r. and_i (good_wave_run as') (good_wave_run bs) ((good_run_lem as').1 r.0) ((good_run_lem bs).1 r.1),
)

pub wave-outcome : (lent_well : Bool) (as' bs : List Edit) → WaveOutcome lent_well as' bs (wave_call lent_well as' bs)
unfolding wave_call
wave-outcome false as' bs = short refl
wave-outcome true as' bs =
    by-test (good_wave_run as' && good_wave_run bs)
    (λ g. by-test (leb (length (wave_of as' bs)) 4096)
    (λ e. rw (g, e) (worked refl ((good_runs as' bs).0 g) (leb-true (length (wave_of as' bs)) 4096 e)))
    (λ e. rw (g, e) (over refl ((good_runs as' bs).0 g) (leb-false (length (wave_of as' bs)) 4096 e))))
    (λ g. rw g (unfit refl (λ r. clash (good_wave_run as' && good_wave_run bs) ((good_runs as' bs).1 r) g)))

pub wave-outcome_only : {lent_well : Bool} {as' bs : List Edit} {w : WaveAnswer} → WaveOutcome lent_well as' bs w → w ≡ wave_call lent_well as' bs
unfolding wave_call
wave-outcome_only (short l) = rw l
wave-outcome_only {as'} {bs} (unfit l n) = by-test (good_wave_run as' && good_wave_run bs) (λ g. absurd (n ((good_runs as' bs).0 g))) (λ g. rw (l, g))
wave-outcome_only {as'} {bs} (over l r n) = rw (l, (good_runs as' bs).1 r, lt-leb (length (wave_of as' bs)) 4096 n)
wave-outcome_only {as'} {bs} (worked l r n) = rw (l, (good_runs as' bs).1 r, le-leb (length (wave_of as' bs)) 4096 n)

-- ---- the sizes of diffs in an accepted call: 1,024 diffs of at most 2^20 a side
run-mass : {es : List Edit} → WaveRun es → mass nat_abs es ≤ 2 ^ 30
run-mass {es} r = omega (arith, mass_most nat_abs 1048576 r.small, mul-le-mul_right 1048576 r.few)

pub record Light (h : ValueHistory) : Type 0 where
  pub most : mass nat_abs h.ahead + mass nat_abs h.buffer ≤ 2 ^ 30

pub light_loaded : {es : List Edit} → WaveRun es → Light (loaded (load_edits none es))
light_loaded {es} r = record { most = omega (arith, load_mass sizing_nat_abs none es, run-mass r) }

pub light_stepped : {h : ValueHistory} → Light h → Light (step_one h)
unfolding step_one
light_stepped {h} l = record { most = omega (arith, l.most, mass-append nat_abs h.buffer (take 1 h.ahead), mass_parts sizing_nat_abs h.ahead) }

pub light_advanced : (h : ValueHistory) {k : ValueHistory} → Light k → Light (advanced_by h k)
unfolding advanced_by
light_advanced h {k} l = record { most = omega (arith, l.most, advance_mass sizing_nat_abs (meets (map time_of h.ahead) none) k.buffer) }

pub emitted_small : {as' bs : List Edit} → WaveRun as' → WaveRun bs → All (λ (e : Emission). nat_abs e.1 ≤ 2 ^ 60) (wave_of as' bs)
emitted_small {as'} {bs} r s =
    let most : mass nat_abs as' * mass nat_abs bs ≤ 2 ^ 60 = mul-le-mul (run-mass r) (run-mass s) in
    all_imp (λ e q. omega (arith, wave-mass sizing_nat_abs as' bs)) (mass_each nat_abs (wave_of as' bs))
