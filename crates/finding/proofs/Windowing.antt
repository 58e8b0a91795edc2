-- The discovery of a window.
--
-- values_within, diffs_within: the input's part lies within its other columns. slot_lent: what one key's discovery asks of the parts. slot_window: what it leaves
-- spans_lent: each part of a key lies within its run. found_next, found_none: what is found from their fronts, key by key
-- SameLong: memory keeps its lengths. same_more: the loop keeps that. scratch_still, runs_still: so it still serves any key of the runs
-- over-append: limits, window after window
-- Windowing: what the loop over the slots keeps. windowing_more, windowing_end: it does. windowing_room: there is room for one more key
use Prim.Native.Nat.{ℕ, zero, suc, ◌+◌, ◌-◌, ◌*◌, ◌≤◌, ◌<◌}
use native.Mathlib.Numerals.{add-one}
use native.Mathlib.Omega.{arith}
use mathlib.Core.Bool.{Bool, true, false, ◌||◌}
use mathlib.Core.List.{List, [], ◌∷◌, ◌++◌, append_assoc, append-nil, map, map-append}
use mathlib.Core.Path.{◌≡◌, refl, sym, ◌∙◌, ap}
use lib.Dec.{ltb}
use lib.IntN.{ℤ}
use lib.ListN.{length, take, drop, get_or, set, replicate, length-append}
use lib.Seq.{get_or-take}
use borrow.Author.Tests.{ltb-true, lt-ltb, le-ltb}
use Rattle.grid.specs.Lists.{any, flat}
use Rattle.grid.proofs.Tests.{by-test, or_false_l}
use Rattle.grid.proofs.Lists.{head}
use Rattle.grid.proofs.Loops.{drop_more}
use Rattle.grid.proofs.Slices.{Laying, laying_more, laying_end}
use Rattle.grid.proofs.Operations.{flat_append, any_append}
use Rattle.rules.specs.Discover.{most_moments, State, discover}
use Rattle.consolidation.specs.Entries.{mass}
use Rattle.edits.specs.Edits.{edits}
use Rattle.backends.specs.Segments.{part, ends, whole}
use Rattle.backends.proofs.Columns.{all_drop, Writing, writing_append, writing_end}
use Rattle.backends.proofs.Segments.{part_length, ends_next}
use Rattle.keys.specs.Spans.{Within}
use Rattle.keys.specs.declared.Span.{Span}
use Rattle.finding.specs.Tallies.{Scratch, LentTally, LentSlot, slot_over, FindsSlot}
use Rattle.finding.specs.Windowed.{span_in, state_at, LentRuns, LentSpans, spans_in, fourfold, moments_of, pended_row, firsts_of, seconds_of, window_over, Parted, LentWindow, FindsWindow}
use Rattle.tallies.specs.declared.Tally.{Tally}

-- ---- parts of the diffs
mass-take : (n : ℕ) (ds : List ℤ) → mass (take n ds) ≤ mass ds
unfolding mass
mass-take zero ds = omega arith
mass-take (suc n) [] = omega arith
mass-take (suc n) (d ∷ ds) = omega (arith, mass-take n ds)

mass-drop : (n : ℕ) (ds : List ℤ) → mass (drop n ds) ≤ mass ds
unfolding mass
mass-drop zero ds = omega arith
mass-drop (suc n) [] = omega arith
mass-drop (suc n) (d ∷ ds) = omega (arith, mass-drop n ds)

mass-part : (a b : ℕ) (ds : List ℤ) → mass (part a b ds) ≤ mass ds
mass-part a b ds = omega (arith, mass-take (b - a) (drop a ds), mass-drop a ds)

-- ---- one key
part_few : {A : Type 0} {most : ℕ} (s : Span) (l : List A) → Within (length l) s → length l ≤ most → length (part s.from s.to l) ≤ most
part_few s l w h = omega (arith, part_length s.from s.to l w.ordered w.inside, w.ordered, w.inside)

module _ {most : ℕ} {newtimes pendingtimes intimes invalues : List ℕ} {indiffs : List ℤ} {outtimes : List ℕ} (L : LentRuns most newtimes pendingtimes intimes invalues indiffs outtimes)
    {n p i o : Span} (S : LentSpans (length newtimes) n (length pendingtimes) p (length intimes) i (length outtimes) o) where
  pub values_within : Within (length invalues) i
  values_within = rw L.input_alike.values S.input_within

  pub diffs_within : Within (length indiffs) i
  diffs_within = rw L.input_alike.diffs S.input_within

  module _ {seedtimes pending times values : List ℕ} {diffs : List ℤ} {out : List ℕ} (en : seedtimes ≡ part n.from n.to newtimes) (ep : pending ≡ part p.from p.to pendingtimes)
      (et : times ≡ part i.from i.to intimes) (ev : values ≡ part i.from i.to invalues) (ed : diffs ≡ part i.from i.to indiffs) (eo : out ≡ part o.from o.to outtimes) where
    pub slot_lent : {moments nextkeys nexttimes : List ℕ} {q : Tally} → LentTally most moments nextkeys nexttimes q → LentSlot most seedtimes pending times values diffs out moments nextkeys nexttimes q
    slot_lent t =
        let lt = part_length i.from i.to intimes S.input_within.ordered S.input_within.inside in
        let lv = part_length i.from i.to invalues values_within.ordered values_within.inside in
        let ld = part_length i.from i.to indiffs diffs_within.ordered diffs_within.inside in
        rw (en, ep, et, ev, ed, eo) (record {
          seeds_few = part_few n newtimes S.new_within L.new_few;
          pending_few = part_few p pendingtimes S.pending_within L.pending_few;
          input_lent = record { alike-second = lv ∙ sym lt; alike-diff = ld ∙ sym lt; bounded = omega (arith, mass-part i.from i.to indiffs, L.input_light) };
          input_few = part_few i intimes S.input_within L.input_few;
          output_few = part_few o outtimes S.out_within L.out_few;
          goes_on = t;
        })

    pub slot_window : (upper : List ℕ) {k : ℕ} {q r : Tally} {moments nextkeys nexttimes moments' nextkeys' nexttimes' : List ℕ} → FindsSlot most (discover upper seedtimes pending (edits times values diffs) out) k q moments nextkeys nexttimes moments' nextkeys' nexttimes' r
        → FindsSlot most (state_at upper newtimes pendingtimes intimes invalues indiffs outtimes n p i o) k q moments nextkeys nexttimes moments' nextkeys' nexttimes' r
    unfolding state_at
    slot_window upper f = rw (en, ep, et, ev, ed, eo) at f

-- ---- lists of parts, and what is found from them
spans_next : (fs ts : List ℕ) (b : ℕ) → b < length fs → b < length ts → drop b (spans_in fs ts) ≡ span_in fs ts b ∷ drop (b + 1) (spans_in fs ts)
unfolding spans_in
spans_next [] ts b h k = absurd (omega arith)
spans_next (f ∷ fs) [] b h k = absurd (omega arith)
spans_next (f ∷ fs) (t ∷ ts) zero h k = refl
spans_next (f ∷ fs) (t ∷ ts) (suc b) h k = rw add-one (spans_next fs ts b (omega (arith, h)) (omega (arith, k)) ∙ rw add-one)

spans_none : (fs ts : List ℕ) (b : ℕ) → length fs ≤ b → drop b (spans_in fs ts) ≡ []
unfolding spans_in
spans_none [] ts zero h = refl
spans_none [] ts (suc b) h = refl
spans_none (f ∷ fs) ts zero h = absurd (omega arith)
spans_none (f ∷ fs) [] (suc b) h = refl
spans_none (f ∷ fs) (t ∷ ts) (suc b) h = spans_none fs ts b (omega (arith, h))

module _ (f : Span → Span → Span → Span → State) where
  no_second : (ns is os : List Span) → fourfold f ns [] is os ≡ []
  unfolding fourfold
  no_second [] is os = refl
  no_second (n ∷ ns) is os = refl

  no_third : (ns ps os : List Span) → fourfold f ns ps [] os ≡ []
  unfolding fourfold
  no_third [] ps os = refl
  no_third (n ∷ ns) [] os = refl
  no_third (n ∷ ns) (p ∷ ps) os = refl

  no_fourth : (ns ps is : List Span) → fourfold f ns ps is [] ≡ []
  unfolding fourfold
  no_fourth [] ps is = refl
  no_fourth (n ∷ ns) [] is = refl
  no_fourth (n ∷ ns) (p ∷ ps) [] = refl
  no_fourth (n ∷ ns) (p ∷ ps) (i ∷ is) = refl

  fourfold-drop : (b : ℕ) (ns ps is os : List Span) → drop b (fourfold f ns ps is os) ≡ fourfold f (drop b ns) (drop b ps) (drop b is) (drop b os)
  unfolding fourfold
  fourfold-drop zero ns ps is os = refl
  fourfold-drop (suc b) [] ps is os = refl
  fourfold-drop (suc b) (n ∷ ns) [] is os = sym (no_second (drop b ns) (drop (suc b) is) (drop (suc b) os))
  fourfold-drop (suc b) (n ∷ ns) (p ∷ ps) [] os = sym (no_third (drop b ns) (drop b ps) (drop (suc b) os))
  fourfold-drop (suc b) (n ∷ ns) (p ∷ ps) (i ∷ is) [] = sym (no_fourth (drop b ns) (drop b ps) (drop b is))
  fourfold-drop (suc b) (n ∷ ns) (p ∷ ps) (i ∷ is) (o ∷ os) = fourfold-drop b ns ps is os

  fourfold_none : (b : ℕ) (ns ps is os : List Span) → drop b ns ≡ [] → drop b (fourfold f ns ps is os) ≡ []
  unfolding fourfold
  fourfold_none b ns ps is os e = fourfold-drop b ns ps is os ∙ ap (λ l. fourfold f l (drop b ps) (drop b is) (drop b os)) e

  fourfold-next : (b : ℕ) {n p i o : Span} (ns ps is os : List Span) → drop b ns ≡ n ∷ drop (b + 1) ns → drop b ps ≡ p ∷ drop (b + 1) ps → drop b is ≡ i ∷ drop (b + 1) is → drop b os ≡ o ∷ drop (b + 1) os
      → drop b (fourfold f ns ps is os) ≡ f n p i o ∷ drop (b + 1) (fourfold f ns ps is os)
  unfolding fourfold
  fourfold-next b {n} {p} {i} {o} ns ps is os en ep ei eo =
      fourfold-drop b ns ps is os ∙ (λ z. fourfold f (en z) (ep z) (ei z) (eo z)) ∙ ap (λ l. f n p i o ∷ l) (sym (fourfold-drop (b + 1) ns ps is os))

-- ---- where the loop stands in the fronts of the columns
module _ {n long : ℕ} (from to : List ℕ) {b : ℕ} (P : Parted n long (take n from) (take n to)) (h : b < n) where
  front_span : span_in (take n from) (take n to) b ≡ span_in from to b
  front_span = λ z. record { from = get_or-take n from b 0 h z; to = get_or-take n to b 0 h z }

  parted_next : {s : Span} → s ≡ span_in from to b → drop b (spans_in (take n from) (take n to)) ≡ s ∷ drop (b + 1) (spans_in (take n from) (take n to))
  parted_next e =
      spans_next (take n from) (take n to) b (omega (arith, P.from_long)) (omega (arith, P.to_long))
      ∙ ap (λ s. s ∷ drop (b + 1) (spans_in (take n from) (take n to))) (front_span ∙ sym e)

  parted_within : {s : Span} → s ≡ span_in from to b → Within long s
  parted_within e = head (rw (parted_next e) at (all_drop b P.inside))

module _ {k new pending input out : ℕ} (nfrom nto pfrom pto ifrom ito ofrom oto : List ℕ) {b : ℕ}
    (P : Parted k new (take k nfrom) (take k nto) × (Parted k pending (take k pfrom) (take k pto) × (Parted k input (take k ifrom) (take k ito) × Parted k out (take k ofrom) (take k oto)))) (h : b < k)
    {n p i o : Span} (en : n ≡ span_in nfrom nto b) (ep : p ≡ span_in pfrom pto b) (ei : i ≡ span_in ifrom ito b) (eo : o ≡ span_in ofrom oto b) where
  pub spans_lent : LentSpans new n pending p input i out o
  spans_lent =
      record {
        new_within = parted_within nfrom nto P.0 h en;
        pending_within = parted_within pfrom pto P.1.0 h ep;
        input_within = parted_within ifrom ito P.1.1.0 h ei;
        out_within = parted_within ofrom oto P.1.1.1 h eo;
      }

  pub found_next : (f : Span → Span → Span → Span → State)
      → drop b (fourfold f (spans_in (take k nfrom) (take k nto)) (spans_in (take k pfrom) (take k pto)) (spans_in (take k ifrom) (take k ito)) (spans_in (take k ofrom) (take k oto)))
      ≡ f n p i o ∷ drop (b + 1) (fourfold f (spans_in (take k nfrom) (take k nto)) (spans_in (take k pfrom) (take k pto)) (spans_in (take k ifrom) (take k ito)) (spans_in (take k ofrom) (take k oto)))
  found_next f =
      fourfold-next f b (spans_in (take k nfrom) (take k nto)) (spans_in (take k pfrom) (take k pto)) (spans_in (take k ifrom) (take k ito)) (spans_in (take k ofrom) (take k oto))
      (parted_next nfrom nto P.0 h en) (parted_next pfrom pto P.1.0 h ep) (parted_next ifrom ito P.1.1.0 h ei) (parted_next ofrom oto P.1.1.1 h eo)

pub found_none : {k new : ℕ} {nfrom nto : List ℕ} {b : ℕ} → Parted k new nfrom nto → k ≤ b → (f : Span → Span → Span → Span → State) (ps is os : List Span) → drop b (fourfold f (spans_in nfrom nto) ps is os) ≡ []
found_none {nfrom = nfrom} {nto} {b} P h f ps is os = fourfold_none f b (spans_in nfrom nto) ps is os (spans_none nfrom nto b (omega (arith, P.from_long)))

-- ---- memory of the loop keeps its lengths
pub record SameLong (seeds₀ times₀ values₀ : List ℕ) (diffs₀ : List ℤ) (output₀ meets₀ waiting₀ tracked₀ moments₀ pended₀ work₀ places₀ wvalues₀ : List ℕ) (wdiffs₀ : List ℤ) (nextkeys₀ nexttimes₀ mends₀ : List ℕ) (seeds times values : List ℕ) (diffs : List ℤ) (output meets waiting tracked moments pended work places wvalues : List ℕ) (wdiffs : List ℤ) (nextkeys nexttimes mends : List ℕ) : Type 0 where
  pub of_seeds : length seeds ≡ length seeds₀
  pub of_times : length times ≡ length times₀
  pub of_values : length values ≡ length values₀
  pub of_diffs : length diffs ≡ length diffs₀
  pub of_output : length output ≡ length output₀
  pub of_meets : length meets ≡ length meets₀
  pub of_waiting : length waiting ≡ length waiting₀
  pub of_tracked : length tracked ≡ length tracked₀
  pub of_moments : length moments ≡ length moments₀
  pub of_pended : length pended ≡ length pended₀
  pub of_work : length work ≡ length work₀
  pub of_places : length places ≡ length places₀
  pub of_wvalues : length wvalues ≡ length wvalues₀
  pub of_wdiffs : length wdiffs ≡ length wdiffs₀
  pub of_nextkeys : length nextkeys ≡ length nextkeys₀
  pub of_nexttimes : length nexttimes ≡ length nexttimes₀
  pub of_mends : length mends ≡ length mends₀

module _ {seeds₀ times₀ values₀ : List ℕ} {diffs₀ : List ℤ} {output₀ meets₀ waiting₀ tracked₀ moments₀ pended₀ work₀ places₀ wvalues₀ : List ℕ} {wdiffs₀ : List ℤ} {nextkeys₀ nexttimes₀ mends₀ : List ℕ} {seeds times values : List ℕ} {diffs : List ℤ} {output meets waiting tracked moments pended work places wvalues : List ℕ} {wdiffs : List ℤ} {nextkeys nexttimes mends : List ℕ} (S : SameLong seeds₀ times₀ values₀ diffs₀ output₀ meets₀ waiting₀ tracked₀ moments₀ pended₀ work₀ places₀ wvalues₀ wdiffs₀ nextkeys₀ nexttimes₀ mends₀ seeds times values diffs output meets waiting tracked moments pended work places wvalues wdiffs nextkeys nexttimes mends) where
  pub scratch_still : Scratch (length nextkeys₀) seeds₀ times₀ values₀ diffs₀ output₀ meets₀ waiting₀ tracked₀ pended₀ work₀ places₀ wvalues₀ wdiffs₀ → Scratch (length nextkeys) seeds times values diffs output meets waiting tracked pended work places wvalues wdiffs
  scratch_still c =
      record {
        seeds_room = rw (S.of_nextkeys, S.of_seeds) c.seeds_room;
        input_alike = record { values = S.of_values ∙ c.input_alike.values ∙ sym S.of_times; diffs = S.of_diffs ∙ c.input_alike.diffs ∙ sym S.of_times };
        input_room = rw (S.of_nextkeys, S.of_times) c.input_room;
        output_room = rw (S.of_nextkeys, S.of_output) c.output_room;
        meets_room = rw (S.of_nextkeys, S.of_meets) c.meets_room;
        waiting_room = rw S.of_waiting c.waiting_room;
        tracked_room = rw (S.of_nextkeys, S.of_tracked) c.tracked_room;
        pended_room = rw S.of_pended c.pended_room;
        work_room = rw (S.of_nextkeys, S.of_work) c.work_room;
        for_tracked = rw (S.of_tracked, S.of_work) c.for_tracked;
        places_room = rw (S.of_nextkeys, S.of_places) c.places_room;
        wvalues_room = rw (S.of_nextkeys, S.of_wvalues) c.wvalues_room;
        wdiffs_room = rw (S.of_nextkeys, S.of_wdiffs) c.wdiffs_room;
      }

  pub runs_still : {newtimes pendingtimes intimes invalues : List ℕ} {indiffs : List ℤ} {outtimes : List ℕ} → LentRuns (length nextkeys₀) newtimes pendingtimes intimes invalues indiffs outtimes → LentRuns (length nextkeys) newtimes pendingtimes intimes invalues indiffs outtimes
  runs_still L = rw S.of_nextkeys L

  pub same_more : {seeds' times' values' : List ℕ} {diffs' : List ℤ} {output' meets' waiting' tracked' moments' pended' work' places' wvalues' : List ℕ} {wdiffs' : List ℤ} {nextkeys' nexttimes' mends' : List ℕ} → length seeds' ≡ length seeds → length times' ≡ length times → length values' ≡ length values → length diffs' ≡ length diffs → length output' ≡ length output → length meets' ≡ length meets → length waiting' ≡ length waiting → length tracked' ≡ length tracked → length moments' ≡ length moments → length pended' ≡ length pended → length work' ≡ length work → length places' ≡ length places → length wvalues' ≡ length wvalues → length wdiffs' ≡ length wdiffs → length nextkeys' ≡ length nextkeys → length nexttimes' ≡ length nexttimes → length mends' ≡ length mends → SameLong seeds₀ times₀ values₀ diffs₀ output₀ meets₀ waiting₀ tracked₀ moments₀ pended₀ work₀ places₀ wvalues₀ wdiffs₀ nextkeys₀ nexttimes₀ mends₀ seeds' times' values' diffs' output' meets' waiting' tracked' moments' pended' work' places' wvalues' wdiffs' nextkeys' nexttimes' mends'
  same_more e0 e1 e2 e3 e4 e5 e6 e7 e8 e9 e10 e11 e12 e13 e14 e15 e16 =
      record { of_seeds = e0 ∙ S.of_seeds; of_times = e1 ∙ S.of_times; of_values = e2 ∙ S.of_values; of_diffs = e3 ∙ S.of_diffs; of_output = e4 ∙ S.of_output; of_meets = e5 ∙ S.of_meets; of_waiting = e6 ∙ S.of_waiting; of_tracked = e7 ∙ S.of_tracked; of_moments = e8 ∙ S.of_moments; of_pended = e9 ∙ S.of_pended; of_work = e10 ∙ S.of_work; of_places = e11 ∙ S.of_places; of_wvalues = e12 ∙ S.of_wvalues; of_wdiffs = e13 ∙ S.of_wdiffs; of_nextkeys = e14 ∙ S.of_nextkeys; of_nexttimes = e15 ∙ S.of_nexttimes; of_mends = e16 ∙ S.of_mends }

-- ---- limits
or_true : (a : Bool) → (a || true) ≡ true
or_true true = refl
or_true false = refl

abbrev pended_of : State → List ℕ
pended_of D = D.pended

abbrev over_of : State → Bool
over_of D = D.over

pub over-append : (most : ℕ) (over : Bool) (n n' : ℕ) (Ds Es : List State) → (window_over most over n Ds ≡ false → n' ≡ n + length (flat (λ (D : State). D.pended) Ds)) → window_over most (window_over most over n Ds) n' Es ≡ window_over most over n (Ds ++ Es)
unfolding window_over
over-append most over n n' Ds Es g =
    let l = ap length (flat_append pended_of Ds Es) ∙ length-append (flat pended_of Ds) (flat pended_of Es) in
    by-test over (λ o. rw o)
    (λ o. by-test (any over_of Ds)
    (λ d. rw (any_append over_of Ds Es, o, d))
    (λ d. by-test (ltb most (n + length (flat pended_of Ds)))
    (λ m. rw (any_append over_of Ds Es, o, d, m, lt-ltb most (n + length (flat pended_of (Ds ++ Es))) (omega (arith, l, ltb-true most (n + length (flat pended_of Ds)) m))) (sym (or_true (any over_of Es))))
    (λ m. let q : n' + length (flat pended_of Es) ≡ n + length (flat pended_of (Ds ++ Es)) = omega (arith, l, g (rw (o, d, m))) in
    rw (any_append over_of Ds Es, o, d, m, q))))

-- one key
over_one : (most : ℕ) (over : Bool) (n : ℕ) (D : State) → slot_over most over n D ≡ window_over most over n (D ∷ [])
unfolding slot_over window_over
over_one most over n D = rw (append-nil D.pended) (by-test D.over (λ e. rw e) (λ e. rw e))

over-step : (most : ℕ) (over : Bool) (n : ℕ) (D : State) (Ds : List State) {over' : Bool} {n' : ℕ} → over' ≡ slot_over most over n D → (over' ≡ false → n' ≡ n + length D.pended) → window_over most over' n' Ds ≡ window_over most over n (D ∷ Ds)
over-step most over n D Ds {over'} {n'} e g =
    let q = e ∙ over_one most over n D in
    ap (λ o. window_over most o n' Ds) q ∙ over-append most over n n' (D ∷ []) Ds (λ z. g (q ∙ z) ∙ ap (λ l. n + length l) (sym (append-nil D.pended)))

over_none : (most : ℕ) (over : Bool) (n : ℕ) → n ≤ most → window_over most over n [] ≡ over
unfolding window_over
over_none most over n h = rw (le-ltb most (n + 0) (omega arith)) (or_none over)
  where
    or_none : (a : Bool) → (a || (false || false)) ≡ a
    or_none true = refl
    or_none false = refl

-- ---- the next list
firsts_own : (k : ℕ) (ts : List ℕ) → firsts_of (map (λ t. (k, t)) ts) ≡ replicate (length ts) k
firsts_own k [] = refl
firsts_own k (t ∷ ts) = ap (λ l. k ∷ l) (firsts_own k ts)

seconds_own : (k : ℕ) (ts : List ℕ) → seconds_of (map (λ t. (k, t)) ts) ≡ ts
seconds_own k [] = refl
seconds_own k (t ∷ ts) = ap (λ l. t ∷ l) (seconds_own k ts)

module _ (k : ℕ) (ks : List ℕ) (D : State) (Ds : List State) where
  row_next : pended_row (k ∷ ks) (D ∷ Ds) ≡ map (λ t. (k, t)) D.pended ++ pended_row ks Ds
  unfolding pended_row
  row_next = refl

  firsts_next : firsts_of (pended_row (k ∷ ks) (D ∷ Ds)) ≡ replicate (length D.pended) k ++ firsts_of (pended_row ks Ds)
  firsts_next = ap firsts_of row_next ∙ map-append (λ (p : ℕ × ℕ). p.0) (map (λ t. (k, t)) D.pended) (pended_row ks Ds) ∙ ap (λ l. l ++ firsts_of (pended_row ks Ds)) (firsts_own k D.pended)

  seconds_next : seconds_of (pended_row (k ∷ ks) (D ∷ Ds)) ≡ D.pended ++ seconds_of (pended_row ks Ds)
  seconds_next = ap seconds_of row_next ∙ map-append (λ (p : ℕ × ℕ). p.1) (map (λ t. (k, t)) D.pended) (pended_row ks Ds) ∙ ap (λ l. l ++ seconds_of (pended_row ks Ds)) (seconds_own k D.pended)

row_none : (ks : List ℕ) → pended_row ks [] ≡ []
unfolding pended_row
row_none [] = refl
row_none (k ∷ ks) = refl

ends_none : (m : ℕ) → ends m (moments_of []) ≡ []
unfolding ends
ends_none m = refl

-- ---- the loop over the slots
pub record Windowing (most : ℕ) (keys : List ℕ) (Ds : List State) (p : Tally) (mends₀ nextkeys₀ nexttimes₀ moments mends nextkeys nexttimes : List ℕ) (b : ℕ) (w : Tally) : Type 0 where
  pub within : b ≤ length keys
  pub moments_few : w.moments ≤ b * most_moments
  pub next_few : w.pended ≤ most
  pub over_is : window_over most w.over w.pended (drop b Ds) ≡ window_over most p.over p.pended Ds
  pub row_long : w.over ≡ false → w.moments + length (whole (moments_of (drop b Ds))) ≡ length (whole (moments_of Ds))
  pub row_is : w.over ≡ false → take w.moments moments ++ whole (moments_of (drop b Ds)) ≡ whole (moments_of Ds)
  pub ends_are : w.over ≡ false → Laying mends₀ mends b (ends w.moments (moments_of (drop b Ds))) (ends 0 (moments_of Ds))
  pub next_keys : w.over ≡ false → Writing nextkeys₀ p.pended (firsts_of (pended_row keys Ds)) nextkeys w.pended (firsts_of (pended_row (drop b keys) (drop b Ds)))
  pub next-times : w.over ≡ false → Writing nexttimes₀ p.pended (seconds_of (pended_row keys Ds)) nexttimes w.pended (seconds_of (pended_row (drop b keys) (drop b Ds)))

module _ {most : ℕ} {keys : List ℕ} {Ds : List State} {p : Tally} {mends₀ nextkeys₀ nexttimes₀ moments mends nextkeys nexttimes : List ℕ} {b : ℕ} {w : Tally}
    (W : Windowing most keys Ds p mends₀ nextkeys₀ nexttimes₀ moments mends nextkeys nexttimes b w) where
  pub windowing_room : {moments₀ : List ℕ} → LentWindow most keys moments₀ mends₀ nextkeys₀ nexttimes₀ p → b < length keys → length moments ≡ length moments₀ → length nextkeys ≡ length nextkeys₀ → length nexttimes ≡ length nexttimes₀
      → LentTally (length nextkeys) moments nextkeys nexttimes w
  windowing_room l h lm lk lt =
      record {
        moments_room = omega (arith, W.moments_few, l.keys_few, l.moments_room);
        moments_few = omega (arith, W.moments_few, l.keys_few);
        next_room = record {
          within = omega (arith, W.next_few, l.next_room.keys_room);
          keys_room = refl;
          times_room = omega (arith, l.next_room.keys_room, l.next_room.times_room);
          room_few = omega (arith, l.next_room.keys_room, l.next_room.room_few);
        };
      }

  module _ {D : State} {moments' nextkeys' nexttimes' : List ℕ} {w' : Tally} (h : b < length keys) (here : drop b Ds ≡ D ∷ drop (b + 1) Ds) (room : length nextkeys ≡ most) (G : FindsSlot (length nextkeys) D (get_or keys b 0) w moments nextkeys nexttimes moments' nextkeys' nexttimes' w') where
    F : FindsSlot most D (get_or keys b 0) w moments nextkeys nexttimes moments' nextkeys' nexttimes' w'
    F = rw room at G

    still : w'.over ≡ false → w.over ≡ false
    unfolding slot_over
    still o = or_false_l w.over _ (sym F.over_is ∙ o)

    over_on : window_over most w'.over w'.pended (drop (b + 1) Ds) ≡ window_over most p.over p.pended Ds
    over_on =
        over-step most w.over w.pended D (drop (b + 1) Ds) F.over_is (λ o. (F.times_are o).end)
        ∙ ap (window_over most w.over w.pended) (sym here) ∙ W.over_is

    long_on : w'.over ≡ false → w'.moments + length (whole (moments_of (drop (b + 1) Ds))) ≡ length (whole (moments_of Ds))
    long_on o =
        let e = ap (λ l. length (whole (moments_of l))) here ∙ length-append D.moments (whole (moments_of (drop (b + 1) Ds))) in
        omega (arith, e, (F.moments_are o).end, W.row_long (still o))

    row_on : w'.over ≡ false → take w'.moments moments' ++ whole (moments_of (drop (b + 1) Ds)) ≡ whole (moments_of Ds)
    row_on o =
        ap (λ l. l ++ whole (moments_of (drop (b + 1) Ds))) (F.moments_are o).front
        ∙ append_assoc (take w.moments moments) D.moments (whole (moments_of (drop (b + 1) Ds)))
        ∙ ap (λ l. take w.moments moments ++ whole (moments_of l)) (sym here) ∙ W.row_is (still o)

    rows_here : pended_row (drop b keys) (drop b Ds) ≡ pended_row (get_or keys b 0 ∷ drop (b + 1) keys) (D ∷ drop (b + 1) Ds)
    rows_here = λ i. pended_row (drop_more keys b 0 h i) (here i)

    pub windowing_more : length mends ≡ length mends₀ → length keys ≤ length mends₀ → length nextkeys' ≡ length nextkeys → length nexttimes' ≡ length nexttimes
        → Windowing most keys Ds p mends₀ nextkeys₀ nexttimes₀ moments' (set mends b w'.moments) nextkeys' nexttimes' (b + 1) w'
    windowing_more le lk lk' lt' =
        record {
          within = omega arith;
          moments_few = omega (arith, W.moments_few, F.moments_few);
          next_few = F.next_few;
          over_is = over_on;
          row_long = long_on;
          row_is = row_on;
          ends_are = λ o. laying_more (W.ends_are (still o)) w'.moments (omega arith) (ap (λ l. ends w.moments (moments_of l)) here ∙ ends_next w.moments D.moments (moments_of (drop (b + 1) Ds)) (F.moments_are o).end);
          next_keys = λ o. writing_append (W.next_keys (still o)) (F.keys_are o) lk' (ap firsts_of rows_here ∙ firsts_next (get_or keys b 0) (drop (b + 1) keys) D (drop (b + 1) Ds));
          next-times = λ o. writing_append (W.next-times (still o)) (F.times_are o) lt' (ap seconds_of rows_here ∙ seconds_next (get_or keys b 0) (drop (b + 1) keys) D (drop (b + 1) Ds));
        }

  pub windowing_end : length keys ≤ b → drop b Ds ≡ [] → FindsWindow most keys Ds p mends₀ nextkeys₀ nexttimes₀ moments mends nextkeys nexttimes w
  windowing_end h e =
      let q : b ≡ length keys = omega (arith, W.within) in
      let rows : pended_row (drop b keys) (drop b Ds) ≡ [] = ap (pended_row (drop b keys)) e ∙ row_none (drop b keys) in
      record {
        over_is = sym (over_none most w.over w.pended W.next_few) ∙ ap (window_over most w.over w.pended) (sym e) ∙ W.over_is;
        next_few = W.next_few;
        row_long = λ o. omega (arith, ap (λ l. length (whole (moments_of l))) e, W.row_long o);
        row_is = λ o. sym (append-nil (take w.moments moments)) ∙ ap (λ l. take w.moments moments ++ whole (moments_of l)) (sym e) ∙ W.row_is o;
        ends_are = λ o. rw q at (laying_end (W.ends_are o) (ap (λ l. ends w.moments (moments_of l)) e ∙ ends_none w.moments));
        next_keys = λ o. writing_end (W.next_keys o) (ap firsts_of rows);
        next-times = λ o. writing_end (W.next-times o) (ap seconds_of rows);
      }
