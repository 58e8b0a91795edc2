-- A window's rounds, from the memory and the progress of a call.
--
-- span_steps: a cut in steps. settle_weighs: what choosing a way asks
-- corrects_room: the front of result memory is long enough. corrects_asks: what the rounds ask. corrects_steps, corrects_within, corrects_short, corrects_adds: what counting them asks
-- past p n c: a call that has come as far as p, then settled a window to n corrections and counted c rounds. past_large: then to too large ones
-- corrected_left: what a window leaves whose rounds are left out. corrected_done: what it leaves after its rounds. corrected_over: where they are too large
use Prim.Native.Nat.{ℕ, ◌+◌, ◌-◌, ◌≤◌, ◌<◌, ◌^◌}
use native.Mathlib.Omega.{arith}
use native.Mathlib.Nat.{sub-zero}
use mathlib.Core.Bool.{true, false, cond, ◌||◌}
use mathlib.Core.List.{List, [], ◌∷◌}
use mathlib.Core.Path.{◌≡◌, refl, sym, ◌∙◌, ap, subst}
use lib.Dec.{ltb}
use lib.IntN.{ℤ}
use lib.ListN.{length, take, replicate, length-replicate, length-map, length-take}
use lib.Seq.{length-take-le}
use borrow.Author.Tests.{ltb-false}
use Rattle.grid.proofs.Tests.{by-test, clash, or_false_l, or_false_r}
use Rattle.grid.proofs.Lists.{All, nil, cons}
use Rattle.rules.specs.Histories.{Edit}
use Rattle.rules.specs.Discover.{most_moments}
use Rattle.rules.specs.Retire.{Round, settle}
use Rattle.rules.proofs.Width.{settle-length}
use Rattle.backends.specs.Segments.{part, segments, Cut}
use Rattle.backends.specs.Segments as cuts
use Rattle.backends.proofs.Segments.{part_length}
use Rattle.moments.specs.Present.{edits}
use Rattle.moments.specs.Window.{parts_of}
use Rattle.marks.specs.Marks.{marked_all, count_of, span_from, Steps, done, next}
use Rattle.marks.proofs.Spanning.{span-least, span_most}
use Rattle.marks.proofs.Counting.{marked-count, count_most}
use Rattle.slots.specs.Slots.{Slot, slots_of, slot_rounds, crossed_in, window_rows, window_crossings}
use Rattle.fixing.specs.Settle.{Listed, WindowSettled, WindowOver}
use Rattle.fixing.specs.Windows.{LentRounds, Slotted}
use Rattle.fixing.proofs.Slotting.{crossed_by}
use Rattle.progress.specs.declared.Progress.{Progress}
use Rattle.mending.specs.Corrected.{Wide, Corrects, Corrected, Weighs}

-- ---- the longest list of moments
module _ {l : List ℕ} where
  pub span_steps : {f : ℕ} {es : List ℕ} → Cut (λ m. length m ≤ most_moments) l f es → Steps f es
  span_steps cuts.done = done
  span_steps (cuts.next {f} {e} a b p c) = next {f = f} {e = e} a (let n : length (part f e l) ≡ e - f = part_length f e l a b in omega arith) (span_steps c)

  span_all : (m : ℕ) {f : ℕ} {es : List ℕ} → Cut (λ m. length m ≤ most_moments) l f es → All (λ s. length s ≤ span_from m f es) (segments f es l)
  unfolding span_from segments
  span_all m cuts.done = nil
  span_all m (cuts.next {f} {e} {es} a b p c) =
      let k : ℕ = cond (ltb m (e - f)) (e - f) m in
      let n : length (part f e l) ≡ e - f = part_length f e l a b in
      let h : k ≤ span_from k e es = span-least k e es in
      let g : e - f ≤ k = by-test (ltb m (e - f)) (λ q. rw q (omega arith)) (λ q. rw q (ltb-false m (e - f) q)) in
      cons {x = part f e l} (omega arith) (span_all k c)

-- ---- a slot has as many rounds as moments
crossed_short : (mode n : ℕ) (keys : List ℕ) (is os : List (List Edit)) (ms : List (List ℕ)) → All (λ m. length m ≤ n) ms → All (λ cs. length cs ≤ n) (crossed_by mode (slots_of keys is os ms))
unfolding slots_of slot_rounds
crossed_short mode n [] is os ms a = nil
crossed_short mode n (k ∷ keys) [] os ms a = nil
crossed_short mode n (k ∷ keys) (i ∷ is) [] ms a = nil
crossed_short mode n (k ∷ keys) (i ∷ is) (o ∷ os) [] a = nil
crossed_short mode n (k ∷ keys) (i ∷ is) (o ∷ os) (m ∷ ms) (cons p a) =
    let e : length (crossed_in (settle mode i o m)) ≡ length m = length-map (settle mode i o m) (λ (r : Round). r.crossed) ∙ settle-length mode i o m in
    cons {x = crossed_in (settle mode i o m)} (omega arith) (crossed_short mode n keys is os ms a)

-- ---- what a window leaves
abbrev pub past : Progress → ℕ → ℕ → Progress
past p n c = record {
  new = p.new;
  pending = p.pending;
  input = p.input;
  out = p.out;
  pended = p.pended;
  fixes = n;
  crossings = p.crossings + c;
  large = p.large;
  over = p.over;
}

abbrev pub past_large : Progress → Progress
past_large p = record {
  new = p.new;
  pending = p.pending;
  input = p.input;
  out = p.out;
  pended = p.pended;
  fixes = p.fixes;
  crossings = p.crossings;
  large = true;
  over = p.over;
}

pub corrected_left : {most mode : ℕ} {keys : List ℕ} {is os : List (List Edit)} {ms : List (List ℕ)} {p : Progress} {fk fv ft : List ℕ} {fd : List ℤ} → (p.over || p.large) ≡ true → Corrected most mode keys is os ms p p fk fv ft fd fk fv ft fd
corrected_left {p = p} h = record {
  new_same = refl;
  pending_same = refl;
  input_same = refl;
  out_same = refl;
  pended_same = refl;
  over-same = refl;
  stays_large = λ e. e;
  settles = λ o l. clash (p.over || p.large) h (rw (o, l));
}

-- how many rounds are counted
count_is : (mode n : ℕ) {moments mends : List ℕ} (keys : List ℕ) (is os : List (List Edit)) {marks : List ℕ} → Cut (λ m. length m ≤ most_moments) moments 0 mends → n ≡ span_from 0 0 mends → n ≤ 1024
    → marks ≡ marked_all (crossed_by mode (slots_of keys is os (segments 0 mends moments))) (replicate 1024 0) → count_of (take (n - 0) marks) ≡ window_crossings mode (slots_of keys is os (segments 0 mends moments))
unfolding window_crossings
count_is mode n {moments} {mends} keys is os {marks} c e h m =
    let ss : List Slot = slots_of keys is os (segments 0 mends moments) in
    let a : All (λ s. length s ≤ n) (segments 0 mends moments) = subst (λ (k : ℕ). All (λ s. length s ≤ k) (segments 0 mends moments)) (sym e) (span_all 0 c) in
    ap (λ k. count_of (take k marks)) (sub-zero n)
    ∙ ap (λ l. count_of (take n l)) m
    ∙ marked-count n (crossed_by mode ss) h (crossed_short mode n keys is os (segments 0 mends moments) a)

-- ---- what is asked
pub settle_weighs : {most n : ℕ} {moments mends fs es tv tt : List ℕ} {td : List ℤ} {ofs oes xv xt : List ℕ} {xd : List ℤ} → Slotted most n moments mends fs es tv tt td ofs oes xv xt xd → Weighs mends fs es ofs oes
settle_weighs {n = n} {mends = mends} s =
    let m : length mends ≡ n = s.same_m in
    let f : n ≤ 64 = s.few in
    record { few = omega arith; steps = span_steps s.cut_m; same_e = s.same_e ∙ sym s.same_f; same_oe = s.same_oe ∙ sym s.same_of }

corrects_room : {most : ℕ} {uv ut : List ℕ} {ud : List ℤ} {iv : List ℕ} {id : List ℤ} {ov : List ℕ} {od cd : List ℤ} {res : List ℕ} → Wide most uv ut ud iv id ov od cd res → length cd ≤ length res
corrects_room w = omega (arith, w.long_cd, w.room_few, w.room_res)

module _ {most : ℕ} {keys moments mends fs es tv tt : List ℕ} {td : List ℤ} {ofs oes xv xt : List ℕ} {xd : List ℤ} {fk fv ft : List ℕ} {fd : List ℤ} {p : Progress}
    (x : Corrects most keys moments mends fs es tv tt td ofs oes xv xt xd fk fv ft fd p) (g : (p.over || p.large) ≡ false) where
  abbrev is : List (List Edit)
  is = parts_of fs es (edits tv tt td)

  abbrev os : List (List Edit)
  os = parts_of ofs oes (edits xv xt xd)

  abbrev ms : List (List ℕ)
  ms = segments 0 mends moments

  still : p.over ≡ false
  still = or_false_l p.over p.large g

  small : p.large ≡ false
  small = or_false_r p.over p.large g

  slotted : Slotted most (length keys) moments mends fs es tv tt td ofs oes xv xt xd
  slotted = x.slotted still

  pub corrects_asks : {uv ut : List ℕ} {ud : List ℤ} {iv : List ℕ} {id : List ℤ} {ov : List ℕ} {od cd : List ℤ} {res : List ℕ} → Wide most uv ut ud iv id ov od cd res
      → Slotted most (length keys) moments mends fs es tv tt td ofs oes xv xt xd × LentRounds most uv ut ud iv id ov od (take (length cd - 0) res) cd (replicate 1024 0) fk fv ft fd p.fixes
  corrects_asks {cd = cd} {res = res} w =
      let room : length cd ≤ length res = corrects_room w in (
        slotted,
        record {
          long_uv = w.long_uv;
          long_ut = w.long_ut;
          long_ud = w.long_ud;
          sums = record { long_iv = w.long_iv; long_ov = w.long_ov; long_id = w.long_id; long_od = w.long_od; long_cv = length-take-le (length cd - 0) res (omega arith) ∙ sub-zero (length cd) ∙ w.long_cd; long_cd = w.long_cd };
          long_marks = length-replicate {A = ℕ} 1024 0;
          lent = x.lent;
          fits = x.fits still small;
          room_few = w.room_few;
        },
      )

  pub corrects_steps : Steps 0 mends
  corrects_steps = span_steps slotted.cut_m

  module _ {n : ℕ} (e : n ≡ span_from 0 0 mends) where
    corrects_most : n ≤ 1024
    corrects_most = let h : span_from 0 0 mends ≤ most_moments = span_most 0 (omega arith) corrects_steps in omega arith

    pub corrects_within : (marks : List ℕ) → length marks ≡ length (replicate {A = ℕ} 1024 0) → n ≤ length marks
    corrects_within marks l = let h : n ≤ 1024 = corrects_most in omega (arith, l, length-replicate {A = ℕ} 1024 0)

    corrects_front : (marks : List ℕ) → length (take (n - 0) marks) ≤ 1024
    corrects_front marks = let h : n ≤ 1024 = corrects_most in rw length-take (omega arith)

    pub corrects_short : (marks : List ℕ) → length (take (n - 0) marks) < 2 ^ 32
    corrects_short marks = let h : length (take (n - 0) marks) ≤ 1024 = corrects_front marks in omega arith

    module _ (marks : List ℕ) {c : ℕ} (q : c ≡ count_of (take (n - 0) marks)) where
      corrects_few : c ≤ 1024
      corrects_few =
          let i : count_of (take (n - 0) marks) ≤ length (take (n - 0) marks) = count_most (take (n - 0) marks) in
          let j : length (take (n - 0) marks) ≤ 1024 = corrects_front marks in
          omega arith

      pub corrects_adds : p.crossings + c < 2 ^ 64
      corrects_adds = let h : c ≤ 1024 = corrects_few in let k : p.crossings < 2 ^ 60 = x.counts still small in omega arith

      pub corrected_done : {mode r : ℕ} {fk' fv' ft' : List ℕ} {fd' : List ℤ}
          → WindowSettled most mode (slots_of keys is os ms) p.fixes r (replicate 1024 0) marks fk fv ft fd fk' fv' ft' fd'
          → Corrected most mode keys is os ms p (past p r c) fk fv ft fd fk' fv' ft' fd'
      corrected_done {mode} {r} {fk'} {fv'} {ft'} {fd'} d = record {
        new_same = refl;
        pending_same = refl;
        input_same = refl;
        out_same = refl;
        pended_same = refl;
        over-same = refl;
        stays_large = λ h. h;
        settles = λ o l. record {
          listed = subst (λ b. Listed most (window_rows mode (slots_of keys is os ms)) p.fixes b r fk fv ft fd fk' fv' ft' fd') (sym l) d.listed;
          crossings_are = λ h. ap (λ k. p.crossings + k) (q ∙ count_is mode n keys is os slotted.cut_m e corrects_most d.marks_are);
        };
      }

  pub corrected_over : {mode : ℕ} {fk' fv' ft' : List ℕ} {fd' : List ℤ} → WindowOver most mode (slots_of keys is os ms) p.fixes → Corrected most mode keys is os ms p (past_large p) fk fv ft fd fk' fv' ft' fd'
  corrected_over o = record {
    new_same = refl;
    pending_same = refl;
    input_same = refl;
    out_same = refl;
    pended_same = refl;
    over-same = refl;
    stays_large = λ h. refl;
    settles = λ _ _. record { listed = record { large_is = sym o; fixes_are = λ h. clash true refl h; rows_are = λ h. clash true refl h }; crossings_are = λ h. clash true refl h };
  }
