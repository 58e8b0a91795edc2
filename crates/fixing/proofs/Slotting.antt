-- The loop over the keys of a window.
--
-- WindowLeft most mode all left n r: of the slots `all` those `left` are still to be settled; n corrections were listed at first, r are now
-- window_start: at first all are. window_more: a slot settled leaves those after it. window_over: with one that is too large all are. window_end: none is left
-- crossed_by: in which of its rounds each slot crosses. lent_again: memory of the same lengths
-- slots_from b g: the slots from the b-th on, whose moments begin at g
-- Slotting: the slots before b are settled. slotting_start, slotting_more, slotting_end: the loop keeps that
-- slotting_over: what is left then where a slot's corrections are too large
-- slot_reads, slot_input, slot_output, slot_moments, slot_places, slot_laid, slot_out, slot_lent: what a turn asks
use Prim.Native.Nat.{ℕ, ◌+◌, ◌-◌, ◌*◌, ◌<◌, ◌≤◌, ◌^◌}
use native.Mathlib.Omega.{arith}
use mathlib.Core.Bool.{Bool, false, ◌||◌}
use mathlib.Core.Path.{◌≡◌, refl, sym, ◌∙◌, ap, subst}
use mathlib.Core.List.{List, [], ◌∷◌, ◌++◌, map, append-nil, append_assoc}
use lib.IntN.{ℤ}
use lib.ListN.{length, drop, get_or, length-append, drop_of_length-le}
use Rattle.grid.specs.Records.{Row, most_records}
use Rattle.grid.proofs.Tests.{or_l}
use Rattle.grid.proofs.Loops.{drop_more}
use Rattle.rules.specs.Histories.{Edit}
use Rattle.rules.specs.Discover.{most_moments}
use Rattle.backends.specs.Segments.{part, segments, Cut}
use Rattle.backends.proofs.Segments.{part_length, cut-next, segments_next}
use Rattle.moments.specs.Present.{edits}
use Rattle.moments.specs.Window.{parts_of, Apart, Orderly}
use Rattle.moments.proofs.Columns.{edits-length, part-edits}
use Rattle.moments.proofs.Showing.{apart_past, apart_next, parts_next}
use Rattle.slots.specs.Slots.{Slot, slots_of, slot_rounds, slot_rows, crossed_in, window_rows, rows_too_large}
use Rattle.slots.proofs.Large.{not_large, large_append, large_fits}
use Rattle.marks.specs.Marks.{marked_all}
use Rattle.fixing.specs.Settle.{Listed, KeySettled, KeyOver, WindowSettled, WindowOver}
use Rattle.fixing.specs.Windows.{LentRounds, Slotted}
use Rattle.fixing.proofs.Left.{listed}

-- ---- what is left
abbrev pub crossed_by : ℕ → List Slot → List (List Bool)
crossed_by mode ss = map (λ s. crossed_in (slot_rounds mode s)) ss

pub record WindowLeft (most mode : ℕ) (all left : List Slot) (n r : ℕ) (marks₀ marks fk₀ fv₀ ft₀ : List ℕ) (fd₀ : List ℤ) (fk fv ft : List ℕ) (fd : List ℤ) : Type 0 where
  pub large_is : rows_too_large most n (window_rows mode all) ≡ rows_too_large most r (window_rows mode left)
  pub fixes_are : r + length (window_rows mode left) ≡ n + length (window_rows mode all)
  pub rows_are : listed fk fv ft fd r ++ window_rows mode left ≡ listed fk₀ fv₀ ft₀ fd₀ n ++ window_rows mode all
  pub marks_are : marked_all (crossed_by mode left) marks ≡ marked_all (crossed_by mode all) marks₀
  pub fits : r ≤ most

pub window_start : {most mode n : ℕ} {ss : List Slot} {marks fk fv ft : List ℕ} {fd : List ℤ} → n ≤ most → WindowLeft most mode ss ss n n marks marks fk fv ft fd fk fv ft fd
window_start h = record { large_is = refl; fixes_are = refl; rows_are = refl; marks_are = refl; fits = h }

module _ (mode : ℕ) (s : Slot) (ss : List Slot) where
  rows_split : window_rows mode (s ∷ ss) ≡ slot_rows mode s ++ window_rows mode ss
  unfolding window_rows
  rows_split = refl

module _ {most mode : ℕ} {all left : List Slot} {s : Slot} {n r : ℕ} {marks₀ marks fk₀ fv₀ ft₀ : List ℕ} {fd₀ : List ℤ} {fk fv ft : List ℕ} {fd : List ℤ}
    (l : WindowLeft most mode all (s ∷ left) n r marks₀ marks fk₀ fv₀ ft₀ fd₀ fk fv ft fd) where
  abbrev R : List Row
  R = slot_rows mode s

  abbrev S : List Row
  S = window_rows mode left

  split_large : rows_too_large most n (window_rows mode all) ≡ (rows_too_large most r R || rows_too_large most (r + length R) S)
  split_large = l.large_is ∙ ap (rows_too_large most r) (rows_split mode s left) ∙ large_append most r R S

  pub window_over : KeyOver most mode s.key s.input s.output s.moments r → WindowOver most mode all n
  unfolding slot_rounds
  window_over e = split_large ∙ or_l _ _ e

  module _ {q : ℕ} {marks' fk' fv' ft' : List ℕ} {fd' : List ℤ} (d : KeySettled most mode s.key s.input s.output s.moments r q marks marks' fk fv ft fd fk' fv' ft' fd') where
    key_listed : Listed most R r false q fk fv ft fd fk' fv' ft' fd'
    unfolding slot_rounds
    key_listed = d.listed

    key_marked : marked_all (crossed_by mode left) marks' ≡ marked_all (crossed_by mode (s ∷ left)) marks
    unfolding slot_rounds marked_all
    key_marked = ap (marked_all (crossed_by mode left)) d.marks_are

    pub window_more : WindowLeft most mode all left n q marks₀ marks' fk₀ fv₀ ft₀ fd₀ fk' fv' ft' fd'
    window_more =
        let h = key_listed in
        let g : q ≡ r + length R = h.fixes_are refl in
        let x : r + length R ≤ most = large_fits r R (sym h.large_is) in
        let k : length (window_rows mode (s ∷ left)) ≡ length R + length S = ap length (rows_split mode s left) ∙ length-append R S in
        record {
          large_is = split_large ∙ ap (λ b. b || rows_too_large most (r + length R) S) (sym h.large_is) ∙ ap (λ i. rows_too_large most i S) (sym g);
          fixes_are = omega (arith, l.fixes_are);
          rows_are = ap (λ z. z ++ S) (h.rows_are refl) ∙ append_assoc (listed fk fv ft fd r) R S ∙ ap (λ z. listed fk fv ft fd r ++ z) (sym (rows_split mode s left)) ∙ l.rows_are;
          marks_are = key_marked ∙ l.marks_are;
          fits = omega arith;
        }

pub window_end : {most mode : ℕ} {all left : List Slot} {n r : ℕ} {marks₀ marks fk₀ fv₀ ft₀ : List ℕ} {fd₀ : List ℤ} {fk fv ft : List ℕ} {fd : List ℤ}
    → WindowLeft most mode all left n r marks₀ marks fk₀ fv₀ ft₀ fd₀ fk fv ft fd → left ≡ [] → WindowSettled most mode all n r marks₀ marks fk₀ fv₀ ft₀ fd₀ fk fv ft fd
unfolding window_rows marked_all
window_end {most} {mode} {all} {left} {n} {r} {marks₀} {marks} {fk₀} {fv₀} {ft₀} {fd₀} {fk} {fv} {ft} {fd} l f =
    let b : length (window_rows mode left) ≡ 0 = ap (λ z. length (window_rows mode z)) f in
    record {
      listed = record {
        large_is = sym (l.large_is ∙ ap (λ z. rows_too_large most r (window_rows mode z)) f ∙ not_large r l.fits);
        fixes_are = λ e. omega (arith, l.fixes_are);
        rows_are = λ e. sym (append-nil (listed fk fv ft fd r)) ∙ ap (λ z. listed fk fv ft fd r ++ window_rows mode z) (sym f) ∙ l.rows_are;
      };
      marks_are = ap (λ z. marked_all (crossed_by mode z) marks) (sym f) ∙ l.marks_are;
    }

-- ---- the memory
pub lent_again : {most : ℕ} {uv ut : List ℕ} {ud : List ℤ} {iv : List ℕ} {id : List ℤ} {ov : List ℕ} {od : List ℤ} {cv : List ℕ} {cd : List ℤ} {marks fk fv ft : List ℕ} {fd : List ℤ} {n : ℕ} → LentRounds most uv ut ud iv id ov od cv cd marks fk fv ft fd n
    → {uv' ut' : List ℕ} {ud' : List ℤ} {iv' : List ℕ} {id' : List ℤ} {ov' : List ℕ} {od' : List ℤ} {cv' : List ℕ} {cd' : List ℤ} {marks' fk' fv' ft' : List ℕ} {fd' : List ℤ} → length uv' ≡ length uv → length ut' ≡ length ut → length ud' ≡ length ud → length iv' ≡ length iv → length id' ≡ length id → length ov' ≡ length ov → length od' ≡ length od → length cv' ≡ length cv → length cd' ≡ length cd → length marks' ≡ length marks → length fk' ≡ length fk → length fv' ≡ length fv → length ft' ≡ length ft → length fd' ≡ length fd → LentRounds most uv' ut' ud' iv' id' ov' od' cv' cd' marks' fk' fv' ft' fd' 0
lent_again l euv eut eud eiv eid eov eod ecv ecd emarks efk efv eft efd = record {
  long_uv = euv ∙ l.long_uv;
  long_ut = eut ∙ l.long_ut;
  long_ud = eud ∙ l.long_ud;
  sums = record {
    long_iv = eiv ∙ l.sums.long_iv;
    long_ov = eov ∙ l.sums.long_ov;
    long_id = eid ∙ l.sums.long_id;
    long_od = eod ∙ l.sums.long_od;
    long_cv = ecv ∙ l.sums.long_cv;
    long_cd = ecd ∙ l.sums.long_cd;
  };
  long_marks = emarks ∙ l.long_marks;
  lent = record { long_k = efk ∙ l.lent.long_k; long_v = efv ∙ l.lent.long_v; long_t = eft ∙ l.lent.long_t; long_d = efd ∙ l.lent.long_d };
  fits = omega arith;
  room_few = l.room_few;
}

lent_with : {most : ℕ} {uv ut : List ℕ} {ud : List ℤ} {iv : List ℕ} {id : List ℤ} {ov : List ℕ} {od : List ℤ} {cv : List ℕ} {cd : List ℤ} {marks fk fv ft : List ℕ} {fd : List ℤ} {n : ℕ} (k : ℕ) → LentRounds most uv ut ud iv id ov od cv cd marks fk fv ft fd n → k ≤ most → LentRounds most uv ut ud iv id ov od cv cd marks fk fv ft fd k
lent_with k l h = record { long_uv = l.long_uv; long_ut = l.long_ut; long_ud = l.long_ud; sums = l.sums; long_marks = l.long_marks; lent = l.lent; fits = h; room_few = l.room_few }

-- ---- the slots of columns
abbrev pub slots_from : List ℕ → List ℕ → List ℕ → List ℕ → List ℕ → List Edit → List ℕ → List ℕ → List Edit → ℕ → ℕ → List Slot
slots_from keys moments mends fs es is ofs oes os b g = slots_of (drop b keys) (parts_of (drop b fs) (drop b es) is) (parts_of (drop b ofs) (drop b oes) os) (segments g (drop b mends) moments)

pub record Slotting (most mode : ℕ) (keys moments mends fs es tv tt : List ℕ) (td : List ℤ) (ofs oes xv xt : List ℕ) (xd : List ℤ) (n : ℕ) (uv₀ ut₀ : List ℕ) (ud₀ : List ℤ) (iv₀ : List ℕ) (id₀ : List ℤ) (ov₀ : List ℕ) (od₀ : List ℤ) (cv₀ : List ℕ) (cd₀ : List ℤ) (marks₀ fk₀ fv₀ ft₀ : List ℕ) (fd₀ : List ℤ)
    (uv ut : List ℕ) (ud : List ℤ) (iv : List ℕ) (id : List ℤ) (ov : List ℕ) (od : List ℤ) (cv : List ℕ) (cd : List ℤ) (marks fk fv ft : List ℕ) (fd : List ℤ) (b g r : ℕ) : Type 0 where
  pub asks : Slotted most (length keys) moments mends fs es tv tt td ofs oes xv xt xd
  pub lent₀ : LentRounds most uv₀ ut₀ ud₀ iv₀ id₀ ov₀ od₀ cv₀ cd₀ marks₀ fk₀ fv₀ ft₀ fd₀ n
  pub lent : LentRounds most uv ut ud iv id ov od cv cd marks fk fv ft fd 0
  pub bn : b ≤ length keys
  pub apart : Apart (Orderly 8192) (edits tv tt td) 0 (drop b fs) (drop b es)
  pub out_apart : Apart (Orderly most_records) (edits xv xt xd) 0 (drop b ofs) (drop b oes)
  pub cut : Cut (λ m. length m ≤ most_moments) moments g (drop b mends)
  pub near : g ≤ b * most_moments
  pub left : WindowLeft most mode (slots_from keys moments mends fs es (edits tv tt td) ofs oes (edits xv xt xd) 0 0) (slots_from keys moments mends fs es (edits tv tt td) ofs oes (edits xv xt xd) b g)
      n r marks₀ marks fk₀ fv₀ ft₀ fd₀ fk fv ft fd

pub slotting_start : {most : ℕ} {keys moments mends fs es tv tt : List ℕ} {td : List ℤ} {ofs oes xv xt : List ℕ} {xd : List ℤ} {n : ℕ} {uv ut : List ℕ} {ud : List ℤ} {iv : List ℕ} {id : List ℤ} {ov : List ℕ} {od : List ℤ} {cv : List ℕ} {cd : List ℤ} {marks fk fv ft : List ℕ} {fd : List ℤ}
    (mode : ℕ) → Slotted most (length keys) moments mends fs es tv tt td ofs oes xv xt xd → LentRounds most uv ut ud iv id ov od cv cd marks fk fv ft fd n
    → Slotting most mode keys moments mends fs es tv tt td ofs oes xv xt xd n uv ut ud iv id ov od cv cd marks fk fv ft fd uv ut ud iv id ov od cv cd marks fk fv ft fd 0 0 n
slotting_start mode a l = record {
  asks = a;
  lent₀ = l;
  lent = lent_with 0 l (omega arith);
  bn = omega arith;
  apart = a.apart;
  out_apart = a.out_apart;
  cut = a.cut_m;
  near = omega arith;
  left = window_start l.fits;
}

module _ {most mode : ℕ} {keys moments mends fs es tv tt : List ℕ} {td : List ℤ} {ofs oes xv xt : List ℕ} {xd : List ℤ} {n : ℕ} {uv₀ ut₀ : List ℕ} {ud₀ : List ℤ} {iv₀ : List ℕ} {id₀ : List ℤ} {ov₀ : List ℕ} {od₀ : List ℤ} {cv₀ : List ℕ} {cd₀ : List ℤ} {marks₀ fk₀ fv₀ ft₀ : List ℕ} {fd₀ : List ℤ}
    {uv ut : List ℕ} {ud : List ℤ} {iv : List ℕ} {id : List ℤ} {ov : List ℕ} {od : List ℤ} {cv : List ℕ} {cd : List ℤ} {marks fk fv ft : List ℕ} {fd : List ℤ} {b g r : ℕ}
    (m : Slotting most mode keys moments mends fs es tv tt td ofs oes xv xt xd n uv₀ ut₀ ud₀ iv₀ id₀ ov₀ od₀ cv₀ cd₀ marks₀ fk₀ fv₀ ft₀ fd₀ uv ut ud iv id ov od cv cd marks fk fv ft fd b g r) where
  pub slotting_end : length keys ≤ b
      → WindowSettled most mode (slots_of keys (parts_of fs es (edits tv tt td)) (parts_of ofs oes (edits xv xt xd)) (segments 0 mends moments)) n r marks₀ marks fk₀ fv₀ ft₀ fd₀ fk fv ft fd
  unfolding slots_of
  slotting_end t = window_end m.left
      (ap (λ z. slots_of z (parts_of (drop b fs) (drop b es) (edits tv tt td)) (parts_of (drop b ofs) (drop b oes) (edits xv xt xd)) (segments g (drop b mends) moments)) (drop_of_length-le keys {i = b} t))

  module _ (t : b < length keys) where
    abbrev f : ℕ
    f = get_or fs b 0

    abbrev e : ℕ
    e = get_or es b 0

    abbrev of : ℕ
    of = get_or ofs b 0

    abbrev oe : ℕ
    oe = get_or oes b 0

    abbrev h : ℕ
    h = get_or mends b 0

    pub slot_reads : (b < length mends) × ((b < length fs) × ((b < length es) × ((b < length ofs) × (b < length oes))))
    slot_reads =
        let qm : length mends ≡ length keys = m.asks.same_m in
        let qf : length fs ≡ length keys = m.asks.same_f in
        let qe : length es ≡ length keys = m.asks.same_e in
        let pf : length ofs ≡ length keys = m.asks.same_of in
        let pe : length oes ≡ length keys = m.asks.same_oe in
        (omega arith, (omega arith, (omega arith, (omega arith, omega arith))))

    here : (0 ≤ f) × ((f ≤ e) × ((e ≤ length (edits tv tt td)) × (Orderly 8192 (part f e (edits tv tt td)) × Apart (Orderly 8192) (edits tv tt td) e (drop (b + 1) fs) (drop (b + 1) es))))
    here = apart_next fs es b slot_reads.1.0 slot_reads.1.1.0 m.apart

    there : (0 ≤ of) × ((of ≤ oe) × ((oe ≤ length (edits xv xt xd)) × (Orderly most_records (part of oe (edits xv xt xd)) × Apart (Orderly most_records) (edits xv xt xd) oe (drop (b + 1) ofs) (drop (b + 1) oes))))
    there = apart_next ofs oes b slot_reads.1.1.1.0 slot_reads.1.1.1.1 m.out_apart

    when : (g ≤ h) × ((h ≤ length moments) × ((length (part g h moments) ≤ most_moments) × Cut (λ m. length m ≤ most_moments) moments h (drop (b + 1) mends)))
    when = cut-next mends b slot_reads.0 m.cut

    -- what slot b has of the input, of the output and of the moments
    pub slot_input : (f ≤ e) × ((e ≤ length tv) × ((e ≤ length tt) × (e ≤ length td)))
    slot_input =
        let p : e ≤ length (edits tv tt td) = here.1.1.0 in
        let q : length (edits tv tt td) ≤ length tv = edits-length tv tt td in
        let u : length tt ≡ length tv = m.asks.same_t in
        let v : length td ≡ length tv = m.asks.same_d in
        (here.1.0, (omega arith, (omega arith, omega arith)))

    pub slot_output : (of ≤ oe) × ((oe ≤ length xv) × ((oe ≤ length xt) × (oe ≤ length xd)))
    slot_output =
        let p : oe ≤ length (edits xv xt xd) = there.1.1.0 in
        let q : length (edits xv xt xd) ≤ length xv = edits-length xv xt xd in
        let u : length xt ≡ length xv = m.asks.same_ot in
        let v : length xd ≡ length xv = m.asks.same_od in
        (there.1.0, (omega arith, (omega arith, omega arith)))

    pub slot_moments : (g ≤ h) × ((h ≤ length moments) × (length (part g h moments) ≤ most_moments))
    slot_moments = (when.0, (when.1.0, when.1.1.0))

    -- as places of columns whose elements have 8 bytes
    pub slot_places : (g * 8 < 2 ^ 64) × ((f * 8 < 2 ^ 64) × (of * 8 < 2 ^ 64))
    slot_places =
        let k = slot_input in
        let k' = slot_output in (
          omega (arith, m.asks.few, m.near),
          (omega (arith, k.0, k.1.0, m.asks.short, m.lent.room_few), omega (arith, k'.0, k'.1.0, m.asks.out_few, m.lent.room_few)),
        )

    pub slot_laid : (length (part f e tt) ≡ length (part f e tv)) × ((length (part f e td) ≡ length (part f e tv)) × ((length (part f e tv) ≤ most + most) × Orderly 8192 (edits (part f e tv) (part f e tt) (part f e td))))
    slot_laid =
        let i = slot_input in
        let p : length (part f e tv) ≡ e - f = part_length f e tv i.0 i.1.0 in
        let q : length (part f e tt) ≡ e - f = part_length f e tt i.0 i.1.1.0 in
        let u : length (part f e td) ≡ e - f = part_length f e td i.0 i.1.1.1 in
        let k : e ≤ length tv = i.1.0 in
        let s : length tv ≤ most + most = m.asks.short in
        (q ∙ sym p, (u ∙ sym p, (omega arith, subst (Orderly 8192) (sym (part-edits f e tv tt td)) here.1.1.1.0)))

    pub slot_out : (length (part of oe xt) ≡ length (part of oe xv)) × ((length (part of oe xd) ≡ length (part of oe xv)) × ((length (part of oe xv) ≤ most) × Orderly most_records (edits (part of oe xv) (part of oe xt) (part of oe xd))))
    slot_out =
        let i = slot_output in
        let p : length (part of oe xv) ≡ oe - of = part_length of oe xv i.0 i.1.0 in
        let q : length (part of oe xt) ≡ oe - of = part_length of oe xt i.0 i.1.1.0 in
        let u : length (part of oe xd) ≡ oe - of = part_length of oe xd i.0 i.1.1.1 in
        let k : oe ≤ length xv = i.1.0 in
        let s : length xv ≤ most = m.asks.out_few in
        (q ∙ sym p, (u ∙ sym p, (omega arith, subst (Orderly most_records) (sym (part-edits of oe xv xt xd)) there.1.1.1.0)))

    pub slot_lent : LentRounds most uv ut ud iv id ov od cv cd marks fk fv ft fd r
    slot_lent = lent_with r m.lent m.left.fits

    abbrev now : Slot
    now = record { key = get_or keys b 0; input = part f e (edits tv tt td); output = part of oe (edits xv xt xd); moments = part g h moments }

    split : slots_from keys moments mends fs es (edits tv tt td) ofs oes (edits xv xt xd) b g ≡ now ∷ slots_from keys moments mends fs es (edits tv tt td) ofs oes (edits xv xt xd) (b + 1) h
    unfolding slots_of
    split = λ z. slots_of (drop_more keys b 0 t z) (parts_next fs es (edits tv tt td) b slot_reads.1.0 slot_reads.1.1.0 z) (parts_next ofs oes (edits xv xt xd) b slot_reads.1.1.1.0 slot_reads.1.1.1.1 z) (segments_next g mends moments b slot_reads.0 z)

    -- the slot's output may be given in another way
    pub slotting_more : {uv' ut' : List ℕ} {ud' : List ℤ} {iv' : List ℕ} {id' : List ℤ} {ov' : List ℕ} {od' : List ℤ} {cv' : List ℕ} {cd' : List ℤ} {marks' fk' fv' ft' : List ℕ} {fd' : List ℤ} {q : ℕ} (output : List Edit) → output ≡ edits (part of oe xv) (part of oe xt) (part of oe xd)
        → KeySettled most mode (get_or keys b 0) (edits (part f e tv) (part f e tt) (part f e td)) output (part g h moments) r q marks marks' fk fv ft fd fk' fv' ft' fd'
        → LentRounds most uv' ut' ud' iv' id' ov' od' cv' cd' marks' fk' fv' ft' fd' 0 → Slotting most mode keys moments mends fs es tv tt td ofs oes xv xt xd n uv₀ ut₀ ud₀ iv₀ id₀ ov₀ od₀ cv₀ cd₀ marks₀ fk₀ fv₀ ft₀ fd₀ uv' ut' ud' iv' id' ov' od' cv' cd' marks' fk' fv' ft' fd' (b + 1) h q
    slotting_more {marks' = marks'} {fk'} {fv'} {ft'} {fd'} {q} output o d l = record {
      asks = m.asks;
      lent₀ = m.lent₀;
      lent = l;
      bn = omega arith;
      apart = apart_past (omega arith) here.1.1.1.1;
      out_apart = apart_past (omega arith) there.1.1.1.1;
      cut = when.1.1.1;
      near = (let p : length (part g h moments) ≡ h - g = part_length g h moments when.0 when.1.0 in
          let k : length (part g h moments) ≤ most_moments = when.1.1.0 in
          let i : g ≤ b * most_moments = m.near in
          omega arith);
      left = window_more now_left (subst (λ (x : List Edit). KeySettled most mode (get_or keys b 0) (part f e (edits tv tt td)) x (part g h moments) r q marks marks' fk fv ft fd fk' fv' ft' fd') (o ∙ part-edits of oe xv xt xd)
          (subst (λ (x : List Edit). KeySettled most mode (get_or keys b 0) x output (part g h moments) r q marks marks' fk fv ft fd fk' fv' ft' fd') (part-edits f e tv tt td) d));
    }
      where
        all_slots : List Slot
        all_slots = slots_from keys moments mends fs es (edits tv tt td) ofs oes (edits xv xt xd) 0 0

        now_left : WindowLeft most mode all_slots (now ∷ slots_from keys moments mends fs es (edits tv tt td) ofs oes (edits xv xt xd) (b + 1) h) n r marks₀ marks fk₀ fv₀ ft₀ fd₀ fk fv ft fd
        now_left = subst (λ (x : List Slot). WindowLeft most mode all_slots x n r marks₀ marks fk₀ fv₀ ft₀ fd₀ fk fv ft fd) split m.left

    pub slotting_over : (output : List Edit) → output ≡ edits (part of oe xv) (part of oe xt) (part of oe xd)
        → KeyOver most mode (get_or keys b 0) (edits (part f e tv) (part f e tt) (part f e td)) output (part g h moments) r
        → WindowOver most mode (slots_of keys (parts_of fs es (edits tv tt td)) (parts_of ofs oes (edits xv xt xd)) (segments 0 mends moments)) n
    slotting_over output o d =
        let i = part-edits f e tv tt td in
        window_over {s = now} (subst (λ (x : List Slot). WindowLeft most mode (slots_from keys moments mends fs es (edits tv tt td) ofs oes (edits xv xt xd) 0 0) x n r marks₀ marks fk₀ fv₀ ft₀ fd₀ fk fv ft fd) split m.left)
        (subst (λ (x : List Edit). KeyOver most mode (get_or keys b 0) (part f e (edits tv tt td)) x (part g h moments) r) (o ∙ part-edits of oe xv xt xd)
        (subst (λ (x : List Edit). KeyOver most mode (get_or keys b 0) x output (part g h moments) r) i d))
