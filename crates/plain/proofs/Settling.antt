-- The rounds of a window's keys, one after the other.
--
-- plain_lays: what laying a key's old output asks. plain_asks: what settling its rounds asks. plain_more: once that is done, the keys after it are left
-- plain_over: what is left then where its corrections are too large
use Prim.Native.Nat.{ℕ, ◌+◌, ◌<◌, ◌≤◌}
use native.Mathlib.Omega.{arith}
use mathlib.Core.Path.{◌≡◌, sym, ◌∙◌, subst}
use mathlib.Core.List.{List, map}
use lib.IntN.{ℤ}
use lib.ListN.{length, take, get_or, length-map}
use Rattle.grid.specs.Records.{most_records}
use Rattle.rules.specs.Histories.{Edit, value_of}
use Rattle.moments.specs.Present.{edits}
use Rattle.backends.specs.Segments.{part, segments}
use Rattle.slots.specs.Slots.{slots_of}
use Rattle.moments.specs.Window.{parts_of, Orderly}
use Rattle.moments.proofs.Columns.{edits-length, edits_of_columns, take-edits}
use Rattle.rounds.specs.Merges.{Rows, Lays}
use Rattle.fixing.specs.Settle.{KeySettled, KeyOver, WindowOver}
use Rattle.fixing.proofs.Slotting.{Slotting, slot_laid, slot_out, slot_moments, slot_lent, slotting_more, slotting_over, lent_again}
use Rattle.plain.specs.Plain.{KeyAsks}

-- ---- edits at the front of three columns
module _ {uv₀ ut₀ : List ℕ} {ud₀ : List ℤ} {new : List Edit} {uv ut : List ℕ} {ud : List ℤ} {k : ℕ} (w : Rows uv₀ ut₀ ud₀ 0 new uv ut ud k) where
  front : take k (edits uv ut ud) ≡ new
  front = take-edits k uv ut ud ∙ (λ z. edits (w.values.front z) (w.times.front z) (w.diffs.front z)) ∙ edits_of_columns new

  count : k ≡ length new
  count = let e : k ≡ 0 + length (map value_of new) = w.values.end in let n : length (map value_of new) ≡ length new = length-map new value_of in omega arith

-- ---- a key
module _ {most mode : ℕ} {keys moments mends fs es tv tt : List ℕ} {td : List ℤ} {ofs oes xv xt : List ℕ} {xd : List ℤ} {n : ℕ} {uv₀ ut₀ : List ℕ} {ud₀ : List ℤ} {iv₀ : List ℕ} {id₀ : List ℤ} {ov₀ : List ℕ} {od₀ : List ℤ} {cv₀ : List ℕ} {cd₀ : List ℤ} {marks₀ fk₀ fv₀ ft₀ : List ℕ} {fd₀ : List ℤ}
    {uv ut : List ℕ} {ud : List ℤ} {iv : List ℕ} {id : List ℤ} {ov : List ℕ} {od : List ℤ} {cv : List ℕ} {cd : List ℤ} {marks fk fv ft : List ℕ} {fd : List ℤ} {b g r : ℕ}
    (m : Slotting most mode keys moments mends fs es tv tt td ofs oes xv xt xd n uv₀ ut₀ ud₀ iv₀ id₀ ov₀ od₀ cv₀ cd₀ marks₀ fk₀ fv₀ ft₀ fd₀ uv ut ud iv id ov od cv cd marks fk fv ft fd b g r) (t : b < length keys) where
  abbrev f : ℕ
  f = get_or fs b 0

  abbrev e : ℕ
  e = get_or es b 0

  abbrev of : ℕ
  of = get_or ofs b 0

  abbrev oe : ℕ
  oe = get_or oes b 0

  abbrev old : List Edit
  old = edits (part of oe xv) (part of oe xt) (part of oe xd)

  pub plain_lays : Lays (part of oe xv) (part of oe xt) (part of oe xd) uv ut ud 0
  plain_lays =
      let o = slot_out m t in
      let p : length (part of oe xv) ≤ most = o.1.1.0 in
      let q : length uv ≡ most + most = m.lent.long_uv in
      record { same_t = o.0; same_d = o.1.0; same_yt = m.lent.long_ut ∙ sym q; same_yd = m.lent.long_ud ∙ sym q; room = omega arith }

  module _ {uv₁ ut₁ : List ℕ} {ud₁ : List ℤ} {k : ℕ} (w : Rows uv ut ud 0 old uv₁ ut₁ ud₁ k) (euv : length uv₁ ≡ length uv) (eut : length ut₁ ≡ length ut) (eud : length ud₁ ≡ length ud) where
    pub plain_asks : KeyAsks (length fk) (part g (get_or mends b 0) moments) (part f e tv) (part f e tt) (part f e td) k uv₁ ut₁ ud₁ iv id ov od cv cd marks fk fv ft fd r
    plain_asks =
        let i = slot_laid m t in
        let o = slot_out m t in
        let l = slot_lent m t in
        let p : length (part of oe xv) ≤ most = o.1.1.0 in
        let c : k ≡ length old = count w in
        let d : length old ≤ length (part of oe xv) = edits-length (part of oe xv) (part of oe xt) (part of oe xd) in
        subst (λ (w : ℕ). KeyAsks w (part g (get_or mends b 0) moments) (part f e tv) (part f e tt) (part f e td) k uv₁ ut₁ ud₁ iv id ov od cv cd marks fk fv ft fd r) (sym m.lent.lent.long_k) (record {
          few = (slot_moments m t).1.1;
          same_t = i.0;
          same_d = i.1.0;
          short = i.1.1.0;
          input = i.1.1.1;
          within = omega arith;
          output = subst (Orderly most_records) (sym (front w)) o.1.1.1;
          memory = record { long_uv = euv ∙ l.long_uv; long_ut = eut ∙ l.long_ut; long_ud = eud ∙ l.long_ud; sums = l.sums; long_marks = l.long_marks; lent = l.lent; fits = l.fits; room_few = l.room_few };
        })

    pub plain_more : {uv' ut' : List ℕ} {ud' : List ℤ} {iv' : List ℕ} {id' : List ℤ} {ov' : List ℕ} {od' : List ℤ} {cv' : List ℕ} {cd' : List ℤ} {marks' fk' fv' ft' : List ℕ} {fd' : List ℤ} {q : ℕ}
        → KeySettled (length fk) mode (get_or keys b 0) (edits (part f e tv) (part f e tt) (part f e td)) (take k (edits uv₁ ut₁ ud₁)) (part g (get_or mends b 0) moments) r q marks marks' fk fv ft fd fk' fv' ft' fd'
        → length uv' ≡ length uv₁ → length ut' ≡ length ut₁ → length ud' ≡ length ud₁ → length iv' ≡ length iv → length id' ≡ length id → length ov' ≡ length ov → length od' ≡ length od → length cv' ≡ length cv → length cd' ≡ length cd → length marks' ≡ length marks → length fk' ≡ length fk → length fv' ≡ length fv → length ft' ≡ length ft → length fd' ≡ length fd
        → Slotting most mode keys moments mends fs es tv tt td ofs oes xv xt xd n uv₀ ut₀ ud₀ iv₀ id₀ ov₀ od₀ cv₀ cd₀ marks₀ fk₀ fv₀ ft₀ fd₀ uv' ut' ud' iv' id' ov' od' cv' cd' marks' fk' fv' ft' fd' (b + 1) (get_or mends b 0) q
    plain_more {marks' = marks'} {fk'} {fv'} {ft'} {fd'} {q} d huv hut hud hiv hid hov hod hcv hcd hmarks hfk hfv hft hfd = slotting_more m t (take k (edits uv₁ ut₁ ud₁)) (front w)
        (subst (λ (w : ℕ). KeySettled w mode (get_or keys b 0) (edits (part f e tv) (part f e tt) (part f e td)) (take k (edits uv₁ ut₁ ud₁)) (part g (get_or mends b 0) moments) r q marks marks' fk fv ft fd fk' fv' ft' fd') m.lent.lent.long_k d)
        (lent_again m.lent (huv ∙ euv) (hut ∙ eut) (hud ∙ eud) hiv hid hov hod hcv hcd hmarks hfk hfv hft hfd)

    pub plain_over : KeyOver (length fk) mode (get_or keys b 0) (edits (part f e tv) (part f e tt) (part f e td)) (take k (edits uv₁ ut₁ ud₁)) (part g (get_or mends b 0) moments) r
        → WindowOver most mode (slots_of keys (parts_of fs es (edits tv tt td)) (parts_of ofs oes (edits xv xt xd)) (segments 0 mends moments)) n
    plain_over o = slotting_over m t (take k (edits uv₁ ut₁ ud₁)) (front w)
        (subst (λ (w : ℕ). KeyOver w mode (get_or keys b 0) (edits (part f e tv) (part f e tt) (part f e td)) (take k (edits uv₁ ut₁ ud₁)) (part g (get_or mends b 0) moments) r) m.lent.lent.long_k o)
