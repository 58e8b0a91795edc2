-- The rounds of a window's keys, one after the other.
--
-- Loads: the lengths of the columns into which a key is loaded. loads_start, loads_again: at first, and of columns of the same lengths
-- replay_asks: what settling a key's rounds asks. replay_more: once that is done, the keys after it are left
-- replay_over: what is left then where its corrections are too large
use Prim.Native.Nat.{ℕ, ◌+◌, ◌<◌}
use mathlib.Core.Path.{◌≡◌, refl, sym, ◌∙◌, subst}
use mathlib.Core.List.{List}
use lib.IntN.{ℤ, pos}
use lib.ListN.{length, get_or, replicate, length-replicate}
use Rattle.grid.specs.Records.{most_records}
use Rattle.rules.specs.Discover.{most_moments}
use Rattle.backends.specs.Segments.{part, segments}
use Rattle.moments.specs.Window.{parts_of}
use Rattle.slots.specs.Slots.{slots_of}
use Rattle.moments.specs.Present.{edits}
use Rattle.fixing.specs.Settle.{KeySettled, KeyOver, WindowOver}
use Rattle.fixing.specs.Windows.{LentRounds}
use Rattle.fixing.proofs.Slotting.{Slotting, slot_laid, slot_out, slot_moments, slot_lent, slotting_more, slotting_over, lent_again}
use Rattle.replaying.specs.Keyed.{KeyAsks}

-- ---- the columns of a key
pub record Loads (far yv yt : List ℕ) (yd : List ℤ) (zv zt : List ℕ) (zd : List ℤ) : Type 0 where
  pub long_far : length far ≡ most_moments
  pub long_yv : length yv ≡ 8192
  pub long_yt : length yt ≡ 8192
  pub long_yd : length yd ≡ 8192
  pub long_zv : length zv ≡ most_records
  pub long_zt : length zt ≡ most_records
  pub long_zd : length zd ≡ most_records

pub loads_start : Loads (replicate 1024 0) (replicate 8192 0) (replicate 8192 0) (replicate 8192 (pos 0)) (replicate 4096 0) (replicate 4096 0) (replicate 4096 (pos 0))
loads_start = record {
  long_far = length-replicate {A = ℕ} 1024 0;
  long_yv = length-replicate {A = ℕ} 8192 0;
  long_yt = length-replicate {A = ℕ} 8192 0;
  long_yd = length-replicate {A = ℤ} 8192 (pos 0);
  long_zv = length-replicate {A = ℕ} 4096 0;
  long_zt = length-replicate {A = ℕ} 4096 0;
  long_zd = length-replicate {A = ℤ} 4096 (pos 0);
}

pub loads_again : {far yv yt : List ℕ} {yd : List ℤ} {zv zt : List ℕ} {zd : List ℤ} → Loads far yv yt yd zv zt zd → {far' yv' yt' : List ℕ} {yd' : List ℤ} {zv' zt' : List ℕ} {zd' : List ℤ} → length far' ≡ length far → length yv' ≡ length yv → length yt' ≡ length yt → length yd' ≡ length yd → length zv' ≡ length zv → length zt' ≡ length zt → length zd' ≡ length zd
    → Loads far' yv' yt' yd' zv' zt' zd'
loads_again l hfar hyv hyt hyd hzv hzt hzd = record {
  long_far = hfar ∙ l.long_far;
  long_yv = hyv ∙ l.long_yv;
  long_yt = hyt ∙ l.long_yt;
  long_yd = hyd ∙ l.long_yd;
  long_zv = hzv ∙ l.long_zv;
  long_zt = hzt ∙ l.long_zt;
  long_zd = hzd ∙ l.long_zd;
}

-- ---- a key
module _ {most mode : ℕ} {keys moments mends fs es tv tt : List ℕ} {td : List ℤ} {ofs oes xv xt : List ℕ} {xd : List ℤ} {n : ℕ} {uv₀ ut₀ : List ℕ} {ud₀ : List ℤ} {iv₀ : List ℕ} {id₀ : List ℤ} {ov₀ : List ℕ} {od₀ : List ℤ} {cv₀ : List ℕ} {cd₀ : List ℤ} {marks₀ fk₀ fv₀ ft₀ : List ℕ} {fd₀ : List ℤ}
    {uv ut : List ℕ} {ud : List ℤ} {iv : List ℕ} {id : List ℤ} {ov : List ℕ} {od : List ℤ} {cv : List ℕ} {cd : List ℤ} {marks fk fv ft : List ℕ} {fd : List ℤ} {b g r : ℕ}
    (m : Slotting most mode keys moments mends fs es tv tt td ofs oes xv xt xd n uv₀ ut₀ ud₀ iv₀ id₀ ov₀ od₀ cv₀ cd₀ marks₀ fk₀ fv₀ ft₀ fd₀ uv ut ud iv id ov od cv cd marks fk fv ft fd b g r) (t : b < length keys) where
  abbrev f : ℕ
  f = get_or fs b 0

  abbrev e : ℕ
  e = get_or es b 0

  abbrev of : ℕ
  of = get_or ofs b 0

  abbrev oe : ℕ
  oe = get_or oes b 0

  pub replay_asks : {far yv yt : List ℕ} {yd : List ℤ} {zv zt : List ℕ} {zd : List ℤ} → Loads far yv yt yd zv zt zd
      → KeyAsks (length fk) (part g (get_or mends b 0) moments) (part f e tv) (part f e tt) (part f e td) (part of oe xv) (part of oe xt) (part of oe xd) far yv yt yd zv zt zd × LentRounds (length fk) uv ut ud iv id ov od cv cd marks fk fv ft fd r
  replay_asks {far} {yv} {yt} {yd} {zv} {zt} {zd} l =
      let i = slot_laid m t in
      let o = slot_out m t in
      subst (λ (i : ℕ). KeyAsks i (part g (get_or mends b 0) moments) (part f e tv) (part f e tt) (part f e td) (part of oe xv) (part of oe xt) (part of oe xd) far yv yt yd zv zt zd × LentRounds i uv ut ud iv id ov od cv cd marks fk fv ft fd r) (sym m.lent.lent.long_k) (
        record {
          few = (slot_moments m t).1.1;
          same_t = i.0;
          same_d = i.1.0;
          input_few = i.1.1.0;
          input_light = i.1.1.1.light;
          same_ot = o.0;
          same_od = o.1.0;
          output_few = o.1.1.0;
          output_light = o.1.1.1.light;
          long_far = l.long_far;
          long_xv = l.long_yv;
          long_xt = l.long_yt;
          long_xd = l.long_yd;
          long_sv = l.long_zv;
          long_st = l.long_zt;
          long_sd = l.long_zd;
        },
        slot_lent m t,
      )

  pub replay_more : {uv' ut' : List ℕ} {ud' : List ℤ} {iv' : List ℕ} {id' : List ℤ} {ov' : List ℕ} {od' : List ℤ} {cv' : List ℕ} {cd' : List ℤ} {marks' fk' fv' ft' : List ℕ} {fd' : List ℤ} {q : ℕ}
      → KeySettled (length fk) mode (get_or keys b 0) (edits (part f e tv) (part f e tt) (part f e td)) (edits (part of oe xv) (part of oe xt) (part of oe xd)) (part g (get_or mends b 0) moments) r q marks marks' fk fv ft fd fk' fv' ft' fd'
      → length uv' ≡ length uv → length ut' ≡ length ut → length ud' ≡ length ud → length iv' ≡ length iv → length id' ≡ length id → length ov' ≡ length ov → length od' ≡ length od → length cv' ≡ length cv → length cd' ≡ length cd → length marks' ≡ length marks → length fk' ≡ length fk → length fv' ≡ length fv → length ft' ≡ length ft → length fd' ≡ length fd
      → Slotting most mode keys moments mends fs es tv tt td ofs oes xv xt xd n uv₀ ut₀ ud₀ iv₀ id₀ ov₀ od₀ cv₀ cd₀ marks₀ fk₀ fv₀ ft₀ fd₀ uv' ut' ud' iv' id' ov' od' cv' cd' marks' fk' fv' ft' fd' (b + 1) (get_or mends b 0) q
  replay_more {marks' = marks'} {fk'} {fv'} {ft'} {fd'} {q} d huv hut hud hiv hid hov hod hcv hcd hmarks hfk hfv hft hfd =
      slotting_more m t (edits (part of oe xv) (part of oe xt) (part of oe xd)) refl
      (subst (λ (i : ℕ). KeySettled i mode (get_or keys b 0) (edits (part f e tv) (part f e tt) (part f e td)) (edits (part of oe xv) (part of oe xt) (part of oe xd)) (part g (get_or mends b 0) moments) r q marks marks' fk fv ft fd fk' fv' ft' fd') m.lent.lent.long_k d)
      (lent_again m.lent huv hut hud hiv hid hov hod hcv hcd hmarks hfk hfv hft hfd)

  pub replay_over : KeyOver (length fk) mode (get_or keys b 0) (edits (part f e tv) (part f e tt) (part f e td)) (edits (part of oe xv) (part of oe xt) (part of oe xd)) (part g (get_or mends b 0) moments) r
      → WindowOver most mode (slots_of keys (parts_of fs es (edits tv tt td)) (parts_of ofs oes (edits xv xt xd)) (segments 0 mends moments)) n
  replay_over o = slotting_over m t (edits (part of oe xv) (part of oe xt) (part of oe xd)) refl
      (subst (λ (i : ℕ). KeyOver i mode (get_or keys b 0) (edits (part f e tv) (part f e tt) (part f e td)) (edits (part of oe xv) (part of oe xt) (part of oe xd)) (part g (get_or mends b 0) moments) r) m.lent.lent.long_k o)
