-- The memory of the loop over the windows, and what the loop keeps.
--
-- SameLong: the memory is as long as at the start. same_start, same_more, lent_still: it stays so, and serves each window
-- Going: what the loop keeps. going_start, going_more, going_end: it does
-- going_asks: what the next window's turn asks. going_less: fewer keys are left
use Prim.Native.Nat.{ℕ, ◌+◌, ◌-◌, ◌≤◌, ◌<◌, min}
use native.Mathlib.Omega.{arith}
use mathlib.Core.Bool.{false}
use mathlib.Core.List.{List}
use mathlib.Core.Path.{◌≡◌, refl, ◌∙◌}
use lib.IntN.{ℤ}
use lib.ListN.{length}
use Rattle.backends.specs.Segments.{part}
use Rattle.backends.proofs.Segments.{part_length}
use Rattle.progress.specs.declared.Progress.{Progress}
use Rattle.turns.specs.Runs.{Runs}
use Rattle.turns.specs.Worked.{LentWork, Takes, Turned}
use Rattle.answers.specs.declared.Course.{Course}
use Rattle.looping.specs.Looped.{course_of, Loops, Ended}
use Rattle.looping.proofs.Looping.{Looping, fresh, looping_start, looping_takes, looping_less, looping_more, looping_end}

-- ---- memory
pub record SameLong (moments₀ uv₀ ut₀ : List ℕ) (ud₀ : List ℤ) (iv₀ : List ℕ) (id₀ : List ℤ) (ov₀ : List ℕ) (od₀ cd₀ : List ℤ) (wv₀ seeds₀ output₀ tracked₀ nk₀ nt₀ fk₀ fv₀ ft₀ : List ℕ) (fd₀ : List ℤ) (res₀ : List ℕ)
    (moments uv ut : List ℕ) (ud : List ℤ) (iv : List ℕ) (id : List ℤ) (ov : List ℕ) (od cd : List ℤ) (wv seeds output tracked nk nt fk fv ft : List ℕ) (fd : List ℤ) (res : List ℕ) : Type 0 where
  pub of_moments : length moments ≡ length moments₀
  pub of_uv : length uv ≡ length uv₀
  pub of_ut : length ut ≡ length ut₀
  pub of_ud : length ud ≡ length ud₀
  pub of_iv : length iv ≡ length iv₀
  pub of_id : length id ≡ length id₀
  pub of_ov : length ov ≡ length ov₀
  pub of_od : length od ≡ length od₀
  pub of_cd : length cd ≡ length cd₀
  pub of_wv : length wv ≡ length wv₀
  pub of_seeds : length seeds ≡ length seeds₀
  pub of_output : length output ≡ length output₀
  pub of_tracked : length tracked ≡ length tracked₀
  pub of_nk : length nk ≡ length nk₀
  pub of_nt : length nt ≡ length nt₀
  pub of_fk : length fk ≡ length fk₀
  pub of_fv : length fv ≡ length fv₀
  pub of_ft : length ft ≡ length ft₀
  pub of_fd : length fd ≡ length fd₀
  pub of_res : length res ≡ length res₀

same_start : {moments uv ut : List ℕ} {ud : List ℤ} {iv : List ℕ} {id : List ℤ} {ov : List ℕ} {od cd : List ℤ} {wv seeds output tracked nk nt fk fv ft : List ℕ} {fd : List ℤ} {res : List ℕ}
    → SameLong moments uv ut ud iv id ov od cd wv seeds output tracked nk nt fk fv ft fd res moments uv ut ud iv id ov od cd wv seeds output tracked nk nt fk fv ft fd res
same_start = record { of_moments = refl; of_uv = refl; of_ut = refl; of_ud = refl; of_iv = refl; of_id = refl; of_ov = refl; of_od = refl; of_cd = refl; of_wv = refl; of_seeds = refl; of_output = refl; of_tracked = refl; of_nk = refl; of_nt = refl; of_fk = refl; of_fv = refl; of_ft = refl; of_fd = refl; of_res = refl }

module _ {moments₀ uv₀ ut₀ : List ℕ} {ud₀ : List ℤ} {iv₀ : List ℕ} {id₀ : List ℤ} {ov₀ : List ℕ} {od₀ cd₀ : List ℤ} {wv₀ seeds₀ output₀ tracked₀ nk₀ nt₀ fk₀ fv₀ ft₀ : List ℕ} {fd₀ : List ℤ} {res₀ : List ℕ}
    {moments uv ut : List ℕ} {ud : List ℤ} {iv : List ℕ} {id : List ℤ} {ov : List ℕ} {od cd : List ℤ} {wv seeds output tracked nk nt fk fv ft : List ℕ} {fd : List ℤ} {res : List ℕ}
    (S : SameLong moments₀ uv₀ ut₀ ud₀ iv₀ id₀ ov₀ od₀ cd₀ wv₀ seeds₀ output₀ tracked₀ nk₀ nt₀ fk₀ fv₀ ft₀ fd₀ res₀ moments uv ut ud iv id ov od cd wv seeds output tracked nk nt fk fv ft fd res) where
  lent_still : {most w w' : ℕ} → w' ≤ w → LentWork most w moments₀ uv₀ ut₀ ud₀ iv₀ id₀ ov₀ od₀ cd₀ wv₀ seeds₀ output₀ tracked₀ nk₀ nt₀ fk₀ fv₀ ft₀ fd₀ res₀ → LentWork most w' moments uv ut ud iv id ov od cd wv seeds output tracked nk nt fk fv ft fd res
  lent_still h l = record {
    moments_room = omega (arith, S.of_moments, l.moments_room);
    wide = record {
      long_uv = S.of_uv ∙ l.wide.long_uv;
      long_ut = S.of_ut ∙ l.wide.long_ut;
      long_ud = S.of_ud ∙ l.wide.long_ud;
      long_iv = S.of_iv ∙ l.wide.long_iv;
      long_id = S.of_id ∙ l.wide.long_id;
      long_ov = S.of_ov ∙ l.wide.long_ov;
      long_od = S.of_od ∙ l.wide.long_od;
      long_cd = S.of_cd ∙ l.wide.long_cd;
      room_few = l.wide.room_few;
      room_res = rw S.of_res l.wide.room_res;
    };
    room_wv = rw S.of_wv l.room_wv;
    long_seeds = S.of_seeds ∙ l.long_seeds;
    long_output = S.of_output ∙ l.long_output;
    long_tracked = S.of_tracked ∙ l.long_tracked;
    for_tracked = omega (arith, S.of_tracked, S.of_wv, l.for_tracked);
    long_nk = S.of_nk ∙ l.long_nk;
    long_nt = S.of_nt ∙ l.long_nt;
    lent = record { long_k = S.of_fk ∙ l.lent.long_k; long_v = S.of_fv ∙ l.lent.long_v; long_t = S.of_ft ∙ l.lent.long_t; long_d = S.of_fd ∙ l.lent.long_d };
  }

  pub same_more : {X : Type 0} {moments' uv' ut' : List ℕ} {ud' : List ℤ} {iv' : List ℕ} {id' : List ℤ} {ov' : List ℕ} {od' cd' : List ℤ} {wv' seeds' output' tracked' nk' nt' fk' fv' ft' : List ℕ} {fd' : List ℤ} {res' : List ℕ}
      → (length moments' ≡ length moments) × ((length uv' ≡ length uv) × ((length ut' ≡ length ut) × ((length ud' ≡ length ud) × ((length iv' ≡ length iv) × ((length id' ≡ length id) × ((length ov' ≡ length ov) × ((length od' ≡ length od) × ((length cd' ≡ length cd) × ((length wv' ≡ length wv) × ((length seeds' ≡ length seeds) × ((length output' ≡ length output) × ((length tracked' ≡ length tracked) × ((length nk' ≡ length nk) × ((length nt' ≡ length nt) × ((length fk' ≡ length fk) × ((length fv' ≡ length fv) × ((length ft' ≡ length ft) × ((length fd' ≡ length fd) × ((length res' ≡ length res) × X)))))))))))))))))))
      → SameLong moments₀ uv₀ ut₀ ud₀ iv₀ id₀ ov₀ od₀ cd₀ wv₀ seeds₀ output₀ tracked₀ nk₀ nt₀ fk₀ fv₀ ft₀ fd₀ res₀ moments' uv' ut' ud' iv' id' ov' od' cd' wv' seeds' output' tracked' nk' nt' fk' fv' ft' fd' res'
  same_more h = record { of_moments = h.0 ∙ S.of_moments; of_uv = h.1.0 ∙ S.of_uv; of_ut = h.1.1.0 ∙ S.of_ut; of_ud = h.1.1.1.0 ∙ S.of_ud; of_iv = h.1.1.1.1.0 ∙ S.of_iv; of_id = h.1.1.1.1.1.0 ∙ S.of_id; of_ov = h.1.1.1.1.1.1.0 ∙ S.of_ov; of_od = h.1.1.1.1.1.1.1.0 ∙ S.of_od; of_cd = h.1.1.1.1.1.1.1.1.0 ∙ S.of_cd; of_wv = h.1.1.1.1.1.1.1.1.1.0 ∙ S.of_wv; of_seeds = h.1.1.1.1.1.1.1.1.1.1.0 ∙ S.of_seeds; of_output = h.1.1.1.1.1.1.1.1.1.1.1.0 ∙ S.of_output; of_tracked = h.1.1.1.1.1.1.1.1.1.1.1.1.0 ∙ S.of_tracked; of_nk = h.1.1.1.1.1.1.1.1.1.1.1.1.1.0 ∙ S.of_nk; of_nt = h.1.1.1.1.1.1.1.1.1.1.1.1.1.1.0 ∙ S.of_nt; of_fk = h.1.1.1.1.1.1.1.1.1.1.1.1.1.1.1.0 ∙ S.of_fk; of_fv = h.1.1.1.1.1.1.1.1.1.1.1.1.1.1.1.1.0 ∙ S.of_fv; of_ft = h.1.1.1.1.1.1.1.1.1.1.1.1.1.1.1.1.1.0 ∙ S.of_ft; of_fd = h.1.1.1.1.1.1.1.1.1.1.1.1.1.1.1.1.1.1.0 ∙ S.of_fd; of_res = h.1.1.1.1.1.1.1.1.1.1.1.1.1.1.1.1.1.1.1.0 ∙ S.of_res }

-- ---- the loop
pub record Going (R : Runs) (mode width : ℕ) (keys : List ℕ) (moments₀ uv₀ ut₀ : List ℕ) (ud₀ : List ℤ) (iv₀ : List ℕ) (id₀ : List ℤ) (ov₀ : List ℕ) (od₀ cd₀ : List ℤ) (wv₀ seeds₀ output₀ tracked₀ nk₀ nt₀ fk₀ fv₀ ft₀ : List ℕ) (fd₀ : List ℤ) (res₀ : List ℕ)
    (moments uv ut : List ℕ) (ud : List ℤ) (iv : List ℕ) (id : List ℤ) (ov : List ℕ) (od cd : List ℤ) (wv seeds output tracked nk nt fk fv ft : List ℕ) (fd : List ℤ) (res : List ℕ) (p : ℕ) (w : Progress) : Type 0 where
  pub loops : Loops (length fk₀) R width keys
  pub lent : LentWork (length fk₀) (min width (length keys)) moments₀ uv₀ ut₀ ud₀ iv₀ id₀ ov₀ od₀ cd₀ wv₀ seeds₀ output₀ tracked₀ nk₀ nt₀ fk₀ fv₀ ft₀ fd₀ res₀
  pub same : SameLong moments₀ uv₀ ut₀ ud₀ iv₀ id₀ ov₀ od₀ cd₀ wv₀ seeds₀ output₀ tracked₀ nk₀ nt₀ fk₀ fv₀ ft₀ fd₀ res₀ moments uv ut ud iv id ov od cd wv seeds output tracked nk nt fk fv ft fd res
  pub looping : Looping (length fk₀) R mode width keys nk nt fk fv ft fd p w

pub going_start : {R : Runs} (mode : ℕ) {width : ℕ} {keys : List ℕ} {moments uv ut : List ℕ} {ud : List ℤ} {iv : List ℕ} {id : List ℤ} {ov : List ℕ} {od cd : List ℤ} {wv seeds output tracked nk nt fk fv ft : List ℕ} {fd : List ℤ} {res : List ℕ}
    → Loops (length fk) R width keys → LentWork (length fk) (min width (length keys)) moments uv ut ud iv id ov od cd wv seeds output tracked nk nt fk fv ft fd res → Going R mode width keys moments uv ut ud iv id ov od cd wv seeds output tracked nk nt fk fv ft fd res moments uv ut ud iv id ov od cd wv seeds output tracked nk nt fk fv ft fd res 0 fresh
going_start mode {nk = nk} {nt} {fk} {fv} {ft} {fd} l m = record { loops = l; lent = m; same = same_start; looping = looping_start mode l nk nt fk fv ft fd }

module _ {R : Runs} {mode width : ℕ} {keys : List ℕ} {moments₀ uv₀ ut₀ : List ℕ} {ud₀ : List ℤ} {iv₀ : List ℕ} {id₀ : List ℤ} {ov₀ : List ℕ} {od₀ cd₀ : List ℤ} {wv₀ seeds₀ output₀ tracked₀ nk₀ nt₀ fk₀ fv₀ ft₀ : List ℕ} {fd₀ : List ℤ} {res₀ : List ℕ}
    {moments uv ut : List ℕ} {ud : List ℤ} {iv : List ℕ} {id : List ℤ} {ov : List ℕ} {od cd : List ℤ} {wv seeds output tracked nk nt fk fv ft : List ℕ} {fd : List ℤ} {res : List ℕ} {p : ℕ} {w : Progress}
    (g : Going R mode width keys moments₀ uv₀ ut₀ ud₀ iv₀ id₀ ov₀ od₀ cd₀ wv₀ seeds₀ output₀ tracked₀ nk₀ nt₀ fk₀ fv₀ ft₀ fd₀ res₀ moments uv ut ud iv id ov od cd wv seeds output tracked nk nt fk fv ft fd res p w) where
  module _ (before : p < length keys) (under : w.over ≡ false) {e : ℕ} (e-is : e ≡ min (p + width) (length keys)) where
    going_range : (p ≤ e) × (e ≤ length keys)
    going_range = (omega (arith, e-is), omega (arith, e-is))

    pub going_less : length keys - e < length keys - p
    going_less = looping_less g.looping g.loops before under e-is

    window_few : length (part p e keys) ≤ min width (length keys)
    window_few = omega (arith, part_length p e keys going_range.0 going_range.1, e-is, g.looping.within)

    pub going_asks : LentWork (length fk) (length (part p e keys)) moments uv ut ud iv id ov od cd wv seeds output tracked nk nt fk fv ft fd res × Takes (length fk) R (part p e keys) w
    going_asks = rw g.same.of_fk (lent_still g.same window_few g.lent, looping_takes g.looping g.loops before under e-is)

    pub going_more : {nk' nt' fk' fv' ft' : List ℕ} {fd' : List ℤ} {r : Progress} → Turned (length fk) R mode (part p e keys) w nk nt fk fv ft fd nk' nt' fk' fv' ft' fd' r → Looping (length fk₀) R mode width keys nk' nt' fk' fv' ft' fd' e r
    going_more T =
        let m = lent_still g.same window_few g.lent in
        looping_more g.looping g.loops before under e-is (rw g.same.of_fk at T) m.long_nk m.long_nt m.lent

  pub going_end : {c : Course} → (w.over ≡ false → length keys ≤ p) → c ≡ course_of w → Ended (length fk₀) R mode width keys nk nt fk fv ft fd c
  going_end t e = rw e (looping_end g.looping g.loops t)
