-- The loop over a key's rounds.
--
-- Going: the first j rounds are settled, and `rest` are still to come
-- going_start, going_more, going_end: the loop keeps that. going_over: a round whose corrections are too large.
-- going_mark: the place that a turn marks. going_asks: what a round asks
use Prim.Native.Nat.{ℕ, ◌+◌, ◌<◌, ◌≤◌}
use native.Mathlib.Omega.{arith}
use mathlib.Core.Bool.{Bool}
use mathlib.Core.Path.{◌≡◌, refl, sym, ◌∙◌, ap, subst}
use mathlib.Core.List.{List, [], ◌∷◌, ◌++◌}
use lib.IntN.{ℤ}
use lib.ListN.{length, take, drop, get_or, drop_of_length-le}
use Rattle.grid.specs.Records.{most_records}
use Rattle.grid.proofs.Lists.{all_of}
use Rattle.grid.proofs.Loops.{drop_more}
use Rattle.rules.specs.Histories.{Edit}
use Rattle.rules.specs.Backends.{Sums}
use Rattle.rules.specs.Retire.{Round, dated, round_at, settle}
use Rattle.moments.specs.Present.{edits}
use Rattle.moments.specs.Window.{Orderly}
use Rattle.moments.proofs.Orderly.{orderly_more}
use Rattle.rounds.specs.Merges.{by_value, merged}
use Rattle.slots.proofs.Alike.{seen_refl, seen_sym, sorted_seen, settle-alike}
use Rattle.marks.specs.Marks.{marked_at}
use Rattle.fixing.specs.Settle.{LentFixes, LentSums, KeySettled, KeyOver}
use Rattle.fixing.proofs.Left.{Left, left_start, left_more, left_over, left_end, left_marks}
use Rattle.plain.specs.Plain.{TurnAsks, TurnDone, TurnOver, KeyAsks}
use Rattle.plain.specs.declared.Turn.{Turn}

settle_none : (mode : ℕ) (i o : List Edit) → settle mode i o [] ≡ []
unfolding settle
settle_none mode i o = refl

settle-next : (mode : ℕ) (i o : List Edit) (t : ℕ) (ts : List ℕ) → settle mode i o (t ∷ ts) ≡ round_at mode i o t ∷ settle mode i (o ++ dated t (round_at mode i o t).fixes) ts
unfolding settle
settle-next mode i o t ts = refl

-- whether the corrections are appended or merged by value, the same is seen
settle-merged : (mode : ℕ) (i o : List Edit) (t : ℕ) (c : Sums) (ts : List ℕ) → settle mode i (o ++ dated t c) ts ≡ settle mode i (merged o t c) ts
unfolding merged
settle-merged mode i o t c ts = settle-alike mode ts (all_of (seen_refl i) ts) (all_of (λ q. seen_sym (sorted_seen by_value (o ++ dated t c) q)) ts)

pub record Going (most mode key : ℕ) (moments vs ts : List ℕ) (ds : List ℤ) (n : ℕ) (uv₀ ut₀ : List ℕ) (ud₀ : List ℤ) (iv₀ : List ℕ) (id₀ : List ℤ) (ov₀ : List ℕ) (od₀ : List ℤ) (cv₀ : List ℕ) (cd₀ : List ℤ) (marks₀ fk₀ fv₀ ft₀ : List ℕ) (fd₀ : List ℤ) (fixes : ℕ)
    (uv ut : List ℕ) (ud : List ℤ) (iv : List ℕ) (id : List ℤ) (ov : List ℕ) (od : List ℤ) (cv : List ℕ) (cd : List ℤ) (marks fk fv ft : List ℕ) (fd : List ℤ) (j u k : ℕ) : Type 0 where
  pub asks : KeyAsks most moments vs ts ds n uv₀ ut₀ ud₀ iv₀ id₀ ov₀ od₀ cv₀ cd₀ marks₀ fk₀ fv₀ ft₀ fd₀ fixes
  pub long_uv : length uv ≡ most + most
  pub long_ut : length ut ≡ most + most
  pub long_ud : length ud ≡ most + most
  pub sums : LentSums most iv ov id od cv cd
  pub lent : LentFixes most fk fv ft fd
  pub rest : List Round
  pub rest_is : rest ≡ settle mode (edits vs ts ds) (take u (edits uv ut ud)) (drop j moments)
  pub left : Left most key (settle mode (edits vs ts ds) (take n (edits uv₀ ut₀ ud₀)) moments) rest j fixes k marks₀ marks fk₀ fv₀ ft₀ fd₀ fk fv ft fd
  pub within : u ≤ most + k
  pub orderly : Orderly (most_records + k) (take u (edits uv ut ud))

pub going_start : {most : ℕ} (mode key : ℕ) {moments vs ts : List ℕ} {ds : List ℤ} {n : ℕ} {uv ut : List ℕ} {ud : List ℤ} {iv : List ℕ} {id : List ℤ} {ov : List ℕ} {od : List ℤ} {cv : List ℕ} {cd : List ℤ} {marks fk fv ft : List ℕ} {fd : List ℤ} {fixes : ℕ}
    → KeyAsks most moments vs ts ds n uv ut ud iv id ov od cv cd marks fk fv ft fd fixes
    → Going most mode key moments vs ts ds n uv ut ud iv id ov od cv cd marks fk fv ft fd fixes uv ut ud iv id ov od cv cd marks fk fv ft fd 0 n fixes
going_start {most} mode key {moments} {vs} {ts} {ds} {n} {uv} {ut} {ud} {fixes = fixes} x = record {
  asks = x;
  long_uv = x.memory.long_uv;
  long_ut = x.memory.long_ut;
  long_ud = x.memory.long_ud;
  sums = x.memory.sums;
  lent = x.memory.lent;
  rest = settle mode (edits vs ts ds) (take n (edits uv ut ud)) moments;
  rest_is = refl;
  left = left_start x.memory.fits;
  within = omega (arith, x.within);
  orderly = orderly_more (omega arith) x.output;
}

module _ {most mode key : ℕ} {moments vs ts : List ℕ} {ds : List ℤ} {n : ℕ} {uv₀ ut₀ : List ℕ} {ud₀ : List ℤ} {iv₀ : List ℕ} {id₀ : List ℤ} {ov₀ : List ℕ} {od₀ : List ℤ} {cv₀ : List ℕ} {cd₀ : List ℤ} {marks₀ fk₀ fv₀ ft₀ : List ℕ} {fd₀ : List ℤ} {fixes : ℕ}
    {uv ut : List ℕ} {ud : List ℤ} {iv : List ℕ} {id : List ℤ} {ov : List ℕ} {od : List ℤ} {cv : List ℕ} {cd : List ℤ} {marks fk fv ft : List ℕ} {fd : List ℤ} {j u k : ℕ}
    (g : Going most mode key moments vs ts ds n uv₀ ut₀ ud₀ iv₀ id₀ ov₀ od₀ cv₀ cd₀ marks₀ fk₀ fv₀ ft₀ fd₀ fixes uv ut ud iv id ov od cv cd marks fk fv ft fd j u k) where
  abbrev input : List Edit
  input = edits vs ts ds

  abbrev output : List Edit
  output = take u (edits uv ut ud)

  abbrev all : List Round
  all = settle mode input (take n (edits uv₀ ut₀ ud₀)) moments

  module _ (e : j < length moments) where
    pub going_mark : j < length marks
    going_mark = omega (arith, g.asks.few, g.asks.memory.long_marks, g.left.long_marks)

    room : length fk ≡ most
    room = g.lent.long_k

    pub going_asks : TurnAsks (length fk) vs ts ds u uv ut ud iv id ov od cv cd fk fv ft fd k
    going_asks = subst (λ (w : ℕ). TurnAsks w vs ts ds u uv ut ud iv id ov od cv cd fk fv ft fd k) (sym room) (record {
      same_t = g.asks.same_t;
      same_d = g.asks.same_d;
      short = g.asks.short;
      input = g.asks.input;
      long_uv = g.long_uv;
      long_ut = g.long_ut;
      long_ud = g.long_ud;
      within = g.within;
      output = g.orderly;
      sums = g.sums;
      lent = g.lent;
      fits = g.left.fits;
      room_few = g.asks.memory.room_few;
    })

    abbrev t : ℕ
    t = get_or moments j 0

    abbrev x : Round
    x = round_at mode input output t

    abbrev later : List Round
    later = settle mode input (output ++ dated t x.fixes) (drop (j + 1) moments)

    split : g.rest ≡ x ∷ later
    split = g.rest_is ∙ ap (settle mode input output) (drop_more moments j 0 e) ∙ settle-next mode input output t (drop (j + 1) moments)

    left_now : Left most key all (x ∷ later) j fixes k marks₀ marks fk₀ fv₀ ft₀ fd₀ fk fv ft fd
    left_now = subst (λ (l : List Round). Left most key all l j fixes k marks₀ marks fk₀ fv₀ ft₀ fd₀ fk fv ft fd) split g.left

    pub going_over : TurnOver (length fk) mode key t input output k → KeyOver most mode key input (take n (edits uv₀ ut₀ ud₀)) moments fixes
    going_over o = left_over left_now (subst (λ (w : ℕ). TurnOver w mode key t input output k) room o)

    module _ {r : Turn} {uv' ut' : List ℕ} {ud' : List ℤ} {fk' fv' ft' : List ℕ} {fd' : List ℤ} (d₀ : TurnDone (length fk) mode key t input output u k r uv' ut' ud' fk fv ft fd fk' fv' ft' fd') where
      d : TurnDone most mode key t input output u k r uv' ut' ud' fk fv ft fd fk' fv' ft' fd'
      d = subst (λ (w : ℕ). TurnDone w mode key t input output u k r uv' ut' ud' fk fv ft fd fk' fv' ft' fd') room d₀

      module _ {marks' : List ℕ} (m : marks' ≡ marked_at r.crossed j marks) {iv' : List ℕ} {id' : List ℤ} {ov' : List ℕ} {od' : List ℤ} {cv' : List ℕ} {cd' : List ℤ}
          (luv : length uv' ≡ length uv) (lut : length ut' ≡ length ut) (lud : length ud' ≡ length ud) (liv : length iv' ≡ length iv) (lid : length id' ≡ length id) (lov : length ov' ≡ length ov) (lod : length od' ≡ length od)
          (lcv : length cv' ≡ length cv) (lcd : length cd' ≡ length cd) (lfk : length fk' ≡ length fk) (lfv : length fv' ≡ length fv) (lft : length ft' ≡ length ft) (lfd : length fd' ≡ length fd) where
        pub going_more : Going most mode key moments vs ts ds n uv₀ ut₀ ud₀ iv₀ id₀ ov₀ od₀ cv₀ cd₀ marks₀ fk₀ fv₀ ft₀ fd₀ fixes uv' ut' ud' iv' id' ov' od' cv' cd' marks' fk' fv' ft' fd' (j + 1) r.output r.fixes
        going_more = record {
          asks = g.asks;
          long_uv = luv ∙ g.long_uv;
          long_ut = lut ∙ g.long_ut;
          long_ud = lud ∙ g.long_ud;
          sums = record { long_iv = liv ∙ g.sums.long_iv; long_ov = lov ∙ g.sums.long_ov; long_id = lid ∙ g.sums.long_id; long_od = lod ∙ g.sums.long_od; long_cv = lcv ∙ g.sums.long_cv; long_cd = lcd ∙ g.sums.long_cd };
          lent = record { long_k = lfk ∙ g.lent.long_k; long_v = lfv ∙ g.lent.long_v; long_t = lft ∙ g.lent.long_t; long_d = lfd ∙ g.lent.long_d };
          rest = later;
          rest_is = settle-merged mode input output t x.fixes (drop (j + 1) moments) ∙ ap (λ (es : List Edit). settle mode input es (drop (j + 1) moments)) (sym d.output_is);
          left = left_more left_now d.listed going_mark (m ∙ ap (λ (b : Bool). marked_at b j marks) d.crossed_is) refl;
          within = d.within;
          orderly = d.orderly;
        }

  module _ (e : length moments ≤ j) where
    none_left : g.rest ≡ []
    none_left = g.rest_is ∙ ap (settle mode input output) (drop_of_length-le moments {i = j} e) ∙ settle_none mode input output

    pub going_end : KeySettled most mode key input (take n (edits uv₀ ut₀ ud₀)) moments fixes k marks₀ marks fk₀ fv₀ ft₀ fd₀ fk fv ft fd
    going_end = record { listed = left_end g.left none_left; marks_are = left_marks g.left none_left }
