-- The loop over the rounds of a key by a collapsed replay.
--
-- rounds_left: the rounds that are left to a key that stands somewhere
-- Playing: the first j rounds are settled, and the others are still to come. playing_start, playing_more, playing_end: the loop keeps that
-- playing_turn, playing_mark: what a round asks. playing_over: a round whose corrections are too large
use Prim.Native.Nat.{ℕ, zero, suc, ◌+◌, ◌-◌, ◌*◌, ◌^◌, ◌<◌, ◌≤◌}
use native.Mathlib.Nat.{not-suc-le-zero, le_of_suc-le-suc}
use native.Mathlib.Omega.{arith}
use mathlib.Core.Bool.{true, false}
use mathlib.Core.Path.{◌≡◌, refl, sym, ◌∙◌, ap, subst}
use mathlib.Core.List.{List, [], ◌∷◌, ◌++◌}
use lib.IntN.{ℤ, nat_abs}
use lib.ListN.{length, take, drop, get_or, drop_of_length-le}
use lib.Seq.{get_or-take}
use Rattle.grid.specs.Lists.{flat, past}
use Rattle.grid.specs.Times.{below}
use Rattle.grid.proofs.Lists.{All}
use Rattle.grid.proofs.Loops.{drop_more}
use Rattle.grid.proofs.Sizes.{mass}
use Rattle.rules.specs.Histories.{Edit}
use Rattle.rules.specs.Retire.{Round, dated, round_at, settle}
use Rattle.backends.specs.Segments.{part}
use Rattle.moments.specs.Present.{edits}
use Rattle.moments.proofs.Columns.{edits_long}
use Rattle.marks.specs.Marks.{marked_at}
use Rattle.slots.specs.Slots.{rows_in, rows_too_large}
use Rattle.fixing.specs.Settle.{LentFixes, LentSums, KeySettled, KeyOver}
use Rattle.fixing.proofs.Left.{Left, left_start, left_more, left_over, left_end, left_marks}
use Rattle.gather.specs.Meets.{meet_of, meets_of}
use Rattle.gather.specs.Loads.{Timely}
use Rattle.gather.specs.Gather.{up_to}
use Rattle.gather.proofs.Under.{meet-under}
use Rattle.replay.specs.Replay.{Staged, TurnAsks, TurnTaken, RoundsAsk, input_now, output_now}
use Rattle.replay.specs.declared.Stage.{Stage}
use Rattle.replay.proofs.Turning.{turn_rounds}

-- ---- meets
meets_at : (ts : List ℕ) (j : ℕ) → j < length ts → get_or (meets_of ts) j 0 ≡ meet_of (drop j ts)
unfolding meets_of
meets_at [] j h = absurd (not-suc-le-zero h)
meets_at (t ∷ ts) zero h = refl
meets_at (t ∷ ts) (suc j) h = meets_at ts j (le_of_suc-le-suc h)

meets_under : (moments far : List ℕ) (j : ℕ) → take (length moments) far ≡ meets_of moments → j < length moments → All (λ u. below (get_or far j 0) u ≡ true) (drop j moments)
meets_under moments far j e h =
    let q : get_or far j 0 ≡ meet_of (drop j moments) = sym (get_or-take (length moments) far j 0 h) ∙ ap (λ l. get_or l j 0) e ∙ meets_at moments j h in
    subst (λ m. All (λ u. below m u ≡ true) (drop j moments)) (sym q) (meet-under (drop j moments))

-- ---- a round
-- the rounds that are left
abbrev pub rounds_left : ℕ → ℕ → List Edit → List Edit → List Edit → List ℕ → ℕ → Stage → List Round
rounds_left mode e ss xs us moments j w = settle mode (take w.held xs ++ part w.at e xs) (take w.output us ++ drop w.out ss) (drop j moments)

module _ (mode k m : ℕ) {most t e : ℕ} {ss xs us : List Edit} {w : Stage} (s : Staged most e ss xs us w) (moments : List ℕ) (j : ℕ)
    (h : j < length moments) (a : t ≡ get_or moments j 0) (b : All (λ u. below m u ≡ true) (drop j moments)) where
  abbrev I : List Edit
  I = input_now t m e xs w

  abbrev O : List Edit
  O = output_now t m ss us w

  abbrev x : Round
  x = round_at mode I O t

  abbrev rest : List Round
  rest = settle mode (I ++ past (up_to t) (part w.at e xs)) ((O ++ dated t (round_at mode I O t).fixes) ++ past (up_to t) (drop w.out ss)) (drop (j + 1) moments)

  moments_are : drop j moments ≡ t ∷ drop (j + 1) moments
  moments_are = drop_more moments j 0 h ∙ ap (λ u. u ∷ drop (j + 1) moments) (sym a)

  left_is : rounds_left mode e ss xs us moments j w ≡ x ∷ rest
  left_is =
      ap (settle mode (take w.held xs ++ part w.at e xs) (take w.output us ++ drop w.out ss)) moments_are
      ∙ turn_rounds mode t m (take w.held xs) (part w.at e xs) (take w.output us) (drop w.out ss) (drop (j + 1) moments)
      (subst (All (λ u. below m u ≡ true)) moments_are b) s.input_timely s.output_timely

  turn_over : {all : List Round} {n : ℕ} {marks₀ marks fk₀ fv₀ ft₀ : List ℕ} {fd₀ : List ℤ} {fk fv ft : List ℕ} {fd : List ℤ}
      → Left most k all (rounds_left mode e ss xs us moments j w) j n w.fixes marks₀ marks fk₀ fv₀ ft₀ fd₀ fk fv ft fd → rows_too_large most w.fixes (rows_in k x) ≡ true
      → rows_too_large most n (flat (rows_in k) all) ≡ true
  turn_over {all} {n} {marks₀} {marks} {fk₀} {fv₀} {ft₀} {fd₀} {fk} {fv} {ft} {fd} l o =
      left_over (subst (λ (y : List Round). Left most k all y j n w.fixes marks₀ marks fk₀ fv₀ ft₀ fd₀ fk fv ft fd) left_is l) o

  module _ {r : Stage} {xs' us' : List Edit} {fk fv ft : List ℕ} {fd : List ℤ} {fk' fv' ft' : List ℕ} {fd' : List ℤ} (d : TurnTaken most mode k t m e ss xs us w r xs' us' fk fv ft fd fk' fv' ft' fd') where
    later_is : rest ≡ rounds_left mode e ss xs' us' moments (j + 1) r
    later_is =
        let p = sym d.held_is in
        let q = sym d.ahead_is in
        let u = sym d.output_is in
        let v = sym d.out_is in
        λ z. settle mode (p z ++ q z) (u z ++ v z) (drop (j + 1) moments)

    turn_left : {all : List Round} {n : ℕ} {marks₀ marks marks' fk₀ fv₀ ft₀ : List ℕ} {fd₀ : List ℤ}
        → Left most k all (rounds_left mode e ss xs us moments j w) j n w.fixes marks₀ marks fk₀ fv₀ ft₀ fd₀ fk fv ft fd
        → j < length marks → marks' ≡ marked_at r.crossed j marks
        → Left most k all (rounds_left mode e ss xs' us' moments (j + 1) r) (j + 1) n r.fixes marks₀ marks' fk₀ fv₀ ft₀ fd₀ fk' fv' ft' fd'
    turn_left {all} {n} {marks₀} {marks} {marks'} {fk₀} {fv₀} {ft₀} {fd₀} l c q =
        left_more (subst (λ (y : List Round). Left most k all y j n w.fixes marks₀ marks fk₀ fv₀ ft₀ fd₀ fk fv ft fd) left_is l) d.listed c
        (q ∙ ap (λ y. marked_at y j marks) d.crossed_is) later_is

-- ---- the loop
pub record Playing (most mode k : ℕ) (moments far : List ℕ) (e : ℕ) (sv st : List ℕ) (sd : List ℤ) (xv₀ xt₀ : List ℕ) (xd₀ : List ℤ) (uv₀ ut₀ : List ℕ) (ud₀ : List ℤ) (iv₀ : List ℕ) (id₀ : List ℤ) (ov₀ : List ℕ) (od₀ : List ℤ) (cv₀ : List ℕ) (cd₀ : List ℤ) (marks₀ fk₀ fv₀ ft₀ : List ℕ) (fd₀ : List ℤ) (fixes : ℕ)
    (xv xt : List ℕ) (xd : List ℤ) (uv ut : List ℕ) (ud : List ℤ) (iv : List ℕ) (id : List ℤ) (ov : List ℕ) (od : List ℤ) (cv : List ℕ) (cd : List ℤ) (marks fk fv ft : List ℕ) (fd : List ℤ) (j : ℕ) (w : Stage) : Type 0 where
  pub asks : RoundsAsk most moments far e sv st sd xv₀ xt₀ xd₀ uv₀ ut₀ ud₀ iv₀ id₀ ov₀ od₀ cv₀ cd₀ marks₀ fk₀ fv₀ ft₀ fd₀ fixes
  pub long_xv : length xv ≡ 8192
  pub long_xt : length xt ≡ 8192
  pub long_xd : length xd ≡ 8192
  pub long_uv : length uv ≡ most + most
  pub long_ut : length ut ≡ most + most
  pub long_ud : length ud ≡ most + most
  pub sums : LentSums most iv ov id od cv cd
  pub lent : LentFixes most fk fv ft fd
  pub left : Left most k (settle mode (take e (edits xv₀ xt₀ xd₀)) (edits sv st sd) moments) (rounds_left mode e (edits sv st sd) (edits xv xt xd) (edits uv ut ud) moments j w) j fixes w.fixes marks₀ marks fk₀ fv₀ ft₀ fd₀ fk fv ft fd
  pub staged : Staged most e (edits sv st sd) (edits xv xt xd) (edits uv ut ud) w

module _ {most : ℕ} (mode k : ℕ) {moments far : List ℕ} {e : ℕ} {sv st : List ℕ} {sd : List ℤ} {xv xt : List ℕ} {xd : List ℤ} {uv ut : List ℕ} {ud : List ℤ} {iv : List ℕ} {id : List ℤ} {ov : List ℕ} {od : List ℤ} {cv : List ℕ} {cd : List ℤ} {marks fk fv ft : List ℕ} {fd : List ℤ} {fixes : ℕ}
    (x : RoundsAsk most moments far e sv st sd xv xt xd uv ut ud iv id ov od cv cd marks fk fv ft fd fixes) where
  pub playing_start : Playing most mode k moments far e sv st sd xv xt xd uv ut ud iv id ov od cv cd marks fk fv ft fd fixes xv xt xd uv ut ud iv id ov od cv cd marks fk fv ft fd 0
      (record { held = 0; at = 0; output = 0; out = 0; crossed = false; fixes = fixes })
  playing_start =
      let z : e ≡ e - 0 = omega arith in
      let n : length (edits sv st sd) ≡ length sv = edits_long sv st sd x.same_st x.same_sd in
      let f : length sv ≤ most = x.output_few in
      let l : mass nat_abs (edits sv st sd) ≤ 4096 * 2 ^ 31 = x.output_light in
      record {
        asks = x;
        long_xv = x.long_xv;
        long_xt = x.long_xt;
        long_xd = x.long_xd;
        long_uv = x.memory.long_uv;
        long_ut = x.memory.long_ut;
        long_ud = x.memory.long_ud;
        sums = x.memory.sums;
        lent = x.memory.lent;
        left = subst (λ (i : ℕ). Left most k (settle mode (take e (edits xv xt xd)) (edits sv st sd) moments) (settle mode (take i (edits xv xt xd)) (edits sv st sd) moments) 0 fixes fixes marks marks fk fv ft fd fk fv ft fd) z
            (left_start x.memory.fits);
        staged = record {
          before = omega arith;
          forth = omega arith;
          within = x.input_few;
          input_timely = subst (λ (i : ℕ). Timely (take i (edits xv xt xd))) z x.input_timely;
          input_light = (let i : mass nat_abs (take (e - 0) (edits xv xt xd)) ≤ 8192 * 2 ^ 31 = subst (λ (i : ℕ). mass nat_abs (take i (edits xv xt xd)) ≤ 8192 * 2 ^ 31) z x.input_light in omega (arith, i));
          out_forth = omega arith;
          output_timely = x.output_timely;
          output_few = omega (arith, n, f);
          output_light = omega (arith, l);
          fits = x.memory.fits;
        };
      }

module _ {most mode k : ℕ} {moments far : List ℕ} {e : ℕ} {sv st : List ℕ} {sd : List ℤ} {xv₀ xt₀ : List ℕ} {xd₀ : List ℤ} {uv₀ ut₀ : List ℕ} {ud₀ : List ℤ} {iv₀ : List ℕ} {id₀ : List ℤ} {ov₀ : List ℕ} {od₀ : List ℤ} {cv₀ : List ℕ} {cd₀ : List ℤ} {marks₀ fk₀ fv₀ ft₀ : List ℕ} {fd₀ : List ℤ} {fixes : ℕ}
    {xv xt : List ℕ} {xd : List ℤ} {uv ut : List ℕ} {ud : List ℤ} {iv : List ℕ} {id : List ℤ} {ov : List ℕ} {od : List ℤ} {cv : List ℕ} {cd : List ℤ} {marks fk fv ft : List ℕ} {fd : List ℤ} {j : ℕ} {w : Stage}
    (g : Playing most mode k moments far e sv st sd xv₀ xt₀ xd₀ uv₀ ut₀ ud₀ iv₀ id₀ ov₀ od₀ cv₀ cd₀ marks₀ fk₀ fv₀ ft₀ fd₀ fixes xv xt xd uv ut ud iv id ov od cv cd marks fk fv ft fd j w) where
  module _ (t : j < length moments) where
    pub playing_turn : TurnAsks (length fk) e sv st sd xv xt xd uv ut ud iv id ov od cv cd fk fv ft fd w
    playing_turn =
        subst (λ (i : ℕ). TurnAsks i e sv st sd xv xt xd uv ut ud iv id ov od cv cd fk fv ft fd w) (sym g.lent.long_k)
        (record {
          same_st = g.asks.same_st;
          same_sd = g.asks.same_sd;
          long_xv = g.long_xv;
          long_xt = g.long_xt;
          long_xd = g.long_xd;
          long_uv = g.long_uv;
          long_ut = g.long_ut;
          long_ud = g.long_ud;
          sums = g.sums;
          lent = g.lent;
          room_few = g.asks.memory.room_few;
          staged = g.staged;
        })

    pub playing_mark : j < length marks
    playing_mark = omega (arith, g.asks.few, g.left.long_marks, g.asks.memory.long_marks)

    abbrev round_now : Round
    round_now =
        let u = get_or moments j 0 in
        let m = get_or far j 0 in
        round_at mode (input_now u m e (edits xv xt xd) w) (output_now u m (edits sv st sd) (edits uv ut ud) w) u

    pub playing_over : rows_too_large (length fk) w.fixes (rows_in k round_now) ≡ true → KeyOver most mode k (take e (edits xv₀ xt₀ xd₀)) (edits sv st sd) moments fixes
    playing_over o =
        turn_over mode k (get_or far j 0) g.staged moments j t refl (meets_under moments far j g.asks.meets_are t) g.left
        (subst (λ (i : ℕ). rows_too_large i w.fixes (rows_in k round_now) ≡ true) g.lent.long_k o)

    pub playing_more : {r : Stage} {xv' xt' : List ℕ} {xd' : List ℤ} {uv' ut' : List ℕ} {ud' : List ℤ} {iv' : List ℕ} {id' : List ℤ} {ov' : List ℕ} {od' : List ℤ} {cv' : List ℕ} {cd' : List ℤ} {marks' fk' fv' ft' : List ℕ} {fd' : List ℤ}
        → TurnTaken (length fk) mode k (get_or moments j 0) (get_or far j 0) e (edits sv st sd) (edits xv xt xd) (edits uv ut ud) w r (edits xv' xt' xd') (edits uv' ut' ud') fk fv ft fd fk' fv' ft' fd'
        → marks' ≡ marked_at r.crossed j marks
        → length xv' ≡ length xv → length xt' ≡ length xt → length xd' ≡ length xd → length uv' ≡ length uv → length ut' ≡ length ut → length ud' ≡ length ud
        → length iv' ≡ length iv → length id' ≡ length id → length ov' ≡ length ov → length od' ≡ length od → length cv' ≡ length cv → length cd' ≡ length cd
        → length fk' ≡ length fk → length fv' ≡ length fv → length ft' ≡ length ft → length fd' ≡ length fd
        → Playing most mode k moments far e sv st sd xv₀ xt₀ xd₀ uv₀ ut₀ ud₀ iv₀ id₀ ov₀ od₀ cv₀ cd₀ marks₀ fk₀ fv₀ ft₀ fd₀ fixes xv' xt' xd' uv' ut' ud' iv' id' ov' od' cv' cd' marks' fk' fv' ft' fd' (j + 1) r
    playing_more {r} {xv'} {xt'} {xd'} {uv'} {ut'} {ud'} {fk' = fk'} {fv'} {ft'} {fd'} d₀ q lxv lxt lxd luv lut lud liv lid lov lod lcv lcd lfk lfv lft lfd =
        let d : TurnTaken most mode k (get_or moments j 0) (get_or far j 0) e (edits sv st sd) (edits xv xt xd) (edits uv ut ud) w r (edits xv' xt' xd') (edits uv' ut' ud') fk fv ft fd fk' fv' ft' fd' =
        subst (λ (i : ℕ). TurnTaken i mode k (get_or moments j 0) (get_or far j 0) e (edits sv st sd) (edits xv xt xd) (edits uv ut ud) w r (edits xv' xt' xd') (edits uv' ut' ud') fk fv ft fd fk' fv' ft' fd') g.lent.long_k d₀ in
        record {
          asks = g.asks;
          long_xv = lxv ∙ g.long_xv;
          long_xt = lxt ∙ g.long_xt;
          long_xd = lxd ∙ g.long_xd;
          long_uv = luv ∙ g.long_uv;
          long_ut = lut ∙ g.long_ut;
          long_ud = lud ∙ g.long_ud;
          sums = record { long_iv = liv ∙ g.sums.long_iv; long_ov = lov ∙ g.sums.long_ov; long_id = lid ∙ g.sums.long_id; long_od = lod ∙ g.sums.long_od; long_cv = lcv ∙ g.sums.long_cv; long_cd = lcd ∙ g.sums.long_cd };
          lent = record { long_k = lfk ∙ g.lent.long_k; long_v = lfv ∙ g.lent.long_v; long_t = lft ∙ g.lent.long_t; long_d = lfd ∙ g.lent.long_d };
          left = turn_left mode k (get_or far j 0) g.staged moments j t refl (meets_under moments far j g.asks.meets_are t) d g.left playing_mark q;
          staged = d.staged;
        }

  none_left : length moments ≤ j → rounds_left mode e (edits sv st sd) (edits xv xt xd) (edits uv ut ud) moments j w ≡ []
  unfolding settle
  none_left t = ap (settle mode (take w.held (edits xv xt xd) ++ part w.at e (edits xv xt xd)) (take w.output (edits uv ut ud) ++ drop w.out (edits sv st sd))) (drop_of_length-le moments t)

  pub playing_end : {r : ℕ} → length moments ≤ j → r ≡ w.fixes → KeySettled most mode k (take e (edits xv₀ xt₀ xd₀)) (edits sv st sd) moments fixes r marks₀ marks fk₀ fv₀ ft₀ fd₀ fk fv ft fd
  playing_end t q = rw q (record { listed = left_end g.left (none_left t); marks_are = left_marks g.left (none_left t) })
