-- A call that works: what the checks say of its runs, and what it leaves.
--
-- begins-room: how long its memory is. work_runs l c: its runs as its windows read them, c being its input
-- forms, forms-room: what forming the input asks
-- asked, few, answering: the runs are the request's, and are as the rest of the work asks
-- work-retires: what the call says and leaves
-- formed_part, kept, reach, same_six, same_two: lengths
use Prim.Native.Nat.{ℕ, ◌+◌, ◌-◌, ◌*◌, ◌≤◌, ◌<◌, min}
use native.Mathlib.Nat.{sub-zero}
use native.Mathlib.Omega.{arith}
use mathlib.Core.Bool.{Bool, true, ◌&&◌}
use mathlib.Core.List.{List, [], ◌∷◌, ◌++◌, map, map-map}
use mathlib.Core.Path.{◌≡◌, refl, sym, ◌∙◌, ap, subst}
use lib.Dec.{eqb}
use lib.IntN.{ℤ, pos}
use lib.ListN.{length, take, replicate, length-map, length-take}
use borrow.Author.Tests.{eqb-true}
use Rattle.grid.specs.Records.{Columns, good_run, most_records}
use Rattle.grid.specs.Times.{puts}
use Rattle.grid.proofs.Tests.{and_l, and_r}
use Rattle.rules.specs.Call.{check14, check15, call}
use Rattle.rules.specs.Memory.{Memory, Lent, alike, rows_of, request_of}
use Rattle.rules.proofs.Memory.{lent_well_lem, work_cleared, work_diffs_cleared}
use Rattle.checks.proofs.Rows.{alike_values, alike-times, level_old, level_new, level_out, level_pending}
use Rattle.input.specs.Formed.{Formed, cut, columns}
use Rattle.input.specs.Formed as input
use Rattle.keys.specs.Spans.{Level}
use Rattle.keys.proofs.Spans.{key_of, rows_keys, rows-diffs, times_of_lem}
use Rattle.grid.proofs.Operations.{pairs_keys}
use Rattle.keys.proofs.Ranked.{ranked_run, ranked_together, ranked_keys, pending_keys_lem, run-diffs, together-diffs, changed_is}
use Rattle.answers.specs.declared.Outcome.{Outcome}
use Rattle.turns.specs.Runs.{Runs, runs, Good, Asked}
use Rattle.requests.specs.declared.Request.{Request as LentRequest}
use Rattle.requests.specs.declared.Run.{Run}
use Rattle.requests.specs.Runs.{columns_of}
use Rattle.concluding.specs.Lending.{formed_runs, runs_of}
use Rattle.demands.specs.Answers.{Retires}
use Rattle.demands.specs.Lending.{heads, column_needed, moments_needed, needed, memory, lent}
use Rattle.demands.proofs.Lending.{changed_few}
use Rattle.concluding.specs.Answered.{Answering, Answered}
use Rattle.concluding.proofs.Answering.{works_writes, tells-same}
use Rattle.working.specs.Begun.{Begins, Forms}
use Rattle.working.proofs.Lending.{lent_level, lent_room, Room, room_of, Small, small_of, pairs-length, retired_retires}

-- ---- the columns of a run
module _ (c : Columns) (e : alike c ≡ true) where
  abbrev same_but : Bool
  same_but = eqb (length c.values) (length c.keys) && eqb (length c.times) (length c.keys)

  run-level : Level c.keys c.values c.times c.diffs
  unfolding alike
  run-level = record { values_long = alike_values c e; times_long = alike-times c e; diffs_long = eqb-true _ _ (and_r same_but (eqb (length c.diffs) (length c.keys)) e) }

  run_length : length (rows_of c) ≡ length c.keys
  unfolding rows_of
  run_length = sym (length-map (rows_of c) key_of) ∙ ap length (rows_keys run-level)

-- ---- a call that begins to work
pub begins-room :
    {mode width : ℕ} {lower upper held : List ℕ} {old new out : Columns} {ks ts res : List ℕ} {rd : List ℤ} {moments tk tv tt uv ut : List ℕ} {td ud : List ℤ}
    → Begins (lent mode width lower upper held old new out ks ts (memory res rd moments tk tv tt uv ut td ud))
    → Room (column_needed (length old.keys) (length new.keys)) (moments_needed width (length old.keys) new.keys ks) res rd moments tk tv tt uv ut td ud
begins-room {mode} {width} {lower} {upper} {held} {old} {new} {out} {ks} {ts} {res} {rd} {moments} {tk} {tv} {tt} {uv} {ut} {td} {ud} B =
    room_of mode width lower upper held old new out ks ts res rd moments tk tv tt uv ut td ud (lent_room (lent mode width lower upper held old new out ks ts (memory res rd moments tk tv tt uv ut td ud)) B.well)

abbrev pub work_runs : Lent → Columns → Runs
work_runs l c =
    runs l.upper l.new.keys l.new.times l.pending_keys l.pending_times c.keys c.values c.times c.diffs
    l.out.keys l.out.values l.out.times l.out.diffs

module _ {l : Lent} (B : Begins l) where
  abbrev levels : (alike l.old ≡ true) × (alike l.new ≡ true) × (alike l.out ≡ true) × (length l.pending_times ≡ length l.pending_keys)
  levels =
      let e = lent_level l B.well in
      (level_old l.old l.new l.out l.pending_keys l.pending_times e, level_new l.old l.new l.out l.pending_keys l.pending_times e, level_out l.old l.new l.out l.pending_keys l.pending_times e, level_pending l.old l.new l.out l.pending_keys l.pending_times e)

  small : Small (request_of l)
  small = small_of (request_of l) B.works.accepted.holds_11 B.works.accepted.holds_12

  old_few : length l.old.keys ≤ most_records
  unfolding request_of
  old_few = rw (run_length l.old levels.0) at small.few_old

  new_few : length l.new.keys ≤ most_records
  unfolding request_of
  new_few = rw (run_length l.new levels.1) at small.few_new

  out_few : length l.out.keys ≤ most_records
  unfolding request_of
  out_few = rw (run_length l.out levels.2) at small.few_out

  pending_few : length l.pending_keys ≤ most_records
  unfolding request_of
  pending_few = rw (pairs-length l.pending_keys l.pending_times levels.3) at small.few_pending

  good_both : (good_run (rows_of l.old) && good_run (rows_of l.new)) ≡ true
  unfolding check14 request_of
  good_both = and_l (good_run (rows_of l.old) && good_run (rows_of l.new)) (good_run (rows_of l.out)) B.works.accepted.holds_14

  good_old : good_run (rows_of l.old) ≡ true
  good_old = and_l (good_run (rows_of l.old)) (good_run (rows_of l.new)) good_both

  good_new : good_run (rows_of l.new) ≡ true
  good_new = and_r (good_run (rows_of l.old)) (good_run (rows_of l.new)) good_both

  good_out : good_run (rows_of l.out) ≡ true
  unfolding check14 request_of
  good_out = and_r (good_run (rows_of l.old) && good_run (rows_of l.new)) (good_run (rows_of l.out)) B.works.accepted.holds_14

  -- ---- how long memory is
  column_is : column_needed (length l.old.keys) (length l.new.keys) ≡ length l.old.keys + length l.new.keys
  unfolding column_needed
  column_is = omega (arith, old_few, new_few)

  column_moments : column_needed (length l.old.keys) (length l.new.keys) ≤ moments_needed l.width (length l.old.keys) l.new.keys l.pending_keys
  unfolding moments_needed
  column_moments = omega arith

  window_moments : min (min l.width 64) (heads l.new.keys + heads l.pending_keys) * 1024 < moments_needed l.width (length l.old.keys) l.new.keys l.pending_keys
  unfolding moments_needed
  window_moments = omega arith

  -- ---- forming the input
  pub forms : input.Runs l.old l.new
  forms =
      let o = run-level l.old levels.0 in
      let n = run-level l.new levels.1 in
      record {
        old_long = record { long_keys = refl; long_values = o.values_long; long_times = o.times_long; long_diffs = o.diffs_long };
        new_long = record { long_keys = refl; long_values = n.values_long; long_times = n.times_long; long_diffs = n.diffs_long };
      }

  pub forms-room :
      {res : List ℕ} {rd : List ℤ} {moments tk tv tt uv ut : List ℕ} {td ud : List ℤ}
      → Room (column_needed (length l.old.keys) (length l.new.keys)) (moments_needed l.width (length l.old.keys) l.new.keys l.pending_keys) res rd moments tk tv tt uv ut td ud
      → Forms (length l.old.keys + length l.new.keys) (columns uv ut moments ud) res (columns tk tv tt td)
  forms-room r =
      let o = old_few in
      let n = new_few in
      let h = column_is in
      let k = column_moments in
      record {
        few = omega arith;
        for_both = record { for_keys = omega (arith, r.for_uv); for_values = omega (arith, r.for_ut); for_times = omega (arith, r.for_moments); for_diffs = omega (arith, r.for_ud) };
        for_work = omega (arith, r.for_numbers);
        for_all = record { for_keys = omega (arith, r.for_tk); for_values = omega (arith, r.for_tv); for_times = omega (arith, r.for_tt); for_diffs = omega (arith, r.for_td) };
      }

  -- ---- what the work asks
  module _ {n : ℕ} {c : Columns} (F : Formed l.old l.new n c) where
    pub asked : Asked (request_of l) l.mode l.width (work_runs l (cut n c)) (puts (l.new.keys ++ l.pending_keys) [])
    unfolding request_of rows_of
    asked = record {
      mode_is = refl;
      width_is = refl;
      upper_is = refl;
      keys_are = changed_is (request_of l) l.pending_keys l.pending_times refl (run-level l.new levels.1) refl levels.3;
      input_is = sym F.input_is;
      out_is = refl;
      new_is = times_of_lem (run-level l.new levels.1);
      pending_is = refl;
    }

    pub few : n ≤ column_needed (length l.old.keys) (length l.new.keys)
    few = omega (arith, F.count, column_is)

    module _ (r : input.Fits n c) where
      input_level : Level (cut n c).keys (cut n c).values (cut n c).times (cut n c).diffs
      input_level =
          let k : length (take n c.keys) ≡ n = rw length-take (omega (arith, r.for_keys)) in
          let v : length (take n c.values) ≡ n = rw length-take (omega (arith, r.for_values)) in
          let t : length (take n c.times) ≡ n = rw length-take (omega (arith, r.for_times)) in
          let d : length (take n c.diffs) ≡ n = rw length-take (omega (arith, r.for_diffs)) in
          record { values_long = v ∙ sym k; times_long = t ∙ sym k; diffs_long = d ∙ sym k }

      good : Good most_records (work_runs l (cut n c))
      unfolding rows_of check15 request_of
      good = record {
        new_level = alike-times l.new levels.1;
        new_few = new_few;
        new_ascends = rw (rows_keys (run-level l.new levels.1)) at (ranked_keys (ranked_run (rows_of l.new) good_new));
        pending_level = levels.3;
        pending_few = pending_few;
        pending_ascends = rw (pairs_keys l.pending_keys l.pending_times levels.3) at (pending_keys_lem (request_of l).pending B.works.accepted.holds_15);
        in_level = input_level;
        in_few = rw length-take (let o = old_few in let m = new_few in omega (arith, few, column_is));
        in_ranked = rw F.input_is (ranked_together (rows_of l.old) (rows_of l.new));
        in_modest = rw (← rows-diffs input_level, F.input_is) (together-diffs (rows_of l.old) (rows_of l.new) good_old good_new);
        out_level = run-level l.out levels.2;
        out_few = out_few;
        out_ranked = ranked_run (rows_of l.out) good_out;
        out_modest = rw (rows-diffs (run-level l.out levels.2)) at (run-diffs (rows_of l.out) good_out);
      }

      -- work memory may have changed, but for its length
      pub answering :
          {moments res : List ℕ} {rd : List ℤ} → moments_needed l.width (length l.old.keys) l.new.keys l.pending_keys ≤ length moments → 25632 ≤ length res → 4096 ≤ length rd
          → Answering most_records (work_runs l (cut n c)) l.width l.lower l.held moments res rd
      unfolding request_of
      answering a f g = record {
        good = good;
        room_few = omega arith;
        wide = small.wide;
        narrow = small.narrow;
        few_lower = small.few_lower;
        few_upper = small.few_upper;
        few_held = small.few_held;
        room_moments = (let k = window_moments in let w = small.narrow in omega (arith, changed_few l.new.keys l.pending_keys));
        wide_numbers = f;
        wide_diffs = g;
      }

-- ---- what the call leaves
pub work-retires :
    {l : Lent} {R : Runs} {r : Outcome} {res : List ℕ} {m' : Memory} {ns ms : List ℕ}
    → Begins l → Asked (request_of l) l.mode l.width R (puts (R.new_keys ++ R.pending_keys) [])
    → Answered R l.mode l.width l.lower l.held r res m'.numbers l.memory.diffs m'.diffs → length res ≡ length l.memory.numbers
    → ns ≡ map length l.memory.work → m'.work ≡ map (λ n. replicate n 0) ns
    → ms ≡ map length l.memory.work_diffs → m'.work_diffs ≡ map (λ n. replicate n (pos 0)) ms
    → Retires needed l r m'
unfolding request_of
work-retires {l} B A T h nl ne ml me =
    let q = request_of l in
    let e = works_writes q B.works in
    retired_retires (lent_well_lem (needed l) l B.well) (record {
      tells = tells-same B.works h refl (T.answers q B.works A refl refl);
      work_is = ne ∙ ap (map (λ n. replicate n 0)) nl ∙ map-map (λ n. replicate n 0) length l.memory.work ∙ sym (work_cleared (call q) l.memory e);
      work_diffs_is = me ∙ ap (map (λ n. replicate n (pos 0))) ml ∙ map-map (λ n. replicate n (pos 0)) length l.memory.work_diffs ∙ sym (work_diffs_cleared (call q) l.memory e);
    })

-- ---- lengths
-- a part from 0 on
pub formed_part : {old new c : Columns} {n : ℕ} → Formed old new n c → Formed old new (n - 0) c
formed_part F = rw sub-zero F

pub kept : {n a b : ℕ} → a ≡ b → n ≤ b → n ≤ a
kept e h = omega arith

pub reach : {n k m : ℕ} → n ≤ k → k ≤ m → n ≤ m
reach h k = omega arith

pub same_six : {a b c d e f a' b' c' d' e' f' : ℕ} → a ≡ a' → b ≡ b' → c ≡ c' → d ≡ d' → e ≡ e' → f ≡ f' → (a ∷ b ∷ c ∷ d ∷ e ∷ f ∷ []) ≡ (a' ∷ b' ∷ c' ∷ d' ∷ e' ∷ f' ∷ [])
same_six p q r s t u = λ i. p i ∷ q i ∷ r i ∷ s i ∷ t i ∷ u i ∷ []

pub same_two : {a b a' b' : ℕ} → a ≡ a' → b ≡ b' → (a ∷ b ∷ []) ≡ (a' ∷ b' ∷ [])
same_two p q = λ i. p i ∷ q i ∷ []

-- ---- the input as a run that is lent
module _ (q : LentRequest) (input : Run) {c : Columns} (e : columns_of input ≡ c) where
  pub input_asked : {most width : ℕ} {lower held moments res : List ℕ} {rd : List ℤ} → Answering most (formed_runs q c) width lower held moments res rd → Answering most (runs_of q input) width lower held moments res rd
  input_asked {most} {width} {lower} {held} {moments} {res} {rd} = subst (λ x. Answering most (formed_runs q x) width lower held moments res rd) (sym e)

  pub input_answered : {mode width : ℕ} {lower held : List ℕ} {o : Outcome} {res res' : List ℕ} {rd rd' : List ℤ}
      → Answered (runs_of q input) mode width lower held o res res' rd rd' → Answered (formed_runs q c) mode width lower held o res res' rd rd'
  input_answered {mode} {width} {lower} {held} {o} {res} {res'} {rd} {rd'} = subst (λ x. Answered (formed_runs q x) mode width lower held o res res' rd rd') e
