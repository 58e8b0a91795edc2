-- What was lent, and what it says of a call that it passed the checks.
--
-- lent_level, lent_room: what it says of the columns, and of the memory, that a call was lent well
-- Room n m, room_results, room_of: how long the slices of memory are then: n the columns of the input, m the moments
-- Small, small_of: how many entries the runs, the pending list and the frontiers of a request have that passed the checks 11 and 12
-- pairs-length: how many entries a pending list has
-- retired_retires: what is said and left of the rules' answer is what a call has to say and to leave
use Prim.Native.Nat.{ℕ, ◌≤◌}
use mathlib.Core.Bool.{Bool, true, ◌&&◌, ◌||◌}
use mathlib.Core.List.{List, [], ◌∷◌}
use mathlib.Core.Path.{◌≡◌, sym, ◌∙◌, ap}
use lib.Dec.{leb, eqb}
use lib.IntN.{ℤ}
use lib.ListN.{length, length-map}
use borrow.Author.Tests.{leb-true}
use Rattle.grid.specs.Frontiers.{most_times, is_frontier}
use Rattle.grid.specs.Records.{Columns, most_records, pairs}
use Rattle.grid.proofs.Tests.{and_l, and_r}
use Rattle.rules.specs.Call.{Request, Answer, check11, check12}
use Rattle.rules.specs.Memory.{Memory, Sizes, Lent, numbers_size, long_enough, roomy, lent_well, call_lent, after}
use Rattle.rules.proofs.Tiles.{frontier_length}
use Rattle.checks.specs.Checks.{level}
use Rattle.grid.proofs.Operations.{pairs_keys}
use Rattle.answers.specs.declared.Outcome.{Outcome}
use Rattle.demands.specs.Answers.{Retires, Retired}
use Rattle.demands.specs.Lending.{column_needed, moments_needed, needed, memory, lent}

-- ---- what was lent well
module _ (l : Lent) (e : lent_well (needed l) l ≡ true) where
  abbrev columns_well : Bool
  columns_well = level l.old l.new l.out l.pending_keys l.pending_times

  pub lent_level : columns_well ≡ true
  unfolding lent_well level
  lent_level = and_l columns_well (roomy (needed l) l.memory) e

  pub lent_room : roomy (needed l) l.memory ≡ true
  unfolding lent_well level
  lent_room = and_r columns_well (roomy (needed l) l.memory) e

pub record Room (n m : ℕ) (res : List ℕ) (rd : List ℤ) (moments tk tv tt uv ut : List ℕ) (td ud : List ℤ) : Type 0 where
  pub for_numbers : numbers_size ≤ length res
  pub for_diffs : most_records ≤ length rd
  pub for_moments : m ≤ length moments
  pub for_tk : n ≤ length tk
  pub for_tv : n ≤ length tv
  pub for_tt : n ≤ length tt
  pub for_uv : n ≤ length uv
  pub for_ut : n ≤ length ut
  pub for_td : n ≤ length td
  pub for_ud : n ≤ length ud

long_more : {A : Type 0} (n : ℕ) (ns : List ℕ) (s : List A) (ss : List (List A)) → long_enough (n ∷ ns) (s ∷ ss) ≡ true → (n ≤ length s) × (long_enough ns ss ≡ true)
long_more n ns s ss e = (leb-true n (length s) (and_l (leb n (length s)) (long_enough ns ss) e), and_r (leb n (length s)) (long_enough ns ss) e)

module _ (z : Sizes) (m : Memory) (e : roomy z m ≡ true) where
  abbrev results : Bool
  results = leb numbers_size (length m.numbers) && leb most_records (length m.diffs)

  abbrev numbers_work : Bool
  numbers_work = long_enough z.work m.work

  abbrev diffs_work : Bool
  diffs_work = long_enough z.work_diffs m.work_diffs

  pub room_results : (numbers_size ≤ length m.numbers) × (most_records ≤ length m.diffs)
  unfolding roomy
  room_results =
      let b = and_l results numbers_work (and_l (results && numbers_work) diffs_work e) in (
        leb-true numbers_size (length m.numbers) (and_l (leb numbers_size (length m.numbers)) (leb most_records (length m.diffs)) b),
        leb-true most_records (length m.diffs) (and_r (leb numbers_size (length m.numbers)) (leb most_records (length m.diffs)) b),
      )

  room_work : numbers_work ≡ true
  unfolding roomy
  room_work = and_r results numbers_work (and_l (results && numbers_work) diffs_work e)

  room_work_diffs : diffs_work ≡ true
  unfolding roomy
  room_work_diffs = and_r (results && numbers_work) diffs_work e

pub room_of :
    (mode width : ℕ) (lower upper held : List ℕ) (old new out : Columns) (ks ts res : List ℕ) (rd : List ℤ) (moments tk tv tt uv ut : List ℕ) (td ud : List ℤ)
    → roomy (needed (lent mode width lower upper held old new out ks ts (memory res rd moments tk tv tt uv ut td ud))) (memory res rd moments tk tv tt uv ut td ud) ≡ true
    → Room (column_needed (length old.keys) (length new.keys)) (moments_needed width (length old.keys) new.keys ks) res rd moments tk tv tt uv ut td ud
unfolding needed
room_of mode width lower upper held old new out ks ts res rd moments tk tv tt uv ut td ud e =
    let m = memory res rd moments tk tv tt uv ut td ud in
    let z : Sizes = needed (lent mode width lower upper held old new out ks ts m) in
    let n = column_needed (length old.keys) (length new.keys) in
    let r = room_results z m e in
    let w1 = long_more (moments_needed width (length old.keys) new.keys ks) (n ∷ n ∷ n ∷ n ∷ n ∷ []) moments (tk ∷ tv ∷ tt ∷ uv ∷ ut ∷ []) (room_work z m e) in
    let w2 = long_more n (n ∷ n ∷ n ∷ n ∷ []) tk (tv ∷ tt ∷ uv ∷ ut ∷ []) w1.1 in
    let w3 = long_more n (n ∷ n ∷ n ∷ []) tv (tt ∷ uv ∷ ut ∷ []) w2.1 in
    let w4 = long_more n (n ∷ n ∷ []) tt (uv ∷ ut ∷ []) w3.1 in
    let w5 = long_more n (n ∷ []) uv (ut ∷ []) w4.1 in
    let w6 = long_more n [] ut [] w5.1 in
    let d1 = long_more n (n ∷ []) td (ud ∷ []) (room_work_diffs z m e) in
    let d2 = long_more n [] ud [] d1.1 in
    record {
      for_numbers = r.0;
      for_diffs = r.1;
      for_moments = w1.0;
      for_tk = w2.0;
      for_tv = w3.0;
      for_tt = w4.0;
      for_uv = w5.0;
      for_ut = w6.0;
      for_td = d1.0;
      for_ud = d2.0;
    }

-- ---- what is small enough
pub record Small (q : Request) : Type 0 where
  pub wide : 1 ≤ q.width
  pub narrow : q.width ≤ 64
  pub few_old : length q.old ≤ most_records
  pub few_new : length q.new ≤ most_records
  pub few_out : length q.out ≤ most_records
  pub few_pending : length q.pending ≤ most_records
  pub few_lower : length q.lower ≤ most_times
  pub few_upper : length q.upper ≤ most_times
  pub few_held : length q.held ≤ most_times

pub small_of : (q : Request) → check11 q ≡ true → check12 q ≡ true → Small q
unfolding check11 check12
small_of q e f =
    let mode = eqb q.mode 1 || eqb q.mode 2 in
    let wide = leb 1 q.width in
    let narrow = leb q.width 64 in
    let old = leb (length q.old) most_records in
    let new = leb (length q.new) most_records in
    let out = leb (length q.out) most_records in
    let pending = leb (length q.pending) most_records in
    let e6 = and_l (mode && wide && narrow && old && new && out) pending e in
    let e5 = and_l (mode && wide && narrow && old && new) out e6 in
    let e4 = and_l (mode && wide && narrow && old) new e5 in
    let e3 = and_l (mode && wide && narrow) old e4 in
    let e2 = and_l (mode && wide) narrow e3 in
    let both = and_l (is_frontier q.lower && is_frontier q.upper) (is_frontier q.held) f in
    record {
      wide = leb-true 1 q.width (and_r mode wide e2);
      narrow = leb-true q.width 64 (and_r (mode && wide) narrow e3);
      few_old = leb-true (length q.old) most_records (and_r (mode && wide && narrow) old e4);
      few_new = leb-true (length q.new) most_records (and_r (mode && wide && narrow && old) new e5);
      few_out = leb-true (length q.out) most_records (and_r (mode && wide && narrow && old && new) out e6);
      few_pending = leb-true (length q.pending) most_records (and_r (mode && wide && narrow && old && new && out) pending e);
      few_lower = frontier_length q.lower (and_l (is_frontier q.lower) (is_frontier q.upper) both);
      few_upper = frontier_length q.upper (and_r (is_frontier q.lower) (is_frontier q.upper) both);
      few_held = frontier_length q.held (and_r (is_frontier q.lower && is_frontier q.upper) (is_frontier q.held) f);
    }

pub pairs-length : (ks ts : List ℕ) → length ts ≡ length ks → length (pairs ks ts) ≡ length ks
pairs-length ks ts e = sym (length-map (pairs ks ts) (λ (p : ℕ × ℕ). p.0)) ∙ ap length (pairs_keys ks ts e)

-- ---- the answer of a call
pub retired_retires : {z : Lent → Sizes} {l : Lent} {a : Answer} {r : Outcome} {m' : Memory} → call_lent (z l) l ≡ a → Retired a l.memory r m' → Retires z l r m'
unfolding after
retired_retires {z} {l} {a} {r} {m'} e R = record {
  status_is = rw e R.tells.status_is;
  crossings_are = rw e R.tells.crossings_are;
  tiles-many = rw e R.tells.tiles-many;
  fixes-many = rw e R.tells.fixes-many;
  pending_many = rw e R.tells.pending_many;
  frontier_many = rw e R.tells.frontier_many;
  memory_is = rw e (λ i. record { numbers = R.tells.told.numbers_are i; diffs = R.tells.told.diffs_are i; work = R.work_is i; work_diffs = R.work_diffs_is i });
}
