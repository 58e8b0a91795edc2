-- What memory holds after a call.
--
-- Fits, call_fits, lent_fits: results fit into result memory. call_frontier: the next frontier is one
-- padded_length, tile-length, tiles-numbers: how long the results' columns are
-- memory_untouched: at 11 to 17. work_cleared, work_diffs_cleared: work memory at the others. Cleared, lent_cleared: at 18 and 19
-- SameLengths, lent_lengths: a call changes no slice's length
-- lent_well_lem, lent_ill, lent-row_11: a lent call is answered as its request is, or with 11
use Prim.Native.Nat.{ℕ, ◌+◌, ◌*◌, ◌-◌, ◌≤◌, ◌<◌}
use mathlib.Core.Bool.{Bool, true, false, ◌&&◌, ◌||◌, not}
use mathlib.Core.List.{List, [], ◌++◌, map, map-id, map-map}
use mathlib.Core.Logic.{◌↔◌}
use mathlib.Core.Path.{◌≡◌, refl, ◌∙◌, ap}
use native.Mathlib.Nat.{sub-zero}
use native.Mathlib.Omega.{arith}
use lib.Dec.{eqb, leb, ltb}
use lib.ListN.{length, replicate, length-append, length-map, length-replicate, replicate-append-replicate}
use lib.IntN.{pos}
use borrow.Author.Tests.{eqb-true, eqb-false, le-leb, lt-leb, leb-true, ltb-false}
use Rattle.grid.specs.Lists.{any, flat, padded}
use Rattle.grid.proofs.Tests.{by-test, and_l, and_r, or_false_l, or_false_r, and_i}
use Rattle.grid.proofs.Frontiers.{true_antichain, minimal-antichain}
use Rattle.grid.proofs.Lists.{All, nil, cons}
use Rattle.grid.specs.Frontiers.{most_times, antichain, is_frontier, minimal}
use Rattle.grid.specs.Records.{most_records, in_range}
use Rattle.rules.specs.Tiles.{Tile}
use Rattle.rules.proofs.Tiles.{Bounded, frontier_length, tiles-length, tiles_bounds}
use Rattle.rules.specs.Call.{Request, Answer, Fix, Done, check11, check12, work_all, pended_all, too_many, too_large, refused, quiet_answer, call}
use Rattle.rules.specs.Memory.{Memory, Sizes, Lent, most_bound, tile_size, numbers_size, alike, long_enough, roomy, lent_well, request_of, call_lent, tile_numbers, numbers, diffs, leaves, after}
use Rattle.rules.proofs.Statuses.{Accepted, fixes_found, call_rows, call_limits, call-worked, call-quiet, call-refused}

-- ---- what is found fits
-- "Result memory holds 4,096 corrections, 4,096 pending entries, 16 tiles with bounds of up to 31 times, 16 frontier times."
pub record Fits (a : Answer) : Type 0 where
  pub fixes_fit : length a.fixes ≤ most_records
  pub pending_fits : length a.pending ≤ most_records
  pub tiles_fit : length a.tiles ≤ most_times
  pub bounds_fit : All (Bounded most_bound) a.tiles
  pub frontier_fits : length a.frontier ≤ most_times

fixes_few : (fs : List Fix) → too_large fs ≡ false → length fs ≤ most_records
unfolding too_large
fixes_few fs e = ltb-false most_records (length fs) (or_false_r (any (λ (f : Fix). not (in_range f.row.diff)) fs) _ e)

module _ (ds : List Done) (e : too_many ds ≡ false) where
  pended_few : length (pended_all ds) ≤ most_records
  unfolding too_many
  pended_few = ltb-false most_records (length (pended_all ds)) (or_false_r (any (λ (d : Done). d.found.over) ds) _ (or_false_l (any (λ (d : Done). d.found.over) ds || ltb most_records (length (pended_all ds))) _ e))

  frontier_few : length (minimal (map (λ p. p.1) (pended_all ds))) ≤ most_times
  unfolding too_many
  frontier_few = ltb-false most_times (length (minimal (map (λ p. p.1) (pended_all ds)))) (or_false_r (any (λ (d : Done). d.found.over) ds || ltb most_records (length (pended_all ds))) _ e)

pending_few : (q : Request) → check11 q ≡ true → length q.pending ≤ most_records
unfolding check11
pending_few q e =
    leb-true (length q.pending) most_records
    (and_r ((eqb q.mode 1 || eqb q.mode 2) && leb 1 q.width && leb q.width 64
    && leb (length q.old) most_records && leb (length q.new) most_records && leb (length q.out) most_records) _ e)

module _ (q : Request) where
  frontiers : check12 q ≡ true → (is_frontier q.lower ≡ true) × (is_frontier q.upper ≡ true) × (is_frontier q.held ≡ true)
  unfolding check12
  frontiers e =
      let f = and_l (is_frontier q.lower && is_frontier q.upper) _ e in
      (and_l (is_frontier q.lower) _ f, and_r (is_frontier q.lower) _ f, and_r (is_frontier q.lower && is_frontier q.upper) _ e)

  worked_fits : (call q).status ≡ 0 → Fits (call q)
  worked_fits e =
      let w = call-worked q e in
      let k = (call_limits q).row_0.0 e in
      let f = frontiers k.0.accepted.holds_12 in
      record {
        fixes_fit = rw w.fixes_are (fixes_few (fixes_found q) k.2);
        pending_fits = rw w.pending_is (pended_few (work_all q) k.1);
        tiles_fit = rw w.tiles_are (omega (arith, tiles-length q.lower q.upper q.held, frontier_length q.held f.2));
        bounds_fit = rw w.tiles_are (tiles_bounds q.lower q.upper q.held f.0 f.1 f.2);
        frontier_fits = rw w.frontier_is (frontier_few (work_all q) k.1);
      }

  quiet_fits : Accepted q → Fits (quiet_answer q)
  unfolding quiet_answer
  quiet_fits a = record {
    fixes_fit = omega arith;
    pending_fits = pending_few q a.holds_11;
    tiles_fit = omega arith;
    bounds_fit = nil;
    frontier_fits = frontier_length q.held (frontiers a.holds_12).2;
  }

  refused_fits : (n : ℕ) → Fits (refused n)
  unfolding refused
  refused_fits n = record { fixes_fit = omega arith; pending_fits = omega arith; tiles_fit = omega arith; bounds_fit = nil; frontier_fits = omega arith }

  pub call_fits : Fits (call q)
  call_fits =
      by-test (eqb (call q).status 0) (λ e. worked_fits (eqb-true _ _ e))
      (λ e. by-test (eqb (call q).status 1) (λ k. let e1 = eqb-true _ _ k in rw (call-quiet q e1) (quiet_fits ((call_rows q).row_1.0 e1).0))
      (λ k. rw (call-refused q (omega (arith, eqb-false (call q).status 0 e, eqb-false (call q).status 1 k))) (refused_fits (call q).status)))

-- the next frontier is one, at every status
pub call_frontier : (q : Request) → is_frontier (call q).frontier ≡ true
unfolding is_frontier antichain quiet_answer refused
call_frontier q =
    by-test (eqb (call q).status 0)
    (λ e. and_i (leb (length (call q).frontier) most_times) (antichain (call q).frontier) (le-leb _ most_times (call_fits q).frontier_fits) (rw (call-worked q (eqb-true _ _ e)).frontier_is (true_antichain (minimal-antichain _))))
    (λ e. by-test (eqb (call q).status 1)
    (λ k. let one = eqb-true _ _ k in rw (call-quiet q one) (frontiers q ((call_rows q).row_1.0 one).0.holds_12).2)
    (λ k. rw (call-refused q (omega (arith, eqb-false (call q).status 0 e, eqb-false (call q).status 1 k)))))

pub padded_length : {A : Type 0} (z : A) (n : ℕ) (xs : List A) → length xs ≤ n → length (padded z n xs) ≡ n
padded_length z n xs h = rw (length-append xs (replicate (n - length xs) z), length-replicate (n - length xs) z) (omega arith)

pub tile-length : (t : Tile) → Bounded most_bound t → length (tile_numbers t) ≡ tile_size
unfolding tile_numbers
tile-length t b = simp (length-append, length-replicate) (omega arith)

pub tiles-numbers : {ts : List Tile} → All (Bounded most_bound) ts → length (flat tile_numbers ts) ≡ length ts * tile_size
tiles-numbers nil = refl
tiles-numbers (cons {x = t} {xs = ts} b h) = rw (length-append (tile_numbers t) (flat tile_numbers ts)) (omega (arith, tile-length t b, tiles-numbers h))

numbers-count : (a : Answer) → Fits a → length (numbers a) ≡ numbers_size
unfolding numbers
numbers-count a f =
    let t = tiles-numbers f.bounds_fit in
    simp (length-append, length-map, length-replicate) (omega arith)

-- ---- memory
-- 11 to 17: "untouched"
leaves_untouched : {A : Type 0} (z : A) (status : ℕ) (slice results : List A) → 11 ≤ status → status ≤ 17 → leaves z status slice results ≡ slice
unfolding leaves
leaves_untouched z status slice results h k = rw (le-leb 11 status h, le-leb status 17 k)

pub memory_untouched : (a : Answer) (m : Memory) → 11 ≤ a.status → a.status ≤ 17 → after a m ≡ m
unfolding after
memory_untouched a m h k =
    let n = leaves_untouched 0 a.status m.numbers (numbers a) h k in
    let d = leaves_untouched (pos 0) a.status m.diffs (diffs a) h k in
    let w = ap (λ f. map f m.work) (λ i s. leaves_untouched 0 a.status s [] h k i) ∙ map-id m.work in
    let v = ap (λ f. map f m.work_diffs) (λ i s. leaves_untouched (pos 0) a.status s [] h k i) ∙ map-id m.work_diffs in
    λ i. record { numbers = n i; diffs = d i; work = w i; work_diffs = v i }

padded_zeros : {A : Type 0} (z : A) (j k : ℕ) → j ≤ k → padded z k (replicate j z) ≡ replicate k z
padded_zeros z j k h =
    let e : j + (k - j) ≡ k = omega arith in
    rw (length-replicate j z, replicate-append-replicate j (k - j) z, e)

leaves_zeros : {A : Type 0} (z : A) (status : ℕ) (j : ℕ) (slice : List A) → (leb 11 status && leb status 17) ≡ false → j ≤ length slice → leaves z status slice (replicate j z) ≡ replicate (length slice) z
unfolding leaves
leaves_zeros z status j slice e h = rw e (padded_zeros z j (length slice) h)

module _ (a : Answer) (m : Memory) (e : (leb 11 a.status && leb a.status 17) ≡ false) where
  pub work_cleared : (after a m).work ≡ map (λ s. replicate (length s) 0) m.work
  unfolding after
  work_cleared = λ i. map (λ s. leaves_zeros 0 a.status 0 s e (omega arith) i) m.work

  pub work_diffs_cleared : (after a m).work_diffs ≡ map (λ s. replicate (length s) (pos 0)) m.work_diffs
  unfolding after
  work_diffs_cleared = λ i. map (λ s. leaves_zeros (pos 0) a.status 0 s e (omega arith) i) m.work_diffs

-- "'Cleared' is all zero over the whole result and work memory."
pub record Cleared (m n : Memory) : Type 0 where
  pub zero-numbers : n.numbers ≡ replicate (length m.numbers) 0
  pub zero-diffs : n.diffs ≡ replicate (length m.diffs) (pos 0)
  pub zero-work : n.work ≡ map (λ s. replicate (length s) 0) m.work
  pub zero_work_diffs : n.work_diffs ≡ map (λ s. replicate (length s) (pos 0)) m.work_diffs

eight-zeros :
    {A : Type 0} (z : A) (a b c d e f g h : ℕ)
    → padded z a [] ++ padded z b [] ++ padded z c [] ++ padded z d [] ++ padded z e [] ++ padded z f [] ++ padded z g [] ++ padded z h []
    ≡ replicate (a + b + c + d + e + f + g + h) z
eight-zeros z a b c d e f g h = simp (sub-zero, replicate-append-replicate)

numbers-refused : (n : ℕ) → numbers (refused n) ≡ replicate numbers_size 0
unfolding numbers refused
numbers-refused n = eight-zeros 0 most_records most_records most_records most_records most_records most_records (most_times * tile_size) most_times

module _ (z : Sizes) (m : Memory) (r : roomy z m ≡ true) where
  abbrev long : Bool
  long = leb numbers_size (length m.numbers) && leb most_records (length m.diffs)

  roomy_both : long ≡ true
  unfolding roomy
  roomy_both = and_l long _ (and_l (long && long_enough z.work m.work) _ r)

  roomy-numbers : numbers_size ≤ length m.numbers
  roomy-numbers = leb-true numbers_size (length m.numbers) (and_l _ _ roomy_both)

  roomy-diffs : most_records ≤ length m.diffs
  roomy-diffs = leb-true most_records (length m.diffs) (and_r (leb numbers_size (length m.numbers)) _ roomy_both)

memory_cleared : (n : ℕ) (z : Sizes) (m : Memory) → 17 < n → roomy z m ≡ true → Cleared m (after (refused n) m)
unfolding after refused diffs
memory_cleared n z m h r =
    let e : (leb 11 n && leb n 17) ≡ false = rw (lt-leb n 17 h, le-leb 11 n (omega arith)) in
    record {
      zero-numbers = ap (leaves 0 n m.numbers) (numbers-refused n) ∙ leaves_zeros 0 n numbers_size m.numbers e (roomy-numbers z m r);
      zero-diffs = leaves_zeros (pos 0) n 0 m.diffs e (omega arith);
      zero-work = work_cleared (refused n) m e;
      zero_work_diffs = work_diffs_cleared (refused n) m e;
    }

-- a slice stays as long as it is
pub record SameLengths (m n : Memory) : Type 0 where
  pub numbers-length : length n.numbers ≡ length m.numbers
  pub diffs-length : length n.diffs ≡ length m.diffs
  pub work_lengths : map length n.work ≡ map length m.work
  pub work_diffs_lengths : map length n.work_diffs ≡ map length m.work_diffs

leaves-length : {A : Type 0} (z : A) (status : ℕ) (slice results : List A) → length results ≤ length slice → length (leaves z status slice results) ≡ length slice
unfolding leaves
leaves-length z status slice results h = by-test (leb 11 status && leb status 17) (λ e. rw e) (λ e. rw e (padded_length z (length slice) results h))

all_lengths : {A : Type 0} (z : A) (status : ℕ) (ss : List (List A)) → map length (map (λ s. leaves z status s []) ss) ≡ map length ss
all_lengths z status ss = map-map length (λ s. leaves z status s []) ss ∙ (λ i. map (λ s. leaves-length z status s [] (omega arith) i) ss)

memory_lengths : (a : Answer) (z : Sizes) (m : Memory) → Fits a → roomy z m ≡ true → SameLengths m (after a m)
unfolding after diffs
memory_lengths a z m f r = record {
  numbers-length = leaves-length 0 a.status m.numbers (numbers a) (rw (numbers-count a f) (roomy-numbers z m r));
  diffs-length = leaves-length (pos 0) a.status m.diffs (diffs a) (rw (length-map a.fixes (λ (f : Fix). f.row.diff)) (omega (arith, f.fixes_fit, roomy-diffs z m r)));
  work_lengths = all_lengths 0 a.status m.work;
  work_diffs_lengths = all_lengths (pos 0) a.status m.work_diffs;
}

module _ (z : Sizes) (l : Lent) where
  pub lent_well_lem : lent_well z l ≡ true → call_lent z l ≡ call (request_of l)
  unfolding call_lent
  lent_well_lem e = rw e

  pub lent_ill : lent_well z l ≡ false → call_lent z l ≡ refused 11
  unfolding call_lent
  lent_ill e = rw e

  pub lent_fits : Fits (call_lent z l)
  lent_fits =
      by-test (lent_well z l) (λ e. rw (lent_well_lem e) (call_fits (request_of l)))
      (λ e. rw (lent_ill e) (refused_fits (request_of l) 11))

  lent-roomy : lent_well z l ≡ true → roomy z l.memory ≡ true
  unfolding lent_well
  lent-roomy e = and_r (alike l.old && alike l.new && alike l.out && eqb (length l.pending_times) (length l.pending_keys)) (roomy z l.memory) e

  -- the whole row 11, with the columns and the memory
  pub lent-row_11 : ((call_lent z l).status ≡ 11) ↔ ((lent_well z l && check11 (request_of l)) ≡ false)
  unfolding refused
  lent-row_11 =
      by-test (lent_well z l) (λ e. rw (lent_well_lem e, e) (call_rows (request_of l)).row_11)
      (λ e. rw (lent_ill e, e) (λ _. refl, λ _. refl))

  -- 18 and 19: "cleared"
  pub lent_cleared : 17 < (call_lent z l).status → Cleared l.memory (after (call_lent z l) l.memory)
  unfolding refused
  lent_cleared h =
      by-test (lent_well z l)
      (λ e. let q = lent_well_lem e in
      let h' : 17 < (call (request_of l)).status = rw q at h in
      rw (q, call-refused (request_of l) (omega arith)) (memory_cleared _ z l.memory h' (lent-roomy e)))
      (λ e. let h' : 17 < 11 = rw (lent_ill e) at h in absurd (omega arith))

  pub lent_lengths : SameLengths l.memory (after (call_lent z l) l.memory)
  unfolding refused
  lent_lengths =
      by-test (lent_well z l) (λ e. rw (lent_well_lem e) (memory_lengths (call (request_of l)) z l.memory (call_fits (request_of l)) (lent-roomy e)))
      (λ e. rw (lent_ill e, memory_untouched (refused 11) l.memory (omega arith) (omega arith))
      (record { numbers-length = refl; diffs-length = refl; work_lengths = refl; work_diffs_lengths = refl }))
