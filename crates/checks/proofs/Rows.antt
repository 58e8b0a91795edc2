-- Records and columns: a test of the records of a run is a test of its columns, if these are of one length.
--
-- Level: four columns of one length. alike-level: the test says so
-- rows-length, rows-times, rows-diffs, rows_ranks: what the records of such columns are. every_map, every_both, ascending_map: tests of a list
-- level_old, level_new, level_out, level_pending: what `level` says of each
-- verdict-columns: the rules' verdict is the verdict over columns
-- status_lent: the status before work is that of the rules' call, whose memory has the lengths given
use Prim.Native.Nat.{ℕ, suc}
use native.Mathlib.Omega.{arith}
use mathlib.Core.Bool.{Bool, true, false, cond, ◌&&◌, ◌||◌}
use mathlib.Core.List.{List, [], ◌∷◌, ◌++◌, map}
use mathlib.Core.Path.{◌≡◌, refl, sym, ◌∙◌, ap}
use lib.Dec.{leb, ltb, eqb}
use lib.IntN.{ℤ}
use lib.ListN.{length, length-map}
use borrow.Author.Tests.{eqb-true, ne_eqb}
use Rattle.grid.specs.Lists.{every, is_empty, ascending}
use Rattle.grid.specs.Frontiers.{beyond, short_of}
use Rattle.grid.specs.Consolidate.{lex}
use Rattle.grid.specs.Records.{Row, Columns, rows, pairs, most_records, rank, rank_before, before, good_diff, good_run}
use Rattle.grid.proofs.Tests.{by-test, and_l, and_r, and-false}
use Rattle.grid.proofs.Operations.{no_length, pairs-times}
use Rattle.rules.specs.Call.{check11, check12, check13, check14, check15, check16, is_held, check17, quiet, unchanged, verdict}
use Rattle.rules.specs.Memory.{Memory, Sizes, Lent, alike, long_enough, roomy, lent_well, rows_of, request_of, numbers_size}
use Rattle.checks.specs.Checks.{zipped, asked, level, room_for, sized, frontiers, above, in_order, placed, held_at, covered, times_verdict, records_verdict, columns_verdict, sizes_of, lengths_of, status_before_work}
use Rattle.checks.proofs.Ascending.{zipped-length}

-- ---- tests of a list
module _ {A B : Type 0} (f : A → B) where
  every_map : (p : B → Bool) (xs : List A) → every (λ x. p (f x)) xs ≡ every p (map f xs)
  every_map p [] = refl
  every_map p (x ∷ xs) = by-test (p (f x)) (λ e. rw e (every_map p xs)) (λ e. rw e)

  ascending_map : (lt : B → B → Bool) (xs : List A) → ascending (λ x y. lt (f x) (f y)) xs ≡ ascending lt (map f xs)
  ascending_map lt [] = refl
  ascending_map lt (x ∷ []) = refl
  ascending_map lt (x ∷ y ∷ xs) = by-test (lt (f x) (f y)) (λ e. rw e (ascending_map lt (y ∷ xs))) (λ e. rw e)

empty_map : {A B : Type 0} (f : A → B) (xs : List A) → is_empty (map f xs) ≡ is_empty xs
empty_map f [] = refl
empty_map f (x ∷ xs) = refl

every_both : {A : Type 0} (p q : A → Bool) (xs : List A) → every (λ x. p x && q x) xs ≡ (every p xs && every q xs)
every_both p q [] = refl
every_both p q (x ∷ xs) =
    by-test (p x)
    (λ e. by-test (q x) (λ k. rw (e, k) (every_both p q xs)) (λ k. rw (e, k) (sym (and-false (every p xs)))))
    (λ e. rw e)

-- ---- columns of one length
data Level : List ℕ → List ℕ → List ℕ → List ℤ → Type 0 where
  none : Level [] [] [] []
  more : {k v t : ℕ} {d : ℤ} {ks vs ts : List ℕ} {ds : List ℤ} → Level ks vs ts ds → Level (k ∷ ks) (v ∷ vs) (t ∷ ts) (d ∷ ds)

level_of : (ks vs ts : List ℕ) (ds : List ℤ) → length vs ≡ length ks → length ts ≡ length ks → length ds ≡ length ks → Level ks vs ts ds
level_of [] [] [] [] a b c = none
level_of [] (v ∷ vs) ts ds a b c = no_length (length vs) a
level_of [] [] (t ∷ ts) ds a b c = no_length (length ts) b
level_of [] [] [] (d ∷ ds) a b c = no_length (length ds) c
level_of (k ∷ ks) [] ts ds a b c = no_length (length ks) (sym a)
level_of (k ∷ ks) (v ∷ vs) [] ds a b c = no_length (length ks) (sym b)
level_of (k ∷ ks) (v ∷ vs) (t ∷ ts) [] a b c = no_length (length ks) (sym c)
level_of (k ∷ ks) (v ∷ vs) (t ∷ ts) (d ∷ ds) a b c = more (level_of ks vs ts ds (omega (arith, a)) (omega (arith, b)) (omega (arith, c)))

rows-length : {ks vs ts : List ℕ} {ds : List ℤ} → Level ks vs ts ds → length (rows ks vs ts ds) ≡ length ks
rows-length none = refl
rows-length (more l) = ap suc (rows-length l)

rows-times : {ks vs ts : List ℕ} {ds : List ℤ} → Level ks vs ts ds → map (λ (r : Row). r.time) (rows ks vs ts ds) ≡ ts
rows-times none = refl
rows-times (more {t = t} l) = ap (λ r. t ∷ r) (rows-times l)

rows-diffs : {ks vs ts : List ℕ} {ds : List ℤ} → Level ks vs ts ds → map (λ (r : Row). r.diff) (rows ks vs ts ds) ≡ ds
rows-diffs none = refl
rows-diffs (more {d = d} l) = ap (λ r. d ∷ r) (rows-diffs l)

rows_ranks : {ks vs ts : List ℕ} {ds : List ℤ} → Level ks vs ts ds → map rank (rows ks vs ts ds) ≡ zipped ks (zipped vs ts)
unfolding rank
rows_ranks none = refl
rows_ranks (more {k = k} {v = v} {t = t} l) = ap (λ r. (k, (v, t)) ∷ r) (rows_ranks l)

rows_empty : {ks vs ts : List ℕ} {ds : List ℤ} → Level ks vs ts ds → is_empty (rows ks vs ts ds) ≡ is_empty ts
rows_empty none = refl
rows_empty (more l) = refl

-- a run's columns
module _ (c : Columns) where
  abbrev same_values : Bool
  same_values = eqb (length c.values) (length c.keys)

  abbrev same-times : Bool
  same-times = eqb (length c.times) (length c.keys)

  module _ (e : alike c ≡ true) where
    pub alike_values : length c.values ≡ length c.keys
    unfolding alike
    alike_values = eqb-true _ _ (and_l same_values same-times (and_l (same_values && same-times) _ e))

    pub alike-times : length c.times ≡ length c.keys
    unfolding alike
    alike-times = eqb-true _ _ (and_r same_values same-times (and_l (same_values && same-times) _ e))

    alike-level : Level c.keys c.values c.times c.diffs
    unfolding alike
    alike-level = level_of c.keys c.values c.times c.diffs alike_values alike-times (eqb-true _ _ (and_r (same_values && same-times) _ e))

    run_length : length (rows_of c) ≡ length c.keys
    unfolding rows_of
    run_length = rows-length alike-level

    run-times : (p : ℕ → Bool) → every (λ (r : Row). p r.time) (rows_of c) ≡ every p c.times
    unfolding rows_of
    run-times p = every_map (λ (r : Row). r.time) p (rows_of c) ∙ ap (every p) (rows-times alike-level)

    run_good : good_run (rows_of c) ≡ in_order c
    unfolding rows_of good_run before in_order
    run_good =
        let a : ascending before (rows_of c) ≡ ascending rank_before (zipped c.keys (zipped c.values c.times)) =
        ascending_map rank rank_before (rows_of c) ∙ ap (ascending rank_before) (rows_ranks alike-level) in
        let b : every (λ (r : Row). good_diff r.diff) (rows_of c) ≡ every good_diff c.diffs =
        every_map (λ (r : Row). r.diff) good_diff (rows_of c) ∙ ap (every good_diff) (rows-diffs alike-level) in
        (λ i. a i && b i)

    run_empty : is_empty (rows_of c) ≡ is_empty c.times
    unfolding rows_of
    run_empty = rows_empty alike-level

-- ---- a pending list's columns
pub empty_length : {A : Type 0} (xs : List A) → eqb (length xs) 0 ≡ is_empty xs
empty_length [] = refl
empty_length (x ∷ xs) = ne_eqb (length (x ∷ xs)) 0 (λ e. omega arith)

pairs-zipped : (ks ts : List ℕ) → pairs ks ts ≡ zipped ks ts
pairs-zipped [] ts = refl
pairs-zipped (k ∷ ks) [] = refl
pairs-zipped (k ∷ ks) (t ∷ ts) = ap (λ r. (k, t) ∷ r) (pairs-zipped ks ts)

module _ (ks ts : List ℕ) (e : length ts ≡ length ks) where
  pending_length : length (pairs ks ts) ≡ length ks
  pending_length = ap length (pairs-zipped ks ts) ∙ zipped-length ks ts e

  pending_times_lem : (p : ℕ → Bool) → every (λ (x : ℕ × ℕ). p x.1) (pairs ks ts) ≡ every p ts
  pending_times_lem p = every_map (λ (x : ℕ × ℕ). x.1) p (pairs ks ts) ∙ ap (every p) (pairs-times ks ts e)

  pending_empty : is_empty (pairs ks ts) ≡ is_empty ts
  pending_empty = sym (empty_map (λ (x : ℕ × ℕ). x.1) (pairs ks ts)) ∙ ap is_empty (pairs-times ks ts e)

-- ---- all columns
regroup : (m a b p q r s : Bool) → (m && a && b && p && q && r && s) ≡ ((m && (a && b)) && (p && q && r && s))
regroup true true true p q r s = refl
regroup true true false p q r s = refl
regroup true false b p q r s = refl
regroup false a b p q r s = refl

module _ (old new out : Columns) (ks ts : List ℕ) (e : level old new out ks ts ≡ true) where
  level-runs : (alike old && alike new && alike out) ≡ true
  unfolding level
  level-runs = and_l (alike old && alike new && alike out) _ e

  pub level_old : alike old ≡ true
  level_old = and_l (alike old) (alike new) (and_l (alike old && alike new) (alike out) level-runs)

  pub level_new : alike new ≡ true
  level_new = and_r (alike old) (alike new) (and_l (alike old && alike new) (alike out) level-runs)

  pub level_out : alike out ≡ true
  level_out = and_r (alike old && alike new) (alike out) level-runs

  pub level_pending : length ts ≡ length ks
  unfolding level
  level_pending = eqb-true (length ts) (length ks) (and_r (alike old && alike new && alike out) (eqb (length ts) (length ks)) e)

  module _ (mode width : ℕ) (lower upper held : List ℕ) where
    asked_11 : check11 (asked mode width lower upper held old new out ks ts) ≡ sized mode width (length old.keys) (length new.keys) (length out.keys) (length ks)
    unfolding check11 asked sized
    asked_11 =
        rw (run_length old level_old, run_length new level_new, run_length out level_out, pending_length ks ts level_pending)
        (regroup (eqb mode 1 || eqb mode 2) (leb 1 width) (leb width 64) (leb (length old.keys) most_records) (leb (length new.keys) most_records) (leb (length out.keys) most_records) (leb (length ks) most_records))

    asked_14 : check14 (asked mode width lower upper held old new out ks ts) ≡ (in_order old && in_order new && in_order out)
    unfolding check14 asked
    asked_14 = rw (run_good old level_old, run_good new level_new, run_good out level_out)

    asked_15 : check15 (asked mode width lower upper held old new out ks ts) ≡ ascending (lex ltb ltb) (zipped ks ts)
    unfolding check15 asked
    asked_15 = rw (pairs-zipped ks ts)

    asked_16 : check16 (asked mode width lower upper held old new out ks ts) ≡ placed lower upper old.times new.times out.times ts
    unfolding check16 asked placed
    asked_16 =
        rw (
          run-times old level_old (short_of lower),
          run-times out level_out (short_of lower),
          run-times new level_new (λ t. beyond lower t && short_of upper t),
          every_both (beyond lower) (short_of upper) new.times,
          pending_times_lem ks ts level_pending (beyond lower),
        )

    asked_17 : check17 (asked mode width lower upper held old new out ks ts) ≡ covered upper held new.times ts
    unfolding check17 asked covered is_held held_at
    asked_17 = rw (run-times new level_new (held_at upper held), pending_times_lem ks ts level_pending (held_at upper held))

    asked_2 : unchanged (asked mode width lower upper held old new out ks ts) ≡ (is_empty new.times && is_empty ts)
    unfolding unchanged asked
    asked_2 = rw (run_empty new level_new, pending_empty ks ts level_pending)

    pub verdict-columns : verdict (asked mode width lower upper held old new out ks ts) ≡ columns_verdict mode width lower upper held old new out ks ts
    unfolding verdict columns_verdict records_verdict times_verdict check12 check13 quiet asked frontiers above
    verdict-columns = rw (asked_11, asked_14, asked_15, asked_16, asked_17, asked_2)

-- ---- with the memory
room_append : (ns ms ls ks : List ℕ) → length ls ≡ length ns → room_for (ns ++ ms) (ls ++ ks) ≡ (room_for ns ls && room_for ms ks)
room_append [] ms [] ks e = refl
room_append [] ms (l ∷ ls) ks e = no_length (length ls) e
room_append (n ∷ ns) ms [] ks e = no_length (length ns) (sym e)
room_append (n ∷ ns) ms (l ∷ ls) ks e = by-test (leb n l) (λ k. rw k (room_append ns ms ls ks (omega (arith, e)))) (λ k. rw k)

room_slices : {A : Type 0} (ns : List ℕ) (ss : List (List A)) → room_for ns (map length ss) ≡ long_enough ns ss
room_slices [] ss = refl
room_slices (n ∷ ns) [] = refl
room_slices (n ∷ ns) (s ∷ ss) = by-test (leb n (length s)) (λ k. rw k (room_slices ns ss)) (λ k. rw k)

and_right : (a b c d : Bool) → (a && (b && (c && d))) ≡ (a && b && c && d)
and_right true b c d = and_three b c d
  where
    and_three : (x y z : Bool) → (x && (y && z)) ≡ (x && y && z)
    and_three true y z = refl
    and_three false y z = refl
and_right false b c d = refl

memory_room : (z : Sizes) (m : Memory) → length m.work ≡ length z.work → room_for (sizes_of z) (lengths_of m) ≡ roomy z m
unfolding sizes_of lengths_of roomy
memory_room z m e =
    rw (
      room_append z.work z.work_diffs (map length m.work) (map length m.work_diffs) (length-map m.work length ∙ e),
      room_slices z.work m.work,
      room_slices z.work_diffs m.work_diffs,
    )
    (and_right (leb numbers_size (length m.numbers)) (leb most_records (length m.diffs)) (long_enough z.work m.work) (long_enough z.work_diffs m.work_diffs))

-- ---- the status before work
module _ (mode width : ℕ) (lower upper held : List ℕ) (old new out : Columns) (ks ts sizes lengths : List ℕ) where
  pub status_unequal : level old new out ks ts ≡ false → 11 ≡ status_before_work mode width lower upper held old new out ks ts sizes lengths
  unfolding status_before_work
  status_unequal e = rw e

  pub status_short : level old new out ks ts ≡ true → room_for sizes lengths ≡ false → 11 ≡ status_before_work mode width lower upper held old new out ks ts sizes lengths
  unfolding status_before_work
  status_short e k = rw (e, k)

  pub status_verdict : {r : ℕ} → level old new out ks ts ≡ true → room_for sizes lengths ≡ true → r ≡ columns_verdict mode width lower upper held old new out ks ts → r ≡ status_before_work mode width lower upper held old new out ks ts sizes lengths
  unfolding status_before_work
  status_verdict e k v = rw (e, k, verdict-columns old new out ks ts e mode width lower upper held) v

-- The number of work slices is fixed, so a call lends as many as there are sizes.
pub status_lent : (z : Sizes) (l : Lent) → length l.memory.work ≡ length z.work
    → status_before_work l.mode l.width l.lower l.upper l.held l.old l.new l.out l.pending_keys l.pending_times (sizes_of z) (lengths_of l.memory)
    ≡ cond (lent_well z l) (verdict (request_of l)) 11
unfolding status_before_work lent_well level asked request_of
status_lent z l e = rw (memory_room z l.memory e)
