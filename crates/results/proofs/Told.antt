-- The answer in result memory.
--
-- tiles_given, fixes_given, lists_given: what publish_tiles, publish_fixes and publish_lists take. answer-laid: an answer's lists, laid over zeros. worked-told, quiet_told, nothing_told: what publish, publish_quiet and publish_nothing say
use Prim.Native.Nat.{ℕ, ◌*◌, ◌-◌, ◌≤◌}
use native.Mathlib.Omega.{arith}
use native.Mathlib.Nat.{add-zero, sub-zero}
use mathlib.Core.Bool.{false, ◌&&◌}
use mathlib.Core.List.{List, [], ◌∷◌, ◌++◌, map}
use mathlib.Core.Path.{◌≡◌, refl, sym, ◌∙◌, ap}
use lib.Dec.{leb}
use lib.IntN.{ℤ, pos}
use lib.ListN.{length, take, drop, replicate, length-map, take-append-drop}
use lib.Seq.{length-take-le}
use Rattle.grid.specs.Lists.{padded, flat}
use Rattle.grid.specs.Frontiers.{most_times}
use Rattle.grid.specs.Records.{Row, most_records, rows, pairs}
use Rattle.grid.proofs.Sort.{length_sort}
use Rattle.grid.proofs.Operations.{pairs_keys, pairs-times, pairs-length}
use Rattle.rules.specs.Tiles.{tiles, tile_of}
use Rattle.rules.specs.Call.{Fix, Answer, refused, quiet_answer}
use Rattle.rules.specs.Memory.{tile_size, numbers_size, tile_numbers, numbers, diffs, leaves}
use Rattle.arranging.specs.Arranged.{fixes}
use Rattle.placing.specs.Parts.{laid_at, tiles_at, fixes_laid, lists_laid, Wide, Zeros}
use Rattle.placing.specs.Placed.{Few, TilesTold}
use Rattle.results.specs.Sorted.{sorted_fixes, FirstFixes, FixesTold}
use Rattle.results.specs.Told.{placed, published, Ready, Published, Quiet, QuietTold, NothingTold}
use Rattle.placing.proofs.Parts.{first-length}
use Rattle.results.proofs.Filled.{laid-first, memory_filled}
use Rattle.placing.proofs.Placed.{numbers_short}

-- ---- columns of records, of pairs
rows-length : (ks vs ts : List ℕ) (ds : List ℤ) → length ks ≡ length ts → length vs ≡ length ts → length ds ≡ length ts → length (rows ks vs ts ds) ≡ length ts
rows-length [] vs [] ds p q u = refl
rows-length [] vs (t ∷ ts) ds p q u = absurd (omega arith)
rows-length (k ∷ ks) vs [] ds p q u = absurd (omega arith)
rows-length (k ∷ ks) [] (t ∷ ts) ds p q u = absurd (omega arith)
rows-length (k ∷ ks) (v ∷ vs) (t ∷ ts) [] p q u = absurd (omega arith)
rows-length (k ∷ ks) (v ∷ vs) (t ∷ ts) (d ∷ ds) p q u = omega (arith, rows-length ks vs ts ds (omega arith) (omega arith) (omega arith))

-- a tile beside each record's time
fixes_beside : (f : ℕ → ℕ) (ks vs ts : List ℕ) (ds : List ℤ) → fixes (map f ts) ks vs ts ds ≡ map (λ (r : Row). record { tile = f r.time; row = r }) (rows ks vs ts ds)
fixes_beside f [] vs [] ds = refl
fixes_beside f [] vs (t ∷ ts) ds = refl
fixes_beside f (k ∷ ks) [] [] ds = refl
fixes_beside f (k ∷ ks) [] (t ∷ ts) ds = refl
fixes_beside f (k ∷ ks) (v ∷ vs) [] ds = refl
fixes_beside f (k ∷ ks) (v ∷ vs) (t ∷ ts) [] = refl
fixes_beside f (k ∷ ks) (v ∷ vs) (t ∷ ts) (d ∷ ds) = ap (λ l. record { tile = f t; row = record { key = k; value = v; time = t; diff = d } } ∷ l) (fixes_beside f ks vs ts ds)

-- ---- the results
-- where memory is written
leaves_written : {A : Type 0} (z : A) (status : ℕ) (s xs : List A) → (leb 11 status && leb status 17) ≡ false → leaves z status s xs ≡ padded z (length s) xs
unfolding leaves
leaves_written z status s xs e = rw e

-- the lists of an answer, laid over zeros
answer-laid : (a : Answer) (size : ℕ) → numbers_size ≤ size → length a.fixes ≤ most_records → length a.pending ≤ most_records → length (flat tile_numbers a.tiles) ≤ most_times * tile_size → length a.frontier ≤ most_times
    → lists_laid (map (λ p. p.0) a.pending) (map (λ p. p.1) a.pending) a.frontier (fixes_laid a.fixes (laid_at tiles_at (flat tile_numbers a.tiles) (replicate size 0))) ≡ padded 0 size (numbers a)
unfolding lists_laid fixes_laid numbers
answer-laid a size h f p t g =
    memory_filled size h
    (map (λ (f : Fix). f.tile) a.fixes)
    (map (λ (f : Fix). f.row.key) a.fixes)
    (map (λ (f : Fix). f.row.value) a.fixes)
    (map (λ (f : Fix). f.row.time) a.fixes)
    (map (λ p. p.0) a.pending)
    (map (λ p. p.1) a.pending)
    (flat tile_numbers a.tiles)
    a.frontier
    (rw (length-map a.fixes (λ (f : Fix). f.tile)) f)
    (rw (length-map a.fixes (λ (f : Fix). f.row.key)) f)
    (rw (length-map a.fixes (λ (f : Fix). f.row.value)) f)
    (rw (length-map a.fixes (λ (f : Fix). f.row.time)) f)
    (rw (length-map a.pending (λ p. p.0)) p)
    (rw (length-map a.pending (λ p. p.1)) p)
    t
    g

module _ {keys values times : List ℕ} {diffs : List ℤ} {n : ℕ} {pendkeys pendtimes : List ℕ} {m : ℕ} {frontier lower upper held out places work res : List ℕ} {rd : List ℤ}
    (g : Ready keys values times diffs n pendkeys pendtimes m frontier lower upper held out places work res rd) where
  abbrev corrections : List Row
  corrections = rows (take n keys) (take n values) (take n times) (take n diffs)

  abbrev found : List Fix
  found = sorted_fixes (placed held (tiles lower upper held) corrections)

  abbrev pended : List (ℕ × ℕ)
  pended = pairs (take m pendkeys) (take m pendtimes)

  found_length : length found ≡ n
  unfolding placed
  found_length =
      let k = length-take-le n keys g.in_keys in
      let v = length-take-le n values g.in_values in
      let t = length-take-le n times g.in_times in
      let d = length-take-le n diffs g.in_diffs in
      length_sort _ (placed held (tiles lower upper held) corrections) ∙ length-map corrections _ ∙ rows-length (take n keys) (take n values) (take n times) (take n diffs) (k ∙ sym t) (v ∙ sym t) (d ∙ sym t) ∙ t

  alike : length (take m pendtimes) ≡ length (take m pendkeys)
  alike = length-take-le m pendtimes g.in_pendtimes ∙ sym (length-take-le m pendkeys g.in_pendkeys)

  pended_length : length pended ≡ m
  pended_length = pairs-length (take m pendkeys) (take m pendtimes) alike ∙ length-take-le m pendkeys g.in_pendkeys

  pub tiles_given : (s : List ℕ) → length s ≡ length res → Few lower upper held times n out s
  tiles_given s e = record {
    few_lower = g.few_lower;
    few_upper = g.few_upper;
    few_held = g.few_held;
    in_times = g.in_times;
    room_out = g.room_out;
    wide_numbers = omega (arith, g.wide_numbers);
  }

  pub fixes_given : (o s : List ℕ) (d : List ℤ) → length o ≡ length out → length s ≡ length res → length d ≡ length rd → FirstFixes o keys values times diffs n places work s d
  fixes_given o s d p q r = record {
    few = g.few_fixes;
    in_tiles = omega (arith, g.room_out);
    in_keys = g.in_keys;
    in_values = g.in_values;
    in_times = g.in_times;
    in_diffs = g.in_diffs;
    room_places = g.room_places;
    room_work = g.room_work;
    wide = record { wide_numbers = omega (arith, g.wide_numbers); wide_diffs = omega (arith, g.wide_diffs) };
  }

  pub lists_given : {size : ℕ} → size ≡ length res
      → ((length (take m pendkeys) ≤ most_records) × (length (take m pendtimes) ≤ most_records)) × ((length frontier ≤ most_times) × (numbers_size ≤ size))
  lists_given e =
      ((omega (arith, length-take-le m pendkeys g.in_pendkeys, g.few_pending), omega (arith, length-take-le m pendtimes g.in_pendtimes, g.few_pending)), (g.few_frontier, omega (arith, g.wide_numbers)))

  numbers_few : length (flat tile_numbers (tiles lower upper held)) ≤ most_times * tile_size
  numbers_few = omega (arith, numbers_short upper lower held (omega (arith, g.few_lower)) (omega (arith, g.few_upper, g.few_held)), g.few_held)

  module _ {beside res₀ res₁ res₂ res' : List ℕ} {rd₀ rd' : List ℤ} {r : ℕ} (z : Zeros res res₀ rd rd₀) (t : TilesTold lower upper held (take n times) beside res₀ res₁ r)
      (f : FixesTold beside (take n keys) (take n values) (take n times) (take n diffs) res₁ res₂ rd₀ rd') (l : res' ≡ lists_laid (take m pendkeys) (take m pendtimes) frontier res₂) where
    fixes_are : fixes beside (take n keys) (take n values) (take n times) (take n diffs) ≡ placed held (tiles lower upper held) corrections
    unfolding placed
    fixes_are =
        ap (λ o. fixes o (take n keys) (take n values) (take n times) (take n diffs)) t.places_are
        ∙ fixes_beside (tile_of held (tiles lower upper held)) (take n keys) (take n values) (take n times) (take n diffs)

    laid : res' ≡ lists_laid (map (λ p. p.0) pended) (map (λ p. p.1) pended) frontier (fixes_laid found (laid_at tiles_at (flat tile_numbers (tiles lower upper held)) (replicate (length res) 0)))
    laid =
        l
        ∙ (λ i. lists_laid (sym (pairs_keys (take m pendkeys) (take m pendtimes) alike) i) (sym (pairs-times (take m pendkeys) (take m pendtimes) alike) i) frontier
        ((f.columns_are ∙ (λ j. fixes_laid (sorted_fixes (fixes_are j)) ((t.tiles_are ∙ ap (laid_at tiles_at (flat tile_numbers (tiles lower upper held))) z.zero-numbers) j))) i))

    pub worked-told : Published (take n keys) (take n values) (take n times) (take n diffs) (take m pendkeys) (take m pendtimes) frontier lower upper held res res' rd rd'
        (record { tiles = r; fixes = n; pending = m; frontier = length frontier })
    unfolding published diffs
    worked-told = record {
      counted = λ crossings. record { tiles-counted = t.counted; fixes-counted = sym found_length; pending_counted = sym pended_length; frontier_counted = refl };
      told = λ crossings.
          let a = published crossings lower upper held corrections pended frontier in
          record {
            numbers_are =
                laid
                ∙ answer-laid a (length res) g.wide_numbers (omega (arith, found_length, g.few_fixes)) (omega (arith, pended_length, g.few_pending)) numbers_few g.few_frontier
                ∙ sym (leaves_written 0 0 res (numbers a) refl);
            diffs_are =
                f.diffs_are
                ∙ (λ i. laid_at 0 (map (λ (x : Fix). x.row.diff) (sorted_fixes (fixes_are i))) (z.zero-diffs i))
                ∙ laid-first (pos 0) (length rd) (map (λ (x : Fix). x.row.diff) found)
                ∙ sym (leaves_written (pos 0) 0 rd (map (λ (x : Fix). x.row.diff) found) refl);
          };
    }

-- ---- the other statuses
laid_none : {A : Type 0} (at : ℕ) (s : List A) → laid_at at [] s ≡ s
unfolding laid_at
laid_none at s = ap (λ n. take at s ++ drop n s) (add-zero at) ∙ take-append-drop at s

fixes_none : (s : List ℕ) → fixes_laid [] (laid_at tiles_at (flat tile_numbers []) s) ≡ s
unfolding fixes_laid
fixes_none s = simp laid_none

lists_none : (s : List ℕ) → lists_laid [] [] [] s ≡ s
unfolding lists_laid
lists_none s = simp laid_none

diffs_none : (status : ℕ) (rd : List ℤ) → (leb 11 status && leb status 17) ≡ false → replicate (length rd) (pos 0) ≡ leaves (pos 0) status rd []
diffs_none status rd t = ap (λ n. replicate n (pos 0)) (sym (sub-zero (length rd))) ∙ sym (leaves_written (pos 0) status rd [] t)

pub quiet_told : {held pendkeys pendtimes res res₀ res' : List ℕ} {rd rd' : List ℤ} → Quiet held pendkeys pendtimes res rd → Zeros res res₀ rd rd'
    → res' ≡ lists_laid pendkeys pendtimes held res₀ → QuietTold held pendkeys pendtimes res res' rd rd' (record { tiles = 0; fixes = 0; pending = length pendkeys; frontier = length held })
unfolding quiet_answer diffs
quiet_told {held} {pendkeys} {pendtimes} {res} {res₀} {res'} {rd} {rd'} g z l = record {
  counted = λ q h p. record { tiles-counted = refl; fixes-counted = refl; pending_counted = sym (ap length p ∙ pairs-length pendkeys pendtimes g.long_pending); frontier_counted = ap length (sym h) };
  told = λ q h p.
      let k : pendkeys ≡ map (λ x. x.0) q.pending = sym (pairs_keys pendkeys pendtimes g.long_pending) ∙ ap (map (λ x. x.0)) (sym p) in
      let t : pendtimes ≡ map (λ x. x.1) q.pending = sym (pairs-times pendkeys pendtimes g.long_pending) ∙ ap (map (λ x. x.1)) (sym p) in
      let n : length q.pending ≡ length pendkeys = ap length p ∙ pairs-length pendkeys pendtimes g.long_pending in
      let m : length q.held ≡ length held = ap length h in
      record {
        numbers_are =
            l
            ∙ (λ i. lists_laid (k i) (t i) (sym h i) ((z.zero-numbers ∙ sym (fixes_none (replicate (length res) 0))) i))
            ∙ answer-laid (quiet_answer q) (length res) g.wide_numbers (omega arith) (omega (arith, g.few_pending)) (omega arith) (omega (arith, g.few_held))
            ∙ sym (leaves_written 0 1 res (numbers (quiet_answer q)) refl);
        diffs_are = z.zero-diffs ∙ diffs_none 1 rd refl;
      };
}

pub nothing_told : {res res' : List ℕ} {rd rd' : List ℤ} → Wide res rd → Zeros res res' rd rd' → NothingTold res res' rd rd' (record { tiles = 0; fixes = 0; pending = 0; frontier = 0 })
unfolding refused diffs
nothing_told {res} {res'} {rd} {rd'} g z = record {
  counted = λ status. record { tiles-counted = refl; fixes-counted = refl; pending_counted = refl; frontier_counted = refl };
  told = λ status t. record {
    numbers_are =
        z.zero-numbers
        ∙ sym (fixes_none (replicate (length res) 0))
        ∙ sym (lists_none (fixes_laid [] (laid_at tiles_at (flat tile_numbers []) (replicate (length res) 0))))
        ∙ answer-laid (refused status) (length res) g.wide_numbers (omega arith) (omega arith) (omega arith) (omega arith)
        ∙ sym (leaves_written 0 status res (numbers (refused status)) t);
    diffs_are = z.zero-diffs ∙ diffs_none status rd t;
  };
}
