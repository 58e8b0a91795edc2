-- What a caller reads in memory after a call is the answer of the rules.
--
-- fixes-columns: a list is read from its columns. tiles_read: tiles are read from their numbers
-- answer_read: the results are read from the two slices that hold them, whatever the status
-- retires_one: what a call says and leaves is fixed by what was lent
use Prim.Native.Nat.{ℕ, zero, suc, ◌*◌, ◌-◌, ◌≤◌}
use mathlib.Core.Bool.{Bool, true, false, ◌&&◌}
use mathlib.Core.List.{List, [], ◌∷◌, ◌++◌, map, append_assoc}
use mathlib.Core.Path.{◌≡◌, refl, sym, ◌∙◌, ap, ap₂}
use native.Mathlib.Omega.{arith}
use lib.Dec.{leb}
use lib.IntN.{ℤ, pos}
use lib.ListN.{length, take, drop, get_or, replicate, length-map}
use lib.Seq.{take-append_seam, drop_at}
use borrow.Author.Tests.{leb-true}
use Rattle.grid.specs.Lists.{flat, padded}
use Rattle.grid.specs.Frontiers.{most_times}
use Rattle.grid.specs.Records.{most_records, pairs}
use Rattle.grid.proofs.Tests.{by-test, and_l}
use Rattle.grid.proofs.Lists.{All, nil, cons}
use Rattle.grid.proofs.Operations.{pairs-columns}
use Rattle.rules.specs.Tiles.{Tile}
use Rattle.rules.specs.Call.{Fix, Answer, refused, call}
use Rattle.rules.specs.Memory.{Memory, Sizes, Lent, most_bound, tile_size, lent_well, request_of, call_lent, tile_numbers, numbers, diffs, leaves, after}
use Rattle.rules.proofs.Tiles.{Bounded}
use Rattle.rules.proofs.Statuses.{call-refused}
use Rattle.rules.proofs.Memory.{Fits, lent_fits, padded_length, tiles-numbers, tile-length, lent_well_lem, lent_ill}
use Rattle.arranging.specs.Arranged.{fixes}
use Rattle.demands.specs.Answers.{Retires, columns_past, tile_in, tiles_in, answer_from, answer_in}
use Rattle.requests.proofs.Statuses.{same_status}
use Rattle.answers.specs.declared.Outcome.{Outcome}

fixes-columns : (fs : List Fix) → fixes (map (λ (f : Fix). f.tile) fs) (map (λ (f : Fix). f.row.key) fs) (map (λ (f : Fix). f.row.value) fs) (map (λ (f : Fix). f.row.time) fs) (map (λ (f : Fix). f.row.diff) fs) ≡ fs
fixes-columns [] = refl
fixes-columns (f ∷ fs) = ap (λ gs. f ∷ gs) (fixes-columns fs)

module _ {A : Type 0} (z : A) (n : ℕ) (xs rest : List A) where
  front_read : take (length xs) (padded z n xs ++ rest) ≡ xs
  front_read = rw (append_assoc xs (replicate (n - length xs) z) rest) (take-append_seam xs (replicate (n - length xs) z ++ rest))

  past_read : length xs ≤ n → drop n (padded z n xs ++ rest) ≡ rest
  past_read h = drop_at (padded z n xs) rest n (padded_length z n xs h)

-- ---- tiles
abbrev bound : List ℕ → List ℕ
bound xs = length xs ∷ padded 0 most_bound xs

abbrev bound_read : List ℕ → List ℕ
bound_read s = take (get_or s 0 0) (drop 1 s)

module _ (xs rest : List ℕ) where
  bound_front : bound_read (bound xs ++ rest) ≡ xs
  bound_front = front_read 0 most_bound xs rest

  bound_past : length xs ≤ most_bound → drop (suc most_bound) (bound xs ++ rest) ≡ rest
  bound_past h = past_read 0 most_bound xs rest h

tile_bounds : (t : Tile) (rest : List ℕ) → tile_numbers t ++ rest ≡ bound t.lower ++ (bound t.upper ++ (t.held ∷ rest))
unfolding tile_numbers
tile_bounds t rest = simp append_assoc

tile_read : (t : Tile) (rest : List ℕ) → Bounded most_bound t → tile_in (tile_numbers t ++ rest) ≡ t
unfolding tile_in
tile_read t rest b =
    ap tile_in (tile_bounds t rest) ∙ (λ i. record { lower = bound_front t.lower second i; upper = (ap bound_read past ∙ bound_front t.upper (t.held ∷ rest)) i; held = (ap (λ u. get_or (drop (suc most_bound) u) 0 0) past ∙ ap (λ u. get_or u 0 0) (bound_past t.upper (t.held ∷ rest) b.upper_fits)) i })
  where
    second : List ℕ
    second = bound t.upper ++ (t.held ∷ rest)

    past : drop (suc most_bound) (bound t.lower ++ second) ≡ second
    past = bound_past t.lower second b.lower_fits

tiles_read : (ts : List Tile) (rest : List ℕ) → All (Bounded most_bound) ts → tiles_in (length ts) (flat tile_numbers ts ++ rest) ≡ ts
unfolding tiles_in
tiles_read [] rest h = refl
tiles_read (t ∷ ts) rest (cons b h) =
    rw (append_assoc (tile_numbers t) (flat tile_numbers ts) rest, tile_read t (flat tile_numbers ts ++ rest) b, drop_at (tile_numbers t) (flat tile_numbers ts ++ rest) tile_size (tile-length t b), tiles_read ts rest h)

-- ---- the results
columns_past_lem : (i : ℕ) {cs : List (List ℕ)} (rest : List ℕ) → All (λ c. length c ≡ most_records) cs → i ≤ length cs → columns_past i (flat (λ c. c) cs ++ rest) ≡ flat (λ c. c) (drop i cs) ++ rest
unfolding columns_past
columns_past_lem zero rest h k = refl
columns_past_lem (suc i) rest nil k = absurd (omega arith)
columns_past_lem (suc i) rest (cons {x = c} {xs = cs} e h) k =
    ap (columns_past i) (ap (drop most_records) (append_assoc c (flat (λ c. c) cs) rest) ∙ drop_at c (flat (λ c. c) cs ++ rest) most_records e) ∙ columns_past_lem i rest h (omega arith)

mapped_read : {A B : Type 0} (z : B) (n : ℕ) (g : A → B) (xs : List A) (rest : List B) → take (length xs) (padded z n (map g xs) ++ rest) ≡ map g xs
mapped_read z n g xs rest = ap (λ k. take k (padded z n (map g xs) ++ rest)) (sym (length-map xs g)) ∙ front_read z n (map g xs) rest

module _ (a : Answer) (f : Fits a) (rest : List ℕ) where
  abbrev fix_column : (Fix → ℕ) → List ℕ
  fix_column g = padded 0 most_records (map g a.fixes)

  abbrev pending_column : (ℕ × ℕ → ℕ) → List ℕ
  pending_column g = padded 0 most_records (map g a.pending)

  abbrev six : List (List ℕ)
  six =
      fix_column (λ (f : Fix). f.tile) ∷ fix_column (λ (f : Fix). f.row.key) ∷ fix_column (λ (f : Fix). f.row.value) ∷ fix_column (λ (f : Fix). f.row.time)
      ∷ pending_column (λ p. p.0) ∷ pending_column (λ p. p.1) ∷ []

  abbrev past_six : List ℕ
  past_six = padded 0 (most_times * tile_size) (flat tile_numbers a.tiles) ++ (padded 0 most_times a.frontier ++ rest)

  laid_out : numbers a ++ rest ≡ flat (λ c. c) six ++ past_six
  unfolding numbers
  laid_out = simp append_assoc

  fix_column_lem : (g : Fix → ℕ) → length (fix_column g) ≡ most_records
  fix_column_lem g = padded_length 0 most_records (map g a.fixes) (rw (length-map a.fixes g) f.fixes_fit)

  pending_column_lem : (g : ℕ × ℕ → ℕ) → length (pending_column g) ≡ most_records
  pending_column_lem g = padded_length 0 most_records (map g a.pending) (rw (length-map a.pending g) f.pending_fits)

  six_columns : All (λ c. length c ≡ most_records) six
  six_columns = cons (fix_column_lem _) (cons (fix_column_lem _) (cons (fix_column_lem _) (cons (fix_column_lem _) (cons (pending_column_lem _) (cons (pending_column_lem _) nil)))))

  past : (i : ℕ) → i ≤ 6 → columns_past i (numbers a ++ rest) ≡ flat (λ c. c) (drop i six) ++ past_six
  past i h = ap (columns_past i) laid_out ∙ columns_past_lem i past_six six_columns h

  abbrev whole : List ℕ
  whole = numbers a ++ rest

  fix_read : (i : ℕ) (g : Fix → ℕ) (more : List ℕ) → columns_past i whole ≡ (fix_column g ++ more) ++ past_six → take (length a.fixes) (columns_past i whole) ≡ map g a.fixes
  fix_read i g more e = ap (take (length a.fixes)) (e ∙ append_assoc (fix_column g) more past_six) ∙ mapped_read 0 most_records g a.fixes (more ++ past_six)

  pend_read : (i : ℕ) (g : ℕ × ℕ → ℕ) (more : List ℕ) → columns_past i whole ≡ (pending_column g ++ more) ++ past_six → take (length a.pending) (columns_past i whole) ≡ map g a.pending
  pend_read i g more e = ap (take (length a.pending)) (e ∙ append_assoc (pending_column g) more past_six) ∙ mapped_read 0 most_records g a.pending (more ++ past_six)

  fixes_read : (zeros : List ℤ) → fixes (take (length a.fixes) (columns_past 0 whole)) (take (length a.fixes) (columns_past 1 whole)) (take (length a.fixes) (columns_past 2 whole)) (take (length a.fixes) (columns_past 3 whole)) (take (length a.fixes) (diffs a ++ zeros)) ≡ a.fixes
  unfolding diffs
  fixes_read zeros =
      (λ i. fixes
      (fix_read 0 (λ (f : Fix). f.tile) (flat (λ c. c) (drop 1 six)) (past 0 (omega arith)) i)
      (fix_read 1 (λ (f : Fix). f.row.key) (flat (λ c. c) (drop 2 six)) (past 1 (omega arith)) i)
      (fix_read 2 (λ (f : Fix). f.row.value) (flat (λ c. c) (drop 3 six)) (past 2 (omega arith)) i)
      (fix_read 3 (λ (f : Fix). f.row.time) (flat (λ c. c) (drop 4 six)) (past 3 (omega arith)) i)
      ((ap (λ k. take k (diffs a ++ zeros)) (sym (length-map a.fixes (λ (f : Fix). f.row.diff))) ∙ take-append_seam (diffs a) zeros) i))
      ∙ fixes-columns a.fixes

  pending_read : pairs (take (length a.pending) (columns_past 4 whole)) (take (length a.pending) (columns_past 5 whole)) ≡ a.pending
  pending_read =
      ap₂ pairs
      (pend_read 4 (λ p. p.0) (flat (λ c. c) (drop 5 six)) (past 4 (omega arith)))
      (pend_read 5 (λ p. p.1) (flat (λ c. c) (drop 6 six)) (past 5 (omega arith)))
      ∙ pairs-columns a.pending

  tiles_held : tiles_in (length a.tiles) (columns_past 6 whole) ≡ a.tiles
  tiles_held = ap (tiles_in (length a.tiles)) (past 6 (omega arith) ∙ append_assoc (flat tile_numbers a.tiles) _ _) ∙ tiles_read a.tiles _ f.bounds_fit

  frontier_read : take (length a.frontier) (drop (most_times * tile_size) (columns_past 6 whole)) ≡ a.frontier
  frontier_read =
      ap (λ s. take (length a.frontier) (drop (most_times * tile_size) s)) (past 6 (omega arith))
      ∙ ap (take (length a.frontier)) (past_read 0 (most_times * tile_size) (flat tile_numbers a.tiles) _ (omega (arith, tiles-numbers f.bounds_fit, f.tiles_fit)))
      ∙ front_read 0 most_times a.frontier rest

-- ---- at every status
abbrev untouched : Answer → Bool
untouched a = leb 11 a.status && leb a.status 17

-- as many of each as an answer has
abbrev read_as : Answer → Memory → Answer
read_as a m = answer_from a.status a.crossings (length a.tiles) (length a.fixes) (length a.pending) (length a.frontier) m

none_read : (n : ℕ) (m : Memory) → read_as (refused n) m ≡ refused n
unfolding answer_from refused tiles_in
none_read n m = refl

results_read : (a : Answer) (m : Memory) → Fits a → untouched a ≡ false → read_as a (after a m) ≡ a
unfolding answer_from after leaves columns_past
results_read a m f e =
    rw e (λ i. record {
      status = a.status;
      crossings = a.crossings;
      tiles = tiles_held a f (replicate (length m.numbers - length (numbers a)) 0) i;
      fixes = fixes_read a f (replicate (length m.numbers - length (numbers a)) 0) (replicate (length m.diffs - length (diffs a)) (pos 0)) i;
      pending = pending_read a f (replicate (length m.numbers - length (numbers a)) 0) i;
      frontier = frontier_read a f (replicate (length m.numbers - length (numbers a)) 0) i;
    })

module _ (z : Lent → Sizes) (l : Lent) (r : Outcome) (m : Memory) (R : Retires z l r m) where
  nothing_said : untouched (call_lent (z l) l) ≡ true → call_lent (z l) l ≡ refused (call_lent (z l) l).status
  unfolding refused
  nothing_said e =
      by-test (lent_well (z l) l)
      (λ w. let h : 11 ≤ (call_lent (z l) l).status = leb-true 11 (call_lent (z l) l).status (and_l (leb 11 (call_lent (z l) l).status) _ e) in
      let k : 11 ≤ (call (request_of l)).status = rw (lent_well_lem (z l) l w) at h in
      rw (lent_well_lem (z l) l w) (call-refused (request_of l) (omega arith)))
      (λ w. rw (lent_ill (z l) l w) refl)

  pub answer_read : answer_in r m ≡ call_lent (z l) l
  answer_read =
      (λ i. answer_from (R.status_is i) (R.crossings_are i) (R.tiles-many i) (R.fixes-many i) (R.pending_many i) (R.frontier_many i) (R.memory_is i))
      ∙ by-test (untouched (call_lent (z l) l))
      (λ e. let s = nothing_said e in ap (λ a. read_as a (after (call_lent (z l) l) l.memory)) s ∙ none_read (call_lent (z l) l).status (after (call_lent (z l) l) l.memory) ∙ sym s)
      (λ e. results_read (call_lent (z l) l) l.memory (lent_fits (z l) l) e)

-- a call says and leaves one thing only
pub retires_one : {z : Lent → Sizes} {l : Lent} {r r' : Outcome} {m m' : Memory} → Retires z l r m → Retires z l r' m' → (r ≡ r') × (m ≡ m')
retires_one {r = r} {r' = r'} R R' = (
  (λ i. record {
    status = same_status r.status r'.status (R.status_is ∙ sym R'.status_is) i;
    crossings = (R.crossings_are ∙ sym R'.crossings_are) i;
    tiles = (R.tiles-many ∙ sym R'.tiles-many) i;
    fixes = (R.fixes-many ∙ sym R'.fixes-many) i;
    pending = (R.pending_many ∙ sym R'.pending_many) i;
    frontier = (R.frontier_many ∙ sym R'.frontier_many) i;
  }),
  R.memory_is ∙ sym R'.memory_is,
)
