-- The answer that stands in the result memory that a call leaves is the call's answer, whatever lies past it.
--
-- results_of: the status, crossings and counts of an answer
-- standing_is: the answer that is written is the one that was laid out
use Prim.Native.Nat.{ℕ, zero, suc, ◌+◌, ◌-◌, ◌*◌, ◌≤◌, ◌<◌, min}
use native.Mathlib.Omega.{arith}
use mathlib.Core.List.{List, [], ◌∷◌, ◌++◌, map, append_assoc}
use mathlib.Core.Path.{◌≡◌, refl, sym, ◌∙◌, ap}
use lib.IntN.{ℤ, pos}
use lib.ListN.{length, get_or, take, drop, replicate, length-append, length-replicate, length-map, get_or-append}
use lib.Seq.{take-append_seam, get_or-append-add, drop-append-add}
use Rattle.grid.specs.Lists.{flat, padded}
use Rattle.grid.specs.Records.{most_records}
use Rattle.grid.specs.Frontiers.{most_times}
use Rattle.grid.proofs.Lists.{All, nil, cons, head, tail}
use Rattle.rules.specs.Tiles.{Tile}
use Rattle.rules.specs.Call.{Fix, Answer}
use Rattle.rules.specs.Memory.{most_bound, tile_size, tile_numbers, numbers, diffs}
use Rattle.rules.proofs.Tiles.{Bounded}
use Rattle.rules.proofs.Memory.{Fits}
use Rattle.writing.specs.declared.Results.{Results}
use Rattle.writing.specs.Answered.{places, fix_at, pair_at, bound_at, tile_from, tile_at, frontier_at, standing}

-- ---- reading past a part
module _ {A : Type 0} where
  get_past : (xs ys : List A) (i j : ℕ) (d : A) → j ≡ length xs + i → get_or (xs ++ ys) j d ≡ get_or ys i d
  get_past xs ys i j d e = rw e (get_or-append-add xs ys i d)

  drop_past : (xs ys : List A) (i j : ℕ) → j ≡ length xs + i → drop j (xs ++ ys) ≡ drop i ys
  drop_past xs ys i j e = rw e (drop-append-add xs ys i)

  take_padded : (z : A) (n : ℕ) (xs ys : List A) → take (length xs) (padded z n xs ++ ys) ≡ xs
  take_padded z n xs ys = ap (take (length xs)) (append_assoc xs (replicate (n - length xs) z) ys) ∙ take-append_seam xs (replicate (n - length xs) z ++ ys)

  get_padded : (z : A) (n : ℕ) (xs ys : List A) (i : ℕ) (d : A) → i < length xs → get_or (padded z n xs ++ ys) i d ≡ get_or xs i d
  get_padded z n xs ys i d h = ap (λ l. get_or l i d) (append_assoc xs (replicate (n - length xs) z) ys) ∙ get_or-append xs (replicate (n - length xs) z ++ ys) d i h

  padded_length : (z : A) (n : ℕ) (xs : List A) → length xs ≤ n → length (padded z n xs) ≡ n
  padded_length z n xs h =
      let a : length (xs ++ replicate (n - length xs) z) ≡ length xs + length (replicate (n - length xs) z) = length-append xs (replicate (n - length xs) z) in
      let b : length (replicate (n - length xs) z) ≡ n - length xs = length-replicate (n - length xs) z in
      omega arith

  -- a list is its entries, place by place
  entries : (f : ℕ → A) (i : ℕ) (xs : List A) (d : A) → ((j : ℕ) → j < length xs → f (i + j) ≡ get_or xs j d) → map f (places i (length xs)) ≡ xs
  entries f i [] d h = refl
  entries f i (x ∷ xs) d h =
      let a : i + 0 ≡ i = omega arith in
      let first : f i ≡ x = ap f (sym a) ∙ h 0 (omega arith) in
      let rest : map f (places (suc i) (length xs)) ≡ xs = entries f (suc i) xs d (λ j k. let b : suc i + j ≡ i + suc j = omega arith in ap f b ∙ h (suc j) (omega arith)) in
      λ k. first k ∷ rest k

get_map : {A B : Type 0} (g : A → B) (xs : List A) (i : ℕ) (d : A) (e : B) → i < length xs → get_or (map g xs) i e ≡ g (get_or xs i d)
get_map g [] i d e h = absurd (omega arith)
get_map g (x ∷ xs) zero d e h = refl
get_map g (x ∷ xs) (suc i) d e h = get_map g xs i d e (omega arith)

-- ---- one tile
bound_past : (xs ys : List ℕ) (i j : ℕ) → j ≡ length xs + i → bound_at (xs ++ ys) j ≡ bound_at ys i
unfolding bound_at
bound_past xs ys i j e = rw (get_past xs ys i j 0 e, drop_past xs ys (i + 1) (j + 1) (omega arith))

tile_past : (xs ys : List ℕ) (i j : ℕ) → j ≡ length xs + i → tile_from (xs ++ ys) j ≡ tile_from ys i
unfolding tile_from
tile_past xs ys i j e = rw (bound_past xs ys i j e, bound_past xs ys (i + 32) (j + 32) (omega arith), get_past xs ys (i + 64) (j + 64) 0 (omega arith))

bound_here : (xs ys : List ℕ) → length xs ≤ most_bound → bound_at ((length xs ∷ padded 0 most_bound xs) ++ ys) 0 ≡ xs
unfolding bound_at
bound_here xs ys h = let m : min (length xs) 31 ≡ length xs = omega arith in rw m (take_padded 0 most_bound xs ys)

tile_text : (t : Tile) (r : List ℕ) → tile_numbers t ++ r ≡ (length t.lower ∷ padded 0 most_bound t.lower) ++ ((length t.upper ∷ padded 0 most_bound t.upper) ++ (t.held ∷ r))
unfolding tile_numbers
tile_text t r = simp append_assoc refl

tile_long : (t : Tile) → Bounded most_bound t → length (tile_numbers t) ≡ 65
unfolding tile_numbers
tile_long t b =
    let l : length {A = ℕ} (replicate (most_bound - length t.lower) 0) ≡ 31 - length t.lower = length-replicate (most_bound - length t.lower) 0 in
    let u : length {A = ℕ} (replicate (most_bound - length t.upper) 0) ≡ 31 - length t.upper = length-replicate (most_bound - length t.upper) 0 in
    simp length-append (omega arith)

tile_of_lem : (ns : List ℕ) {l u : List ℕ} {h : ℕ} → bound_at ns 0 ≡ l → bound_at ns 32 ≡ u → get_or ns 64 0 ≡ h → tile_from ns 0 ≡ record { lower = l; upper = u; held = h }
unfolding tile_from
tile_of_lem ns p q r = λ k. record { lower = p k; upper = q k; held = r k }

tile_here : (t : Tile) (r : List ℕ) → Bounded most_bound t → tile_from (tile_numbers t ++ r) 0 ≡ t
tile_here t r b = ap (λ l. tile_from l 0) (tile_text t r) ∙ parts
  where
    L : List ℕ
    L = length t.lower ∷ padded 0 most_bound t.lower

    X : List ℕ
    X = length t.upper ∷ padded 0 most_bound t.upper

    long_L : 32 ≡ length L
    long_L = ap suc (sym (padded_length 0 most_bound t.lower b.lower_fits))

    long_X : 32 ≡ length X
    long_X = ap suc (sym (padded_length 0 most_bound t.upper b.upper_fits))

    parts : tile_from (L ++ (X ++ (t.held ∷ r))) 0 ≡ t
    parts = tile_of_lem (L ++ (X ++ (t.held ∷ r))) (bound_here t.lower (X ++ (t.held ∷ r)) b.lower_fits) (bound_past L (X ++ (t.held ∷ r)) 0 32 (omega (arith, long_L)) ∙ bound_here t.upper (t.held ∷ r) b.upper_fits) (get_past L (X ++ (t.held ∷ r)) 32 64 0 (omega (arith, long_L)) ∙ get_past X (t.held ∷ r) 0 32 0 (omega (arith, long_X)))

-- ---- all tiles
tile_each : (ts : List Tile) (r : List ℕ) (j : ℕ) (d : Tile) → All (Bounded most_bound) ts → j < length ts → tile_from (flat tile_numbers ts ++ r) (65 * j) ≡ get_or ts j d
tile_each [] r j d a h = absurd (omega arith)
tile_each (t ∷ ts) r zero d a h = ap (λ l. tile_from l 0) (append_assoc (tile_numbers t) (flat tile_numbers ts) r) ∙ tile_here t (flat tile_numbers ts ++ r) (head a)
tile_each (t ∷ ts) r (suc j) d a h =
    let n : length (tile_numbers t) ≡ 65 = tile_long t (head a) in
    ap (λ l. tile_from l (65 * suc j)) (append_assoc (tile_numbers t) (flat tile_numbers ts) r)
    ∙ tile_past (tile_numbers t) (flat tile_numbers ts ++ r) (65 * j) (65 * suc j) (omega arith)
    ∙ tile_each ts r j d (tail a) (omega arith)

tiles_long : {ts : List Tile} → All (Bounded most_bound) ts → length (flat tile_numbers ts) ≡ 65 * length ts
tiles_long nil = refl
tiles_long (cons {x = t} {xs = ts} b a) =
    let n : length (tile_numbers t) ≡ 65 = tile_long t b in
    let m : length (flat tile_numbers ts) ≡ 65 * length ts = tiles_long a in
    length-append (tile_numbers t) (flat tile_numbers ts) ∙ omega arith

-- ---- the whole memory
module _ (a : Answer) (f : Fits a) (z : List ℕ) where
  fix_column : (Fix → ℕ) → List ℕ
  fix_column g = padded 0 most_records (map g a.fixes)

  pair_column : (ℕ × ℕ → ℕ) → List ℕ
  pair_column g = padded 0 most_records (map g a.pending)

  rest : List ℕ
  rest = padded 0 (most_times * tile_size) (flat tile_numbers a.tiles) ++ (padded 0 most_times a.frontier ++ z)

  numbers_text : numbers a ++ z ≡ fix_column (λ x. x.tile) ++ (fix_column (λ x. x.row.key) ++ (fix_column (λ x. x.row.value) ++ (fix_column (λ x. x.row.time) ++ (pair_column (λ p. p.0) ++ (pair_column (λ p. p.1) ++ rest)))))
  unfolding numbers fix_column pair_column rest
  numbers_text = simp append_assoc refl

  fix_long : (g : Fix → ℕ) → length (fix_column g) ≡ 4096
  unfolding fix_column
  fix_long g = padded_length 0 most_records (map g a.fixes) (let e : length (map g a.fixes) ≡ length a.fixes = length-map a.fixes g in let h : length a.fixes ≤ 4096 = f.fixes_fit in omega arith)

  pair_long : (g : ℕ × ℕ → ℕ) → length (pair_column g) ≡ 4096
  unfolding pair_column
  pair_long g = padded_length 0 most_records (map g a.pending) (let e : length (map g a.pending) ≡ length a.pending = length-map a.pending g in let h : length a.pending ≤ 4096 = f.pending_fits in omega arith)

  module _ (i : ℕ) (d : Fix) (h : i < length a.fixes) where
    fix-entry : (g : Fix → ℕ) (r : List ℕ) → get_or (fix_column g ++ r) i 0 ≡ g (get_or a.fixes i d)
    unfolding fix_column
    fix-entry g r = get_padded 0 most_records (map g a.fixes) r i 0 (let e : length (map g a.fixes) ≡ length a.fixes = length-map a.fixes g in omega arith) ∙ get_map g a.fixes i d 0 h

    diff-entry : (zd : List ℤ) → get_or (diffs a ++ zd) i (pos 0) ≡ (get_or a.fixes i d).row.diff
    unfolding diffs
    diff-entry zd = get_or-append (map (λ (x : Fix). x.row.diff) a.fixes) zd (pos 0) i (let e : length (map (λ (x : Fix). x.row.diff) a.fixes) ≡ length a.fixes = length-map a.fixes (λ (x : Fix). x.row.diff) in omega arith) ∙ get_map (λ (x : Fix). x.row.diff) a.fixes i d (pos 0) h

    fix_stands : (zd : List ℤ) → fix_at (numbers a ++ z) (diffs a ++ zd) i ≡ get_or a.fixes i d
    unfolding fix_at
    fix_stands zd =
        let n₀ : length (fix_column (λ x. x.tile)) ≡ 4096 = fix_long (λ x. x.tile) in
        let n₁ : length (fix_column (λ x. x.row.key)) ≡ 4096 = fix_long (λ x. x.row.key) in
        let n₂ : length (fix_column (λ x. x.row.value)) ≡ 4096 = fix_long (λ x. x.row.value) in
        let p₀ : get_or (numbers a ++ z) i 0 ≡ (get_or a.fixes i d).tile = ap (λ l. get_or l i 0) numbers_text ∙ fix-entry (λ x. x.tile) _ in
        let p₁ : get_or (numbers a ++ z) (4096 + i) 0 ≡ (get_or a.fixes i d).row.key =
        ap (λ l. get_or l (4096 + i) 0) numbers_text ∙ get_past (fix_column (λ x. x.tile)) _ i (4096 + i) 0 (omega arith) ∙ fix-entry (λ x. x.row.key) _ in
        let p₂ : get_or (numbers a ++ z) (8192 + i) 0 ≡ (get_or a.fixes i d).row.value =
        ap (λ l. get_or l (8192 + i) 0) numbers_text ∙ get_past (fix_column (λ x. x.tile)) _ (4096 + i) (8192 + i) 0 (omega arith) ∙ get_past (fix_column (λ x. x.row.key)) _ i (4096 + i) 0 (omega arith) ∙ fix-entry (λ x. x.row.value) _ in
        let p₃ : get_or (numbers a ++ z) (12288 + i) 0 ≡ (get_or a.fixes i d).row.time =
        ap (λ l. get_or l (12288 + i) 0) numbers_text ∙ get_past (fix_column (λ x. x.tile)) _ (8192 + i) (12288 + i) 0 (omega arith) ∙ get_past (fix_column (λ x. x.row.key)) _ (4096 + i) (8192 + i) 0 (omega arith) ∙ get_past (fix_column (λ x. x.row.value)) _ i (4096 + i) 0 (omega arith) ∙ fix-entry (λ x. x.row.time) _ in
        let p₄ : get_or (diffs a ++ zd) i (pos 0) ≡ (get_or a.fixes i d).row.diff = diff-entry zd in
        λ k. record { tile = p₀ k; row = record { key = p₁ k; value = p₂ k; time = p₃ k; diff = p₄ k } }

  pair_get : (i : ℕ) (d : ℕ × ℕ) → i < length a.pending → (g : ℕ × ℕ → ℕ) (r : List ℕ) → get_or (pair_column g ++ r) i 0 ≡ g (get_or a.pending i d)
  unfolding pair_column
  pair_get i d h g r = get_padded 0 most_records (map g a.pending) r i 0 (let e : length (map g a.pending) ≡ length a.pending = length-map a.pending g in omega arith) ∙ get_map g a.pending i d 0 h

  pair_stands : (i : ℕ) (d : ℕ × ℕ) → i < length a.pending → pair_at (numbers a ++ z) i ≡ get_or a.pending i d
  unfolding pair_at
  pair_stands i d h =
      let n₀ : length (fix_column (λ x. x.tile)) ≡ 4096 = fix_long (λ x. x.tile) in
      let n₁ : length (fix_column (λ x. x.row.key)) ≡ 4096 = fix_long (λ x. x.row.key) in
      let n₂ : length (fix_column (λ x. x.row.value)) ≡ 4096 = fix_long (λ x. x.row.value) in
      let n₃ : length (fix_column (λ x. x.row.time)) ≡ 4096 = fix_long (λ x. x.row.time) in
      let n₄ : length (pair_column (λ p. p.0)) ≡ 4096 = pair_long (λ p. p.0) in
      let p₀ : get_or (numbers a ++ z) (16384 + i) 0 ≡ (get_or a.pending i d).0 =
      ap (λ l. get_or l (16384 + i) 0) numbers_text
      ∙ get_past (fix_column (λ x. x.tile)) _ (12288 + i) (16384 + i) 0 (omega arith)
      ∙ get_past (fix_column (λ x. x.row.key)) _ (8192 + i) (12288 + i) 0 (omega arith)
      ∙ get_past (fix_column (λ x. x.row.value)) _ (4096 + i) (8192 + i) 0 (omega arith)
      ∙ get_past (fix_column (λ x. x.row.time)) _ i (4096 + i) 0 (omega arith)
      ∙ pair_get i d h (λ p. p.0) _ in
      let p₁ : get_or (numbers a ++ z) (20480 + i) 0 ≡ (get_or a.pending i d).1 =
      ap (λ l. get_or l (20480 + i) 0) numbers_text
      ∙ get_past (fix_column (λ x. x.tile)) _ (16384 + i) (20480 + i) 0 (omega arith)
      ∙ get_past (fix_column (λ x. x.row.key)) _ (12288 + i) (16384 + i) 0 (omega arith)
      ∙ get_past (fix_column (λ x. x.row.value)) _ (8192 + i) (12288 + i) 0 (omega arith)
      ∙ get_past (fix_column (λ x. x.row.time)) _ (4096 + i) (8192 + i) 0 (omega arith)
      ∙ get_past (pair_column (λ p. p.0)) _ i (4096 + i) 0 (omega arith)
      ∙ pair_get i d h (λ p. p.1) _ in
      λ k. (p₀ k, p₁ k)

  columns : List ℕ
  columns = fix_column (λ x. x.tile) ++ fix_column (λ x. x.row.key) ++ fix_column (λ x. x.row.value) ++ fix_column (λ x. x.row.time) ++ pair_column (λ p. p.0) ++ pair_column (λ p. p.1)

  columns_text : numbers a ++ z ≡ columns ++ rest
  unfolding numbers fix_column pair_column columns rest
  columns_text = simp append_assoc refl

  columns_long : length columns ≡ 24576
  unfolding columns
  columns_long =
      let n₀ : length (fix_column (λ x. x.tile)) ≡ 4096 = fix_long (λ x. x.tile) in
      let n₁ : length (fix_column (λ x. x.row.key)) ≡ 4096 = fix_long (λ x. x.row.key) in
      let n₂ : length (fix_column (λ x. x.row.value)) ≡ 4096 = fix_long (λ x. x.row.value) in
      let n₃ : length (fix_column (λ x. x.row.time)) ≡ 4096 = fix_long (λ x. x.row.time) in
      let n₄ : length (pair_column (λ p. p.0)) ≡ 4096 = pair_long (λ p. p.0) in
      let n₅ : length (pair_column (λ p. p.1)) ≡ 4096 = pair_long (λ p. p.1) in
      simp length-append (omega arith)

  tile_stands : (i : ℕ) (d : Tile) → i < length a.tiles → tile_at (numbers a ++ z) i ≡ get_or a.tiles i d
  unfolding tile_at rest
  tile_stands i d h =
      ap (λ l. tile_from l (24576 + 65 * i)) columns_text
      ∙ tile_past columns rest (65 * i) (24576 + 65 * i) (omega (arith, columns_long))
      ∙ ap (λ l. tile_from l (65 * i)) (append_assoc (flat tile_numbers a.tiles) _ _)
      ∙ tile_each a.tiles _ i d f.bounds_fit h

  frontier_stands : frontier_at (numbers a ++ z) (length a.frontier) ≡ a.frontier
  unfolding frontier_at rest
  frontier_stands =
      let n : length (flat tile_numbers a.tiles) ≡ 65 * length a.tiles = tiles_long f.bounds_fit in
      let m : length a.tiles ≤ 16 = f.tiles_fit in
      let t : length (padded 0 (most_times * tile_size) (flat tile_numbers a.tiles)) ≡ 1040 = padded_length 0 1040 (flat tile_numbers a.tiles) (omega arith) in
      ap (λ l. take (length a.frontier) (drop 25616 l)) columns_text
      ∙ ap (take (length a.frontier)) (drop_past columns rest 1040 25616 (omega (arith, columns_long)) ∙ drop_past (padded 0 (most_times * tile_size) (flat tile_numbers a.tiles)) (padded 0 most_times a.frontier ++ z) 0 1040 (omega arith))
      ∙ take_padded 0 most_times a.frontier z

-- ---- the answer
abbrev pub results_of : Answer → Results
results_of a = record {
  status = a.status;
  crossings = a.crossings;
  tiles = length a.tiles;
  fixes = length a.fixes;
  pending = length a.pending;
  frontier = length a.frontier;
}

abbrev no_tile : Tile
no_tile = record { lower = []; upper = []; held = 0 }

abbrev no_fix : Fix
no_fix = record { tile = 0; row = record { key = 0; value = 0; time = 0; diff = pos 0 } }

pub standing_is : (a : Answer) → Fits a → (z : List ℕ) (zd : List ℤ) → standing (results_of a) (numbers a ++ z) (diffs a ++ zd) ≡ a
unfolding standing
standing_is a f z zd =
    let ts : map (tile_at (numbers a ++ z)) (places 0 (length a.tiles)) ≡ a.tiles =
    entries (tile_at (numbers a ++ z)) 0 a.tiles no_tile (λ j h. let e : 0 + j ≡ j = omega arith in ap (tile_at (numbers a ++ z)) e ∙ tile_stands a f z j no_tile h) in
    let fs : map (fix_at (numbers a ++ z) (diffs a ++ zd)) (places 0 (length a.fixes)) ≡ a.fixes =
    entries (fix_at (numbers a ++ z) (diffs a ++ zd)) 0 a.fixes no_fix (λ j h. let e : 0 + j ≡ j = omega arith in ap (fix_at (numbers a ++ z) (diffs a ++ zd)) e ∙ fix_stands a f z j no_fix h zd) in
    let ps : map (pair_at (numbers a ++ z)) (places 0 (length a.pending)) ≡ a.pending =
    entries (pair_at (numbers a ++ z)) 0 a.pending (0, 0) (λ j h. let e : 0 + j ≡ j = omega arith in ap (pair_at (numbers a ++ z)) e ∙ pair_stands a f z j (0, 0) h) in
    λ k. record { status = a.status; crossings = a.crossings; tiles = ts k; fixes = fs k; pending = ps k; frontier = frontier_stands a f z k }
