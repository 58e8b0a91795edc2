-- How many bytes the text of an answer has.
--
-- TileFits, FixFits, AnswerFits: the parts of an answer are within their widths, and not too many
-- most_text: the bytes of the largest answer. answer-length: no text of an answer is longer. bad_length: nor that of a bad line
use Prim.Native.Nat.{ℕ, zero, suc, ◌+◌, ◌-◌, ◌*◌, ◌/◌, ◌%◌, ◌≤◌, ◌<◌, ◌^◌}
use Prim.Native.String.{String}
use native.Mathlib.Nat.{pow-succ', mul-suc}
use native.Mathlib.Omega.{arith}
use mathlib.Core.Bool.{Bool, true, false}
use mathlib.Core.List.{List, [], ◌∷◌, ◌++◌}
use mathlib.Core.Path.{◌≡◌, refl}
use lib.Dec.{ltb, leb}
use lib.IntN.{ℤ, pos, negsuc, nat_abs}
use lib.ListN.{length, length-append}
use borrow.Author.Tests.{ltb-true, ltb-false, leb-true}
use Rattle.grid.specs.Lists.{flat}
use Rattle.grid.specs.Times.{hi, lo}
use Rattle.grid.specs.Frontiers.{most_times}
use Rattle.grid.specs.Records.{Row, most_records}
use Rattle.grid.proofs.Tests.{by-test}
use Rattle.grid.proofs.Lists.{All, nil, cons, head, tail, all_imp}
use Rattle.rules.specs.Tiles.{Tile}
use Rattle.rules.specs.Call.{Fix, Answer}
use Rattle.rules.specs.Memory.{most_bound}
use Rattle.form.specs.Text.{ascii}
use Rattle.form.specs.Show.{digits, decimal, signed_decimal, show_time, show_more, show_list, show_row, show_pair, show_line, show_tile, show_fix, show_results, show_answer, show_bad}
use Rattle.form.proofs.Digits.{digits_small, digits_step}
use Rattle.form.proofs.Back.{PairFits}

-- ---- numbers
digits-length : (j k n : ℕ) → n < 10 ^ suc k → length (digits j n) ≤ suc k
unfolding digits
digits-length zero k n h = omega arith
digits-length (suc j) zero n h = rw (digits_small j n h) (omega arith)
digits-length (suc j) (suc k) n h = by (ltb n 10) refl (digits-length j k (n / 10))
  where
    by : (t : Bool) → ltb n 10 ≡ t → (n / 10 < 10 ^ suc k → length (digits j (n / 10)) ≤ suc k) → length (digits (suc j) n) ≤ suc (suc k)
    by true e ih = rw (digits_small j n (ltb-true n 10 e)) (omega arith)
    by false e ih =
        let q : n < 10 * 10 ^ suc k = rw (pow-succ' 10 (suc k)) at h in
        let r : length (digits j (n / 10)) ≤ suc k = ih (omega arith) in
        let l : length (digits j (n / 10) ++ ((48 + n % 10) ∷ [])) ≡ length (digits j (n / 10)) + 1 = length-append (digits j (n / 10)) ((48 + n % 10) ∷ []) in
        rw (digits_step j n (ltb-false n 10 e)) (omega arith)

decimal-length : (k n : ℕ) → n < 10 ^ suc k → length (decimal n) ≤ suc k
unfolding decimal
decimal-length k n h = digits-length 20 k n h

digits_most : (j n : ℕ) → length (digits j n) ≤ j
unfolding digits
digits_most zero n = omega arith
digits_most (suc j) n = by-test (ltb n 10) (λ e. rw e (omega arith)) (λ e. rw (e, length-append) (omega (arith, digits_most j (n / 10))))

decimal_20 : (n : ℕ) → length (decimal n) ≤ 20
unfolding decimal
decimal_20 n = digits_most 20 n

time-length : (t : ℕ) → t < 2 ^ 64 → length (show_time t) ≤ 21
unfolding show_time hi lo
time-length t h =
    let a : length (decimal (t / 4294967296)) ≤ 10 = decimal-length 9 (t / 4294967296) (omega arith) in
    let b : length (decimal (t % 4294967296)) ≤ 10 = decimal-length 9 (t % 4294967296) (omega arith) in
    let c : length (decimal (t / 4294967296) ++ (58 ∷ [])) ≡ length (decimal (t / 4294967296)) + 1 = length-append (decimal (t / 4294967296)) (58 ∷ []) in
    let d : length (decimal (t / 4294967296) ++ (58 ∷ []) ++ decimal (t % 4294967296)) ≡ length (decimal (t / 4294967296) ++ (58 ∷ [])) + length (decimal (t % 4294967296)) = length-append (decimal (t / 4294967296) ++ (58 ∷ [])) (decimal (t % 4294967296)) in
    omega arith

diff-length : (d : ℤ) → nat_abs d ≤ 2147483648 → length (signed_decimal d) ≤ 11
unfolding signed_decimal
diff-length (pos n) h = let a : length (decimal n) ≤ 10 = decimal-length 9 n (omega arith) in omega arith
diff-length (negsuc n) h = let a : length (decimal (suc n)) ≤ 10 = decimal-length 9 (suc n) (omega arith) in omega arith

-- ---- lists
flat-length : {A : Type 0} (f : A → List ℕ) (b : ℕ) {xs : List A} → All (λ x. length (f x) ≤ b) xs → length (flat f xs) ≤ b * length xs
flat-length f b nil = omega arith
flat-length f b (cons {x = x} {xs = xs} h a) =
    let r : length (flat f xs) ≤ b * length xs = flat-length f b a in
    let l : length (f x ++ flat f xs) ≡ length (f x) + length (flat f xs) = length-append (f x) (flat f xs) in
    let m : b * suc (length xs) ≡ b * length xs + b = mul-suc b (length xs) in
    omega arith

more_length : {ts : List ℕ} → All (λ t. t < 2 ^ 64) ts → length (show_more ts) ≤ 22 * length ts
unfolding show_more
more_length a = flat-length (λ t. (59 ∷ []) ++ show_time t) 22 (all_imp (λ t h. let k : length (show_time t) ≤ 21 = time-length t h in omega arith) a)

list_length : (n : ℕ) (ts : List ℕ) → 0 < n → length ts ≤ n → All (λ t. t < 2 ^ 64) ts → length (show_list ts) ≤ 22 * n - 1
unfolding show_list
list_length n [] p h a = omega arith
list_length n (t ∷ ts) p h a =
    let b : length (show_time t) ≤ 21 = time-length t (head a) in
    let m : length (show_more ts) ≤ 22 * length ts = more_length (tail a) in
    let l : length (show_time t ++ show_more ts) ≡ length (show_time t) + length (show_more ts) = length-append (show_time t) (show_more ts) in
    omega arith

-- ---- the parts of an answer
pub record BoundFits (ts : List ℕ) : Type 0 where
  pub each_fits : All (λ t. t < 2 ^ 64) ts
  pub few_times : length ts ≤ most_bound

pub record TileFits (t : Tile) : Type 0 where
  pub lower_fits : BoundFits t.lower
  pub upper_fits : BoundFits t.upper
  pub held_fits : t.held < 2 ^ 64

pub record FixFits (f : Fix) : Type 0 where
  pub tile_fits : f.tile < most_times
  pub key_fits : f.row.key < 2 ^ 64
  pub value_fits : f.row.value < 2 ^ 64
  pub time_fits : f.row.time < 2 ^ 64
  pub diff_fits : nat_abs f.row.diff ≤ 2147483648

pub record AnswerFits (a : Answer) : Type 0 where
  pub status_fits : a.status < 20
  pub crossings_fit : a.crossings < 2 ^ 64
  pub tiles_fit : All TileFits a.tiles
  pub few_tiles : length a.tiles ≤ most_times
  pub fixes_fit : All FixFits a.fixes
  pub few_fixes : length a.fixes ≤ most_records
  pub pending_fit : All PairFits a.pending
  pub few_pending : length a.pending ≤ most_records
  pub frontier_fits : All (λ t. t < 2 ^ 64) a.frontier
  pub few_frontier : length a.frontier ≤ most_times

tile-length : (t : Tile) → TileFits t → length (show_line "tile=" (show_tile t)) ≤ 1391
unfolding show_line show_tile
tile-length t f =
    let l : length (show_list t.lower) ≤ 681 = list_length 31 t.lower (omega arith) f.lower_fits.few_times f.lower_fits.each_fits in
    let u : length (show_list t.upper) ≤ 681 = list_length 31 t.upper (omega arith) f.upper_fits.few_times f.upper_fits.each_fits in
    let h : length (show_time t.held) ≤ 21 = time-length t.held f.held_fits in
    simp length-append (omega arith)

row-length : (r : Row) → r.time < 2 ^ 64 → nat_abs r.diff ≤ 2147483648 → length (show_row r) ≤ 75
unfolding show_row
row-length r t d =
    let a : length (decimal r.key) ≤ 20 = decimal_20 r.key in
    let b : length (decimal r.value) ≤ 20 = decimal_20 r.value in
    let c : length (show_time r.time) ≤ 21 = time-length r.time t in
    let e : length (signed_decimal r.diff) ≤ 11 = diff-length r.diff d in
    simp length-append (omega arith)

fix-length : (f : Fix) → FixFits f → length (show_line "fix=" (show_fix f)) ≤ 83
unfolding show_line show_fix
fix-length f h =
    let t : f.tile < 16 = h.tile_fits in
    let a : length (decimal f.tile) ≤ 2 = decimal-length 1 f.tile (omega arith) in
    let r : length (show_row f.row) ≤ 75 = row-length f.row h.time_fits h.diff_fits in
    simp length-append (omega arith)

pair-length : (p : ℕ × ℕ) → PairFits p → length (show_line "pend=" (show_pair p)) ≤ 48
unfolding show_line show_pair
pair-length p h =
    let a : length (decimal p.0) ≤ 20 = decimal_20 p.0 in
    let t : length (show_time p.1) ≤ 21 = time-length p.1 h.time_fits in
    simp length-append (omega arith)

-- ---- the whole
line-length : (name : String) (x : List ℕ) (n : ℕ) → length x ≤ n → length (show_line name x) ≤ length (ascii name) + n + 1
unfolding show_line
line-length name x n h = simp length-append (omega arith)

end_length : length (show_line "end=" []) ≡ 5
unfolding show_line
end_length = refl

abbrev pub most_text : ℕ
most_text = 559238

results_length : (a : Answer) → AnswerFits a → length (show_results a) ≤ 559224
unfolding show_results
results_length a f =
    let nt : length a.tiles ≤ 16 = f.few_tiles in
    let nf : length a.fixes ≤ 4096 = f.few_fixes in
    let np : length a.pending ≤ 4096 = f.few_pending in
    let c : length (show_line "crossings=" (decimal a.crossings)) ≤ 31 = line-length "crossings=" (decimal a.crossings) 20 (decimal_20 a.crossings) in
    let t : length (flat (λ t. show_line "tile=" (show_tile t)) a.tiles) ≤ 1391 * length a.tiles = flat-length (λ t. show_line "tile=" (show_tile t)) 1391 (all_imp tile-length f.tiles_fit) in
    let x : length (flat (λ f. show_line "fix=" (show_fix f)) a.fixes) ≤ 83 * length a.fixes = flat-length (λ f. show_line "fix=" (show_fix f)) 83 (all_imp fix-length f.fixes_fit) in
    let p : length (flat (λ p. show_line "pend=" (show_pair p)) a.pending) ≤ 48 * length a.pending = flat-length (λ p. show_line "pend=" (show_pair p)) 48 (all_imp pair-length f.pending_fit) in
    let r : length (show_line "frontier=" (show_list a.frontier)) ≤ 361 = line-length "frontier=" (show_list a.frontier) 351 (list_length 16 a.frontier (omega arith) f.few_frontier f.frontier_fits) in
    simp length-append (omega arith)

pub answer-length : (a : Answer) → AnswerFits a → length (show_answer a) ≤ most_text
unfolding show_answer
answer-length a f =
    let s : a.status < 20 = f.status_fits in
    by-test (leb a.status 2)
    (λ e.
    let k : a.status ≤ 2 = leb-true a.status 2 e in
    let h : length (show_line "status=" (decimal a.status)) ≤ 9 = line-length "status=" (decimal a.status) 1 (decimal-length 0 a.status (omega arith)) in
    let r : length (show_results a) ≤ 559224 = results_length a f in
    let n : length (show_line "end=" []) ≡ 5 = end_length in
    rw e (simp length-append (omega arith)))
    (λ e.
    let h : length (show_line "status=" (decimal a.status)) ≤ 10 = line-length "status=" (decimal a.status) 2 (decimal-length 1 a.status (omega arith)) in
    let n : length (show_line "end=" []) ≡ 5 = end_length in
    rw e (simp length-append (omega arith)))

pub bad_length : (n : ℕ) → length (show_bad n) ≤ most_text
unfolding show_bad
bad_length n =
    let h : length (show_line "status=" (decimal 20)) ≤ 28 = line-length "status=" (decimal 20) 20 (decimal_20 20) in
    let l : length (show_line "line=" (decimal n)) ≤ 26 = line-length "line=" (decimal n) 20 (decimal_20 n) in
    let e : length (show_line "end=" []) ≡ 5 = end_length in
    simp length-append (omega arith)
