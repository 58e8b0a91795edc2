-- The lines of an answer, put together from their parts, and one after the other; and the room that they need.
--
-- …-parts, …-is: a text is made of these parts, or stands at this place of the memory
-- lines_start, -more, -none: one line for each place. written_fits: what writing leaves
use Prim.Native.Nat.{ℕ, suc, ◌+◌, ◌-◌, ◌*◌, ◌≤◌, ◌<◌, min}
use native.Mathlib.Numerals.{add-one}
use native.Mathlib.Omega.{arith}
use mathlib.Core.Bool.{Bool, true, false, ◌&&◌}
use Rattle.std.proofs.Common.{Option, None}
use mathlib.Core.List.{List, [], ◌∷◌, ◌++◌, map, append_assoc, append-nil}
use mathlib.Core.Path.{◌≡◌, refl, sym, ◌∙◌, ap}
use lib.Dec.{leb, ltb}
use lib.IntN.{ℤ, pos}
use lib.ListN.{length, get_or, take, drop}
use borrow.Author.Tests.{ltb-true, ltb-false, leb-true, le-leb, lt-leb}
use Rattle.grid.specs.Lists.{flat}
use Rattle.grid.proofs.Tests.{by-test, and_l, and_r}
use Rattle.form.specs.Text.{ascii}
use Rattle.form.specs.Read.{the_row}
use Rattle.form.specs.Show.{decimal, show_time, show_list, show_row, show_pair, show_line, show_fix, show_tile, show_results, show_answer, show_bad}
use Rattle.print.specs.Put.{Put}
use Rattle.print.proofs.Put.{put_long, Writing, writing_start}
use Rattle.writing.specs.declared.Results.{Results}
use Rattle.writing.specs.Answered.{places, fix_at, pair_at, bound_at, tile_from, tile_at, frontier_at, standing, the_fix, Fits, sizes_fit, counts_fit, memory_fits, told, Written}

pub pending_parts : (k t : ℕ) → ascii "pend=" ++ show_pair (k, t) ++ (10 ∷ []) ≡ show_line "pend=" (show_pair (k, t))
unfolding show_line
pending_parts k t = refl

joined : (w d m r e : List ℕ) → w ++ d ++ m ++ r ++ e ≡ w ++ (d ++ m ++ r) ++ e
joined w d m r e = simp append_assoc refl

pub fix_parts : (i k v t : ℕ) {d z : ℤ} → z ≡ d → ascii "fix=" ++ decimal i ++ (44 ∷ []) ++ show_row (the_row k v t z) ++ (10 ∷ []) ≡ show_line "fix=" (show_fix (the_fix i (the_row k v t d)))
unfolding show_line show_fix
fix_parts i k v t e = rw e (joined (ascii "fix=") (decimal i) (44 ∷ []) _ (10 ∷ []))

pub bound_is : (ns : List ℕ) (from : ℕ) {n : ℕ} → n ≡ min (get_or ns from 0) 31 → show_list (take (from + 1 + n - (from + 1)) (drop (from + 1) ns)) ≡ show_list (bound_at ns from)
unfolding bound_at
bound_is ns from {n} e = let k : from + 1 + n - (from + 1) ≡ n = omega arith in rw (k, e)

pub tile_parts : (ns : List ℕ) (from : ℕ) → show_list (bound_at ns from) ++ (47 ∷ []) ++ show_list (bound_at ns (from + 32)) ++ (47 ∷ []) ++ show_time (get_or ns (from + 64) 0) ≡ show_tile (tile_from ns from)
unfolding show_tile tile_from
tile_parts ns from = refl

pub tile-line : (ns : List ℕ) (from : ℕ) → ascii "tile=" ++ show_tile (tile_from ns from) ++ (10 ∷ []) ≡ show_line "tile=" (show_tile (tile_from ns from))
unfolding show_line
tile-line ns from = refl

-- ---- one line for each place
places_more : (i n : ℕ) → i < n → places i (n - i) ≡ i ∷ places (i + 1) (n - (i + 1))
places_more i n h = let e : n - i ≡ suc (n - (i + 1)) = omega arith in rw (e, add-one i)

module _ {A : Type 0} (show : A → List ℕ) (f : ℕ → A) where
  pub lines_start : (n : ℕ) (out : List ℕ) (from : ℕ) → Writing (flat show (map f (places 0 n))) out from out from (flat show (map f (places 0 (n - 0))))
  lines_start n out from = let e : n - 0 ≡ n = omega arith in rw e (writing_start (flat show (map f (places 0 n))) out from)

  pub lines_more : (i n : ℕ) {x : List ℕ} → i < n → x ≡ show (f i) → x ++ flat show (map f (places (i + 1) (n - (i + 1)))) ≡ flat show (map f (places i (n - i)))
  lines_more i n h e = rw (e, places_more i n h)

  pub lines_none : (i n : ℕ) → n ≤ i → [] ≡ flat show (map f (places i (n - i)))
  lines_none i n h = let e : n - i ≡ 0 = omega arith in rw e

-- ---- the lines of the columns
pub fix_is : (ns : List ℕ) (ds : List ℤ) (i : ℕ) {z : ℤ} → z ≡ get_or ds i (pos 0) → show_line "fix=" (show_fix (the_fix (get_or ns i 0) (the_row (get_or ns (4096 + i) 0) (get_or ns (8192 + i) 0) (get_or ns (12288 + i) 0) z))) ≡ show_line "fix=" (show_fix (fix_at ns ds i))
unfolding fix_at
fix_is ns ds i e = rw e

pub pair_is : (ns : List ℕ) (i : ℕ) → show_line "pend=" (show_pair (get_or ns (16384 + i) 0, get_or ns (20480 + i) 0)) ≡ show_line "pend=" (show_pair (pair_at ns i))
unfolding pair_at
pair_is ns i = refl

pub tile_is : (ns : List ℕ) (i : ℕ) → show_line "tile=" (show_tile (tile_from ns (24576 + 65 * i))) ≡ show_line "tile=" (show_tile (tile_at ns i))
unfolding tile_at
tile_is ns i = refl

pub frontier_is : (ns : List ℕ) (n : ℕ) → ascii "frontier=" ++ show_list (take (25616 + n - 25616) (drop 25616 ns)) ++ (10 ∷ []) ≡ show_line "frontier=" (show_list (frontier_at ns n))
unfolding show_line frontier_at
frontier_is ns n = let k : 25616 + n - 25616 ≡ n = omega arith in rw k

-- ---- the whole
module _ (a : Results) (ns : List ℕ) (ds : List ℤ) where
  pub results-parts :
      ascii "crossings=" ++ decimal a.crossings ++ (10 ∷ [])
      ++ flat (λ t. show_line "tile=" (show_tile t)) (map (tile_at ns) (places 0 a.tiles))
      ++ flat (λ f. show_line "fix=" (show_fix f)) (map (fix_at ns ds) (places 0 a.fixes))
      ++ flat (λ p. show_line "pend=" (show_pair p)) (map (pair_at ns) (places 0 a.pending))
      ++ show_line "frontier=" (show_list (frontier_at ns a.frontier))
      ≡ show_results (standing a ns ds)
  unfolding show_results standing show_line
  results-parts = refl

  pub answer_short : 2 < a.status → ascii "status=" ++ decimal a.status ++ (10 ∷ []) ++ ascii "end=\n" ≡ show_answer (standing a ns ds)
  unfolding show_answer standing show_line
  answer_short h = rw (lt-leb a.status 2 h) (sym (ap (λ l. l ++ ascii "end=\n") (append-nil (ascii "status=" ++ decimal a.status ++ (10 ∷ [])))))

  pub answer_long : a.status ≤ 2 → ascii "status=" ++ decimal a.status ++ (10 ∷ []) ++ show_results (standing a ns ds) ++ ascii "end=\n" ≡ show_answer (standing a ns ds)
  unfolding show_answer standing show_line
  answer_long h = rw (le-leb a.status 2 h)

pub bad_parts : (n : ℕ) → ascii "status=" ++ decimal 20 ++ (10 ∷ []) ++ (ascii "line=" ++ decimal n ++ (10 ∷ [])) ++ ascii "end=\n" ≡ show_bad n
unfolding show_bad show_line
bad_parts n = refl

-- ---- room
module _ (a : Results) (ns ds : ℕ) where
  memory_read : a.status ≤ 2 → memory_fits a ns ds ≡ (sizes_fit ns ds && counts_fit a)
  unfolding memory_fits
  memory_read h = rw (lt-leb 3 a.status (omega arith))

  pub fits_from : a.status ≤ 2 → memory_fits a ns ds ≡ true → Fits a ns ds
  unfolding sizes_fit counts_fit
  fits_from h e =
      let f : (sizes_fit ns ds && counts_fit a) ≡ true = sym (memory_read h) ∙ e in
      let s : sizes_fit ns ds ≡ true = and_l (sizes_fit ns ds) (counts_fit a) f in
      let k : counts_fit a ≡ true = and_r (sizes_fit ns ds) (counts_fit a) f in
      let k₂ = and_r (leb a.tiles 16) _ k in
      let k₃ = and_r (leb a.fixes 4096) _ k₂ in
      record {
        numbers_fit = leb-true _ _ (and_l (leb 25632 ns) (leb 4096 ds) s);
        diffs_fit = leb-true _ _ (and_r (leb 25632 ns) (leb 4096 ds) s);
        tiles_fit = leb-true _ _ (and_l (leb a.tiles 16) _ k);
        fixes_fit = leb-true _ _ (and_l (leb a.fixes 4096) _ k₂);
        pending_fit = leb-true _ _ (and_l (leb a.pending 4096) _ k₃);
        frontier_fit = leb-true _ _ (and_r (leb a.pending 4096) _ k₃);
      }

pub told-put : {xs out out' : List ℕ} {n : ℕ} → Put xs out out' 0 n → told n (length out') ≡ told (length xs) (length out)
told-put {xs} {out} {out'} {n} p =
    by-test (ltb (length out) (length xs))
    (λ e.
    let h : length out < length xs = ltb-true _ _ e in
    let k : length out < n = p.over (omega arith) in
    rw (put_long p, lt-leb (length xs) (length out) h, lt-leb n (length out) k))
    (λ e.
    let h : length xs ≤ length out = ltb-false _ _ e in
    let k : n ≡ 0 + length xs = p.fits (omega arith) in
    let m : n ≡ length xs = omega arith in
    rw (put_long p, m))

pub written_fits : {fits : Bool} {xs out out' : List ℕ} {n most : ℕ} {r : Option ℕ} → fits ≡ true → Put xs out out' 0 n → most ≡ length out' → r ≡ told n most → Written fits xs out out' r
written_fits e p m t = rw e (record { told_is = t ∙ (rw m (told-put p)); holds = p.holds })
