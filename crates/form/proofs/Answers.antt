-- Every answer to a request that can be read can be printed: its numbers are within their widths, and no list of it is too long.
--
-- settle_wide: the values of a key's corrections. work_packed, work_wide: the times and the values of one key's work
-- fixes_fit, pended_fit, frontier_fit, tile_fits, crossings_fit: the parts of a worked answer
-- answer_fits: the whole, at every status
-- reply_bad, reply-asked: what the program prints. reply-length: never more than most_text bytes
use Prim.Native.Nat.{ℕ, zero, suc, ◌+◌, ◌*◌, ◌<◌, ◌≤◌, ◌^◌}
use native.Mathlib.Omega.{arith}
use mathlib.Core.Bool.{Bool, true, false, ◌&&◌, not}
use mathlib.Core.List.{List, [], ◌∷◌, ◌++◌, map}
use mathlib.Core.Path.{◌≡◌, refl}
use lib.Dec.{eqb, ltb}
use lib.IntN.{ℤ, pos, ◌+ℤ◌, nat_abs}
use lib.ListN.{length, take, drop, length-append, length-map, take-append-drop}
use borrow.Author.Tests.{eqb-true, eqb-false, ltb-true, leb-true, not-false}
use Rattle.grid.specs.Lists.{keep, ascending, same}
use Rattle.grid.specs.Times.{below, puts}
use Rattle.grid.specs.Frontiers.{is_frontier, all_inserted, minimal}
use Rattle.grid.specs.Consolidate.{is_zero, total}
use Rattle.grid.specs.Records.{Row, before, in_range, good_diff, good_run}
use Rattle.grid.proofs.Tests.{by-test, and_l, and_r, or_false_l}
use Rattle.grid.proofs.Lists.{All, nil, cons, all_imp, all_append, all_l, all_r, all_both, all_keep, all_map, map_all, all_puts, all_sort, all_flat, all_at, every_all, none_all, keep_length}
use Rattle.grid.proofs.Frontiers.{all_inserted_all}
use Rattle.grid.proofs.Signed.{nat_abs_add}
use Rattle.grid.proofs.Sort.{length_sort}
use Rattle.grid.proofs.Sizes.{sizing_nat_abs, mass, mass-map, mass_most, mass_consolidate}
use Rattle.grid.proofs.Consolidate.{strict_ltb, all_consolidate}
use Rattle.grid.proofs.Operations.{put-length}
use Rattle.rules.specs.Histories.{Edit, time_of, value_of}
use Rattle.rules.specs.Tiles.{Tile, tiles}
use Rattle.rules.specs.Discover.{most_moments}
use Rattle.rules.specs.Backends.{Sums, count, listed, distinct, wanted, minus, correction}
use Rattle.rules.specs.Retire.{Round, seen, dated, round_at, settle, windows}
use Rattle.rules.specs.Call.{Request, Fix, Done, check12, check14, together, changed, edits_of, times_of, pending_of, work, work_all, fixes_of, fix_before, fixes_all, pended_all, too_many, too_large, refused, quiet_answer, call}
use Rattle.rules.specs.Memory.{most_bound}
use Rattle.rules.proofs.Tiles.{Bounded, frontier_length, tiles-length, tile_of_within}
use Rattle.rules.proofs.Statuses.{Accepted, fixes_found, call_one_of, call_limits, call-worked, call-quiet, call-refused}
use Rattle.rules.proofs.Retire.{fixes-correction}
use Rattle.rules.proofs.Fixes.{Placed, fixes-placed, settle-times}
use Rattle.rules.proofs.Width.{longest, sum_of, call-crossings}
use Rattle.rules.proofs.Memory.{call_fits}
use Rattle.form.specs.Read.{Asked, bad, asked, parse}
use Rattle.form.specs.Show.{show_answer, show_bad, reply}
use Rattle.form.proofs.Back.{RowFits, PairFits, Fits}
use Rattle.form.proofs.Canon.{request_only}
use Rattle.form.proofs.Room.{TileFits, FixFits, AnswerFits, most_text, answer-length, bad_length}
use Rattle.form.proofs.Packed.{Wide, Packed, discover_packed}

-- ---- values
abbrev WideSum : ℕ × ℤ → Type 0
WideSum p = Wide p.0

abbrev WideValue : Edit → Type 0
WideValue e = Wide e.0.1

mass_keep : {A : Type 0} (p : A × ℤ → Bool) (es : List (A × ℤ)) → mass nat_abs (keep p es) ≤ mass nat_abs es
mass_keep p [] = omega arith
mass_keep p (e ∷ es) = by-test (p e) (λ c. rw c (omega (arith, mass_keep p es))) (λ c. rw c (omega (arith, mass_keep p es)))

total-mass : {A : Type 0} (c : List (A × ℤ)) → nat_abs (total c) ≤ mass nat_abs c
total-mass [] = omega arith
total-mass (y ∷ c) = omega (arith, nat_abs_add y.1 (total c), total-mass c)

seen-mass : (t : ℕ) (es : List Edit) → mass nat_abs (seen t es) ≤ mass nat_abs es
unfolding seen
seen-mass t es =
    let k = keep (λ e. below (time_of e) t) es in
    omega (arith, mass_consolidate nat_abs sizing_nat_abs ltb (map (λ (e : Edit). (value_of e, e.1)) k), mass-map nat_abs (λ (e : Edit). (value_of e, e.1)) (λ e. refl) k, mass_keep (λ e. below (time_of e) t) es)

seen_wide : (t : ℕ) {es : List Edit} → All WideValue es → All WideSum (seen t es)
unfolding seen value_of
seen_wide t a = all_consolidate strict_ltb Wide (all_map (λ (e : Edit). (value_of e, e.1)) (all_keep (λ e. below (time_of e) t) a))

id_wide : (z : ℤ) → nat_abs z < 2 ^ 63 → Wide (nat_abs (pos 9223372036854775808 +ℤ z))
id_wide z h = omega (arith, nat_abs_add (pos 9223372036854775808) z)

module _ (c : Sums) (m : mass nat_abs c < 2 ^ 63) where
  count_wide : All WideSum (count c)
  unfolding count
  count_wide = by-test (is_zero (total c)) (λ e. rw e nil) (λ e. rw e (cons (id_wide (total c) (omega (arith, total-mass c))) nil))

  wanted_wide : (mode : ℕ) → All WideSum c → All WideSum (wanted mode c)
  unfolding wanted distinct
  wanted_wide mode a = by-test (eqb mode 1) (λ e. rw e count_wide) (λ e. rw e (all_map (λ (p : ℕ × ℤ). (p.0, pos 1)) (all_keep (λ p. listed p.1) a)))

correction_wide : (mode : ℕ) {i o : Sums} → mass nat_abs i < 2 ^ 63 → All WideSum i → All WideSum o → All WideSum (correction mode i o)
unfolding correction minus
correction_wide mode {i} m a b = all_consolidate strict_ltb Wide (all_append (wanted_wide i m mode a) (all_map _ b))

module _ (mode : ℕ) (input : List Edit) (m : mass nat_abs input < 2 ^ 63) (a : All WideValue input) where
  round_wide : {output : List Edit} (t : ℕ) → All WideValue output → All WideSum (round_at mode input output t).fixes
  round_wide {output} t b =
      rw (fixes-correction mode input output t) (correction_wide mode (omega (arith, seen-mass t input)) (seen_wide t a) (seen_wide t b))

  dated_wide : (t : ℕ) {c : Sums} → All WideSum c → All WideValue (dated t c)
  unfolding dated
  dated_wide t h = all_map _ h

  settle_wide : {output : List Edit} (ts : List ℕ) → All WideValue output → All (λ (r : Round). All WideSum r.fixes) (settle mode input output ts)
  unfolding settle
  settle_wide [] b = nil
  settle_wide {output = output} (t ∷ ts) b =
      cons (round_wide t b) (settle_wide {output = output ++ dated t (round_at mode input output t).fixes} ts (all_append b (dated_wide t (round_wide t b))))

-- ---- one key's work
module _ (k : ℕ) where
  times_wide : {rs : List Row} → All RowFits rs → All Wide (times_of k rs)
  unfolding times_of
  times_wide a = all_map (λ (r : Row). r.time) (all_imp (λ r f. f.time_fits) (all_keep (λ r. eqb k r.key) a))

  pending_wide : {ps : List (ℕ × ℕ)} → All PairFits ps → All Wide (pending_of k ps)
  unfolding pending_of
  pending_wide a = all_map (λ (p : ℕ × ℕ). p.1) (all_imp (λ p f. f.time_fits) (all_keep (λ p. eqb k p.0) a))

  edits_all : {P : Row → Type 0} {Q : Edit → Type 0} → ((r : Row) → P r → Q ((r.time, r.value), r.diff)) → {rs : List Row} → All P rs → All Q (edits_of k rs)
  unfolding edits_of
  edits_all f a = all_map _ (all_imp f (all_keep (λ r. eqb k r.key) a))

  edits-length : (rs : List Row) → length (edits_of k rs) ≤ length rs
  unfolding edits_of
  edits-length rs = rw length-map (keep_length (λ r. eqb k r.key) rs)

together_all : {P : Row → Type 0} {rs qs : List Row} → All P rs → All P qs → All P (together rs qs)
unfolding together
together_all a b = all_sort _ (all_append a b)

together-length : (rs qs : List Row) → length (together rs qs) ≡ length rs + length qs
unfolding together
together-length rs qs = rw length_sort (length-append rs qs)

good_small : (rs : List Row) → good_run rs ≡ true → All (λ (r : Row). nat_abs r.diff ≤ 2147483648) rs
unfolding good_run good_diff in_range
good_small rs e = all_imp (λ (r : Row) h. leb-true (nat_abs r.diff) 2147483648 (and_l _ _ h)) (every_all (λ r. good_diff r.diff) rs (and_r (ascending before rs) _ e))

module _ (q : Request) (F : Fits q) (A : Accepted q) where
  good_runs : (good_run q.old ≡ true) × (good_run q.new ≡ true)
  unfolding check14
  good_runs = let e = and_l (good_run q.old && good_run q.new) _ A.holds_14 in (and_l (good_run q.old) _ e, and_r (good_run q.old) _ e)

  input_mass : (k : ℕ) → mass nat_abs (edits_of k (together q.old q.new)) < 2 ^ 63
  input_mass k =
      let small : All (λ (e : Edit). nat_abs e.1 ≤ 2147483648) (edits_of k (together q.old q.new)) =
      edits_all k (λ r h. h) (together_all (good_small q.old good_runs.0) (good_small q.new good_runs.1)) in
      omega (arith, mass_most nat_abs 2147483648 small, edits-length k (together q.old q.new), together-length q.old q.new, F.old_fits.few_lines, F.new_fits.few_lines)

  work_packed : (k : ℕ) → Packed (work q (together q.old q.new) k).found
  unfolding work
  work_packed k =
      discover_packed q.upper (times_wide k F.new_fits.each_fits) (pending_wide k F.pending_fits.each_fits)
      (edits_all k (λ r f. f.time_fits) (together_all F.old_fits.each_fits F.new_fits.each_fits)) (times_wide k F.out_fits.each_fits)

  work_wide : (k : ℕ) → All (λ (r : Round). All WideSum r.fixes) (work q (together q.old q.new) k).rounds
  unfolding work
  work_wide k =
      settle_wide q.mode (edits_of k (together q.old q.new)) (input_mass k)
      (edits_all k (λ r f. f.value_fits) (together_all F.old_fits.each_fits F.new_fits.each_fits))
      _ (edits_all k (λ r f. f.value_fits) F.out_fits.each_fits)

  rounds_wide : (k : ℕ) → All (λ (r : Round). Wide r.time) (work q (together q.old q.new) k).rounds
  unfolding work
  rounds_wide k = map_all (λ (r : Round). r.time) _ (rw (settle-times q.mode _ _ (work q (together q.old q.new) k).found.moments) (work_packed k).moments)

  changed_wide : All Wide (changed q)
  unfolding changed
  changed_wide =
      all_puts (all_append (all_map (λ (r : Row). r.key) (all_imp (λ r f. f.key_fits) F.new_fits.each_fits)) (all_map (λ (p : ℕ × ℕ). p.0) (all_imp (λ p f. f.key_fits) F.pending_fits.each_fits))) nil

  -- ---- a worked answer
  record Inside (f : Fix) : Type 0 where
    key_wide : Wide f.row.key
    value_wide : Wide f.row.value
    time_wide : Wide f.row.time

  fixes_inside : All Inside (fixes_found q)
  unfolding fixes_all work_all fixes_of work
  fixes_inside =
      all_sort (λ f g. not (fix_before g f))
      (all_flat (fixes_of q (tiles q.lower q.upper q.held))
      (all_map (work q (together q.old q.new))
      (all_imp (λ k w. all_flat _ (all_imp (λ (r : Round) h. all_map _ (all_imp (λ (c : ℕ × ℤ) v. record { key_wide = w; value_wide = v; time_wide = h.0 }) h.1)) (all_both (rounds_wide k) (work_wide k)))) changed_wide)))

  held_frontier : is_frontier q.held ≡ true
  unfolding check12
  held_frontier = and_r (is_frontier q.lower && is_frontier q.upper) (is_frontier q.held) A.holds_12

  fix_fits : (f : Fix) → Placed q f → Inside f → in_range f.row.diff ≡ true → FixFits f
  unfolding in_range
  fix_fits f p i e = record {
    tile_fits = rw p.place (omega (arith, tile_of_within q.lower q.upper q.held f.row.time p.lands, tiles-length q.lower q.upper q.held, frontier_length q.held held_frontier));
    key_fits = i.key_wide;
    value_fits = i.value_wide;
    time_fits = i.time_wide;
    diff_fits = leb-true (nat_abs f.row.diff) 2147483648 e;
  }

  fixes_fit : too_large (fixes_found q) ≡ false → All FixFits (fixes_found q)
  unfolding too_large
  fixes_fit e =
      all_imp (λ f h. fix_fits f h.0 h.1.0 (not-false _ h.1.1))
      (all_both (fixes-placed q A) (all_both fixes_inside (none_all (λ (f : Fix). not (in_range f.row.diff)) (fixes_found q) (or_false_l _ _ e))))

  pended_fit : All PairFits (pended_all (work_all q))
  unfolding pended_all work_all work
  pended_fit =
      all_flat _
      (all_map (work q (together q.old q.new))
      (all_imp (λ k w. all_map _ (all_imp (λ t h. record { key_fits = w; time_fits = h }) (work_packed k).pended)) changed_wide))

  frontier_fit : All Wide (minimal (map (λ p. p.1) (pended_all (work_all q))))
  unfolding minimal
  frontier_fit = all_inserted_all [] nil (all_map (λ (p : ℕ × ℕ). p.1) (all_imp (λ p f. f.time_fits) pended_fit))

-- ---- tiles
record WideTile (t : Tile) : Type 0 where
  lower_wide : All Wide t.lower
  upper_wide : All Wide t.upper
  held_wide : Wide t.held

tiles_wide : {lower upper held : List ℕ} → All Wide lower → All Wide upper → All Wide held → All WideTile (tiles lower upper held)
unfolding tiles
tiles_wide a b nil = nil
tiles_wide {lower} {upper} a b (cons {x = h} {xs = later} c d) =
    let cut : All Wide (all_inserted later upper) = all_inserted_all upper b d in
    let rest : All WideTile (tiles (all_inserted later upper) upper later) = tiles_wide {lower = all_inserted later upper} cut b d in
    by-test (same (all_inserted later upper) lower) (λ e. rw e rest) (λ e. rw e (cons (record { lower_wide = a; upper_wide = cut; held_wide = c }) rest))

tile_fits : (t : Tile) → WideTile t → Bounded most_bound t → TileFits t
tile_fits t w n = record {
  lower_fits = record { each_fits = w.lower_wide; few_times = n.lower_fits };
  upper_fits = record { each_fits = w.upper_wide; few_times = n.upper_fits };
  held_fits = w.held_wide;
}

-- ---- crossings
puts-length : (ts us : List ℕ) → length (puts ts us) ≤ length ts + length us
puts-length [] us = omega arith
puts-length (t ∷ ts) us = omega (arith, put-length t (puts ts us), puts-length ts us)

longest_most : {A : Type 0} (most : ℕ) {ls : List (List A)} → All (λ l. length l ≤ most) ls → longest ls ≤ most
longest_most most nil = omega arith
longest_most most (cons {xs = ls} h a) = omega (arith, longest_most most a)

windows_most : {A : Type 0} (n width : ℕ) (ls : List (List A)) → All (λ l. length l ≤ most_moments) ls → sum_of longest (windows n width ls) ≤ n * most_moments
windows_most zero width ls a = omega arith
windows_most (suc n) width [] a = omega arith
windows_most (suc n) width (l ∷ ls) a =
    let both : All (λ k. length k ≤ most_moments) (take width (l ∷ ls) ++ drop width (l ∷ ls)) = rw (take-append-drop width (l ∷ ls)) a in
    omega (arith, longest_most most_moments (all_l (take width (l ∷ ls)) _ both), windows_most n width (drop width (l ∷ ls)) (all_r (take width (l ∷ ls)) _ both))

module _ (q : Request) (F : Fits q) (A : Accepted q) (few : too_many (work_all q) ≡ false) where
  moments_few : All (λ (d : Done). length d.found.moments ≤ most_moments) (work_all q)
  unfolding work_all too_many
  moments_few =
      all_map (work q (together q.old q.new))
      (all_imp (λ k e. (work_packed q F A k).few e)
      (map_all (work q (together q.old q.new)) (changed q) (none_all (λ (d : Done). d.found.over) (work_all q) (or_false_l _ _ (or_false_l _ _ few)))))

  keys_few : length (work_all q) ≤ 1024
  unfolding work_all changed
  keys_few =
      rw length-map
      (omega (arith, puts-length (map (λ (r : Row). r.key) q.new ++ map (λ (p : ℕ × ℕ). p.0) q.pending) [], length-append (map (λ (r : Row). r.key) q.new) (map (λ (p : ℕ × ℕ). p.0) q.pending), length-map q.new (λ (r : Row). r.key), length-map q.pending (λ (p : ℕ × ℕ). p.0), F.new_fits.few_lines, F.pending_fits.few_lines))

  crossings_fit : Wide (call q).crossings
  crossings_fit =
      omega (arith, call-crossings q, windows_most (length (work_all q)) q.width _ (all_map (λ (d : Done). d.found.moments) moments_few), keys_few)

-- ---- the whole
status_fits : (q : Request) → (call q).status < 20
status_fits q =
    all_at (call q).status (0 ∷ 11 ∷ 12 ∷ 13 ∷ 14 ∷ 15 ∷ 16 ∷ 17 ∷ 1 ∷ 2 ∷ 18 ∷ 19 ∷ [])
    (all_imp (λ n e. ltb-true n 20 e) (every_all (λ n. ltb n 20) (0 ∷ 11 ∷ 12 ∷ 13 ∷ 14 ∷ 15 ∷ 16 ∷ 17 ∷ 1 ∷ 2 ∷ 18 ∷ 19 ∷ []) refl)) (call_one_of q)

module _ (q : Request) (F : Fits q) where
  worked_fits : (call q).status ≡ 0 → AnswerFits (call q)
  worked_fits e =
      let w = call-worked q e in
      let k = (call_limits q).row_0.0 e in
      let A : Accepted q = k.0.accepted in
      let m = call_fits q in
      record {
        status_fits = status_fits q;
        crossings_fit = crossings_fit q F A k.1;
        tiles_fit = all_imp (λ t h. tile_fits t h.0 h.1) (all_both (rw w.tiles_are (tiles_wide F.lower_fits.each_fits F.upper_fits.each_fits F.held_fits.each_fits)) m.bounds_fit);
        few_tiles = m.tiles_fit;
        fixes_fit = rw w.fixes_are (fixes_fit q F A k.2);
        few_fixes = m.fixes_fit;
        pending_fit = rw w.pending_is (pended_fit q F A);
        few_pending = m.pending_fits;
        frontier_fits = rw w.frontier_is (frontier_fit q F A);
        few_frontier = m.frontier_fits;
      }

  quiet_fits : AnswerFits (quiet_answer q)
  unfolding quiet_answer
  quiet_fits =
      let n : length q.pending ≤ 512 = F.pending_fits.few_lines in
      record {
        status_fits = omega arith;
        crossings_fit = omega arith;
        tiles_fit = nil;
        few_tiles = omega arith;
        fixes_fit = nil;
        few_fixes = omega arith;
        pending_fit = F.pending_fits.each_fits;
        few_pending = omega arith;
        frontier_fits = F.held_fits.each_fits;
        few_frontier = F.held_fits.few_times;
      }

refused_fits : (n : ℕ) → n < 20 → AnswerFits (refused n)
unfolding refused
refused_fits n h = record {
  status_fits = h;
  crossings_fit = omega arith;
  tiles_fit = nil;
  few_tiles = omega arith;
  fixes_fit = nil;
  few_fixes = omega arith;
  pending_fit = nil;
  few_pending = omega arith;
  frontier_fits = nil;
  few_frontier = omega arith;
}

pub answer_fits : (q : Request) → Fits q → AnswerFits (call q)
answer_fits q F =
    by-test (eqb (call q).status 0) (λ e. worked_fits q F (eqb-true _ _ e))
    (λ e. by-test (eqb (call q).status 1) (λ k. rw (call-quiet q (eqb-true _ _ k)) (quiet_fits q F))
    (λ k. rw (call-refused q (omega (arith, eqb-false (call q).status 0 e, eqb-false (call q).status 1 k))) (refused_fits (call q).status (status_fits q))))

-- ---- what the program prints
module _ (s : List ℕ) where
  pub reply_bad : {n : ℕ} → parse s ≡ bad n → reply s ≡ show_bad n
  unfolding reply
  reply_bad e = rw (e, reply)

  pub reply-asked : {q : Request} → parse s ≡ asked q → reply s ≡ show_answer (call q)
  unfolding reply
  reply-asked e = rw (e, reply)

pub reply-length : (s : List ℕ) → length (reply s) ≤ most_text
reply-length s = go (parse s) refl
  where
    go : (a : Asked) → parse s ≡ a → length (reply s) ≤ most_text
    go (bad n) e = rw (reply_bad s e) (bad_length n)
    go (asked q) e = rw (reply-asked s e) (answer-length (call q) (answer_fits q (request_only s e).fits))
