-- The loop over the windows of a call.
--
-- listed: the first n corrections of four columns. fresh: how far a call has come before its first window
-- Looping: the windows of the keys before p are done. looping_start, looping_more, looping_end: the loop keeps that
-- looping_takes: what the next window's turn asks. looping_less: fewer keys are left
use Prim.Native.Nat.{ℕ, ◌+◌, ◌-◌, ◌*◌, ◌≤◌, ◌<◌, min}
use native.Mathlib.Omega.{arith}
use mathlib.Core.Bool.{Bool, true, false}
use mathlib.Core.List.{List, [], ◌∷◌, ◌++◌, map, append_assoc, append-nil, map-append}
use mathlib.Core.Path.{◌≡◌, refl, sym, ◌∙◌, ap, subst}
use lib.Dec.{ltb}
use lib.IntN.{ℤ}
use lib.ListN.{length, take, drop, length-take, length-map, drop_of_length-le, take-append-drop}
use lib.Seq.{drop-drop, length-take-le}
use borrow.Author.Tests.{le-ltb}
use Rattle.grid.specs.Lists.{flat, ascending}
use Rattle.grid.specs.Records.{Row, rows, pairs}
use Rattle.grid.proofs.Tests.{by-test, clash, and_l}
use Rattle.grid.proofs.Lists.{All, all_of, all_l}
use Rattle.grid.proofs.Ascending.{ascending_rest}
use Rattle.rules.specs.Discover.{most_moments, State}
use Rattle.rules.specs.Call.{Request, changed}
use Rattle.backends.specs.Segments.{part}
use Rattle.backends.proofs.Columns.{less}
use Rattle.grid.proofs.Operations.{no_length}
use Rattle.keys.specs.Spans.{Reaches, Level}
use Rattle.keys.proofs.Spans.{key_of, reaches_start, rows_keys}
use Rattle.finding.specs.Windowed.{pended_row, firsts_of, seconds_of, window_over}
use Rattle.finding.proofs.Keyed.{reaches_past}
use Rattle.finding.proofs.Windowing.{over-append}
use Rattle.slots.specs.Slots.{rows_too_large, window_rows, window_crossings}
use Rattle.slots.proofs.Large.{large_fits}
use Rattle.fixing.specs.Settle.{LentFixes}
use Rattle.settled.specs.Call.{slot_of, windows_of, rows_of}
use Rattle.settled.proofs.Through.{Through, through_start, through_more, through_large, through_rows, through_count}
use Rattle.seeking.specs.Sought.{Reached}
use Rattle.progress.specs.declared.Progress.{Progress}
use Rattle.turns.specs.Runs.{Runs, found_of, slot_at, Asked}
use Rattle.turns.specs.Worked.{Takes, Turned}
use Rattle.looping.specs.Looped.{course_of, Loops, Ended}
use Rattle.looping.proofs.Counts.{crossings_few}
use Rattle.turns.proofs.Turning.{in_sorted, out_sorted}
use Rattle.looping.proofs.Asking.{row_count, asked_slots, asked_pended, asked-passed}

-- ---- keys, cut in two
cut : {A : Type 0} (p e : ℕ) (xs : List A) → p ≤ e → drop p xs ≡ part p e xs ++ drop e xs
cut p e xs h =
    let n : p + (e - p) ≡ e = omega arith in
    sym (take-append-drop (e - p) (drop p xs)) ∙ ap (λ l. part p e xs ++ l) (drop-drop (e - p) p xs ∙ ap (λ i. drop i xs) n)

ascending_first : (xs ys : List ℕ) → ascending ltb (xs ++ ys) ≡ true → ascending ltb xs ≡ true
ascending_first [] ys a = refl
ascending_first (x ∷ []) ys a = refl
ascending_first (x ∷ z ∷ xs) ys a = rw (and_l (ltb x z) (ascending ltb (z ∷ xs ++ ys)) a) (ascending_first (z ∷ xs) ys (ascending_rest ltb x (z ∷ xs ++ ys) a))

ascending_later : (xs ys : List ℕ) → ascending ltb (xs ++ ys) ≡ true → ascending ltb ys ≡ true
ascending_later [] ys a = a
ascending_later (x ∷ xs) ys a = ascending_later xs ys (ascending_rest ltb x (xs ++ ys) a)

row-append : (f : ℕ → State) (xs ys : List ℕ) → pended_row (xs ++ ys) (map f (xs ++ ys)) ≡ pended_row xs (map f xs) ++ pended_row ys (map f ys)
unfolding pended_row
row-append f [] ys = refl
row-append f (x ∷ xs) ys =
    let own : List (ℕ × ℕ) = map (λ t. (x, t)) (f x).pended in
    ap (λ l. own ++ l) (row-append f xs ys) ∙ sym (append_assoc own (pended_row xs (map f xs)) (pended_row ys (map f ys)))

row_none : pended_row [] [] ≡ []
unfolding pended_row
row_none = refl

-- ---- columns that grow
pairs_of : (ps : List (ℕ × ℕ)) → pairs (firsts_of ps) (seconds_of ps) ≡ ps
pairs_of [] = refl
pairs_of (p ∷ ps) = ap (λ l. p ∷ l) (pairs_of ps)

pairs_more : (ks ts : List ℕ) (ps : List (ℕ × ℕ)) → length ts ≡ length ks → pairs (ks ++ firsts_of ps) (ts ++ seconds_of ps) ≡ pairs ks ts ++ ps
pairs_more [] [] ps e = pairs_of ps
pairs_more [] (t ∷ ts) ps e = no_length (length ts) e
pairs_more (k ∷ ks) [] ps e = no_length (length ks) (sym e)
pairs_more (k ∷ ks) (t ∷ ts) ps e = ap (λ l. (k, t) ∷ l) (pairs_more ks ts ps (less e))

module _ (fk fv ft : List ℕ) (fd : List ℤ) (n : ℕ) where
  abbrev pub listed : List Row
  listed = rows (take n fk) (take n fv) (take n ft) (take n fd)

rows_long : {most : ℕ} {fk fv ft : List ℕ} {fd : List ℤ} (n : ℕ) → LentFixes most fk fv ft fd → n ≤ most → length (listed fk fv ft fd n) ≡ n
rows_long {fk = fk} {fv} {ft} {fd} n l h =
    let k : length (take n fk) ≡ n = length-take-le n fk (omega (arith, l.long_k)) in
    let v : length (take n fv) ≡ n = length-take-le n fv (omega (arith, l.long_v)) in
    let t : length (take n ft) ≡ n = length-take-le n ft (omega (arith, l.long_t)) in
    let d : length (take n fd) ≡ n = length-take-le n fd (omega (arith, l.long_d)) in
    let level : Level (take n fk) (take n fv) (take n ft) (take n fd) = record { values_long = v ∙ sym k; times_long = t ∙ sym k; diffs_long = d ∙ sym k } in
    sym (length-map (listed fk fv ft fd n) key_of) ∙ ap length (rows_keys level) ∙ k

-- ---- limits
over_yet : (most : ℕ) (over : Bool) (n : ℕ) (Ds : List State) → over ≡ true → window_over most over n Ds ≡ true
unfolding window_over
over_yet most over n Ds e = rw e

over_none : (most n : ℕ) → n ≤ most → window_over most false n [] ≡ false
unfolding window_over
over_none most n h = le-ltb most (n + 0) (omega arith)

-- ---- the loop
-- of any request whose runs these are, the corrections so far and the crossings so far are those of the windows of the keys before p
pub record Looping (most : ℕ) (R : Runs) (mode width : ℕ) (keys nk nt fk fv ft : List ℕ) (fd : List ℤ) (p : ℕ) (w : Progress) : Type 0 where
  pub within : p ≤ length keys
  pub reached : Reached R.new_keys R.pending_keys R.in_keys R.out_keys (drop p keys) w
  pub next_few : w.pended ≤ most
  pub over_is : window_over most w.over w.pended (map (found_of R) (drop p keys)) ≡ window_over most false 0 (map (found_of R) keys)
  pub next_is : w.over ≡ false → pairs (take w.pended nk) (take w.pended nt) ++ pended_row (drop p keys) (map (found_of R) (drop p keys)) ≡ pended_row keys (map (found_of R) keys)
  pub fits : w.over ≡ false → w.large ≡ false → w.fixes ≤ most
  pub counts : w.over ≡ false → w.large ≡ false → w.crossings ≤ p * most_moments
  pub too_large : w.over ≡ false → w.large ≡ true → (q : Request) → Asked q mode width R keys → rows_too_large most 0 (rows_of q (windows_of q (changed q))) ≡ true
  pub through : w.over ≡ false → w.large ≡ false → (q : Request) → Asked q mode width R keys → Through most q p (listed fk fv ft fd w.fixes) w.crossings

abbrev pub fresh : Progress
fresh = record { new = 0; pending = 0; input = 0; out = 0; pended = 0; fixes = 0; crossings = 0; large = false; over = false }

pub looping_start : {most : ℕ} {R : Runs} (mode : ℕ) {width : ℕ} {keys : List ℕ} → Loops most R width keys → (nk nt fk fv ft : List ℕ) (fd : List ℤ) → Looping most R mode width keys nk nt fk fv ft fd 0 fresh
looping_start {most} mode {keys = keys} l nk nt fk fv ft fd =
    let g = l.good in
    record {
      within = omega arith;
      reached = record {
        ascends = l.ascends;
        new = all_of (λ k. reaches_start k g.new_ascends) keys;
        pending = all_of (λ k. reaches_start k g.pending_ascends) keys;
        input = all_of (λ k. reaches_start k (in_sorted g)) keys;
        out = all_of (λ k. reaches_start k (out_sorted g)) keys;
      };
      next_few = omega arith;
      over_is = refl;
      next_is = λ _. refl;
      fits = λ _ _. omega arith;
      counts = λ _ _. omega arith;
      too_large = λ _ t. clash false t refl;
      through = λ _ _ q a. through_start most q;
    }

module _ {most : ℕ} {R : Runs} {mode width : ℕ} {keys nk nt fk fv ft : List ℕ} {fd : List ℤ} {p : ℕ} {w : Progress} (L : Looping most R mode width keys nk nt fk fv ft fd p w) (l : Loops most R width keys) where
  module _ (before : p < length keys) (under : w.over ≡ false) {e : ℕ} (e-is : e ≡ min (p + width) (length keys)) where
    abbrev window : List ℕ
    window = part p e keys

    abbrev later : List ℕ
    later = drop e keys

    cut_here : drop p keys ≡ window ++ later
    cut_here = cut p e keys (omega (arith, before))

    pub looping_less : length keys - e < length keys - p
    looping_less = omega (arith, before, l.wide)

    reaches_both : {run : List ℕ} {start : ℕ} → All (Reaches run start) (drop p keys) → All (Reaches run start) (window ++ later)
    reaches_both {run} {start} r = subst (All (Reaches run start)) cut_here r

    ascends_both : ascending ltb (window ++ later) ≡ true
    ascends_both = sym (ap (ascending ltb) cut_here) ∙ L.reached.ascends

    pub looping_takes : Takes most R window w
    looping_takes =
        let n : length window ≤ 64 = omega (arith, length-take (e - p) (drop p keys), l.narrow) in
        let few : length keys ≤ 8192 = l.few in
        record {
          good = l.good;
          few = n;
          reached = record {
            ascends = ascending_first window later ascends_both;
            new = all_l window later (reaches_both L.reached.new);
            pending = all_l window later (reaches_both L.reached.pending);
            input = all_l window later (reaches_both L.reached.input);
            out = all_l window later (reaches_both L.reached.out);
          };
          next_few = L.next_few;
          fits = L.fits;
          counts = λ o t. (let c : w.crossings ≤ p * 1024 = L.counts o t in omega (arith, before));
        }

    module _ {nk' nt' fk' fv' ft' : List ℕ} {fd' : List ℤ} {r : Progress} (T : Turned most R mode window w nk nt fk fv ft fd nk' nt' fk' fv' ft' fd' r)
        (long_nk : length nk ≡ most) (long_nt : length nt ≡ most) (lent : LentFixes most fk fv ft fd) where
      abbrev its : List State
      its = map (found_of R) window

      abbrev its_row : List (ℕ × ℕ)
      its_row = pended_row window its

      found_here : map (found_of R) (drop p keys) ≡ its ++ map (found_of R) later
      found_here = ap (map (found_of R)) cut_here ∙ map-append (found_of R) window later

      row_here : pended_row (drop p keys) (map (found_of R) (drop p keys)) ≡ its_row ++ pended_row later (map (found_of R) later)
      row_here = ap (λ ks. pended_row ks (map (found_of R) ks)) cut_here ∙ row-append (found_of R) window later

      counted : window_over most w.over w.pended its ≡ false → r.pended ≡ w.pended + length (flat (λ (D : State). D.pended) its)
      counted o =
          let n = (T.next-times (T.over_is ∙ o)).end in
          omega (arith, n, length-map its_row (λ (x : ℕ × ℕ). x.1), row_count (found_of R) window)

      over_on : window_over most r.over r.pended (map (found_of R) later) ≡ window_over most false 0 (map (found_of R) keys)
      over_on =
          ap (λ b. window_over most b r.pended (map (found_of R) later)) T.over_is
          ∙ over-append most w.over w.pended r.pended its (map (found_of R) later) counted
          ∙ ap (window_over most w.over w.pended) (sym found_here) ∙ L.over_is

      next_on : r.over ≡ false → pairs (take r.pended nk') (take r.pended nt') ++ pended_row later (map (found_of R) later) ≡ pended_row keys (map (found_of R) keys)
      next_on o =
          let k = (T.next_keys o).front in
          let t = (T.next-times o).front in
          let lk : length (take w.pended nk) ≡ w.pended = length-take-le w.pended nk (omega (arith, L.next_few)) in
          let lt : length (take w.pended nt) ≡ w.pended = length-take-le w.pended nt (omega (arith, L.next_few)) in
          let grown : pairs (take r.pended nk') (take r.pended nt') ≡ pairs (take w.pended nk) (take w.pended nt) ++ its_row =
          (λ i. pairs (k i) (t i)) ∙ pairs_more (take w.pended nk) (take w.pended nt) its_row (lt ∙ sym lk) in
          ap (λ x. x ++ pended_row later (map (found_of R) later)) grown
          ∙ append_assoc (pairs (take w.pended nk) (take w.pended nt)) its_row (pended_row later (map (found_of R) later))
          ∙ ap (λ x. pairs (take w.pended nk) (take w.pended nt) ++ x) (sym row_here) ∙ L.next_is under

      abbrev new : List Row
      new = window_rows mode (map (slot_at R) window)

      abbrev crossed : ℕ
      crossed = window_crossings mode (map (slot_at R) window)

      -- corrections that are not too large now were not so before
      fitted : r.large ≡ false → w.large ≡ false
      fitted h = by-test w.large (λ t. clash r.large (T.stays_large t) h) (λ f. f)

      module _ (o : r.over ≡ false) where
        fits_on : r.large ≡ false → r.fixes ≤ most
        fits_on h =
            let s = T.settles o (fitted h) in
            let n : w.fixes + length new ≤ most = large_fits w.fixes new (sym s.listed.large_is ∙ h) in
            omega (arith, s.listed.fixes_are h)

        counts_on : r.large ≡ false → r.crossings ≤ e * most_moments
        counts_on h =
            let c : r.crossings ≡ w.crossings + crossed = (T.settles o (fitted h)).crossings_are h in
            let b : w.crossings ≤ p * 1024 = L.counts under (fitted h) in
            let m : crossed ≤ 1024 = crossings_few mode R most w.over w.pended window (sym T.over_is ∙ o) in
            let i : p < e = omega (arith, before, l.wide) in
            omega arith

        module _ {q : Request} (a : Asked q mode width R keys) where
          wide : 1 ≤ q.width
          wide = omega (arith, l.wide, a.width_is)

          end_is : e ≡ min (p + q.width) (length (changed q))
          end_is = let s = sym a.width_is in let k = sym a.keys_are in e-is ∙ (λ i. min (p + s i) (length (k i)))

          inside : p < length (changed q)
          inside = omega (arith, before, ap length a.keys_are)

          slots_here : map (slot_of q) (part p e (changed q)) ≡ map (slot_at R) window
          slots_here = ap (λ ks. map (slot_of q) (part p e ks)) a.keys_are ∙ asked_slots l.good a window

          rows_here : window_rows q.mode (map (slot_of q) (part p e (changed q))) ≡ new
          rows_here = let m = a.mode_is in let s = slots_here in λ i. window_rows (m i) (s i)

          crossed_here : window_crossings q.mode (map (slot_of q) (part p e (changed q))) ≡ crossed
          crossed_here = let m = a.mode_is in let s = slots_here in λ i. window_crossings (m i) (s i)

          module _ (h : w.large ≡ false) where
            abbrev so_far : List Row
            so_far = listed fk fv ft fd w.fixes

            so_far_long : length so_far ≡ w.fixes
            so_far_long = rows_long w.fixes lent (L.fits under h)

            large_here : rows_too_large most (length so_far) (window_rows q.mode (map (slot_of q) (part p e (changed q)))) ≡ r.large
            large_here = (let n = so_far_long in let s = rows_here in λ i. rows_too_large most (n i) (s i)) ∙ sym (T.settles o h).listed.large_is

            large_now : r.large ≡ true → rows_too_large most 0 (rows_of q (windows_of q (changed q))) ≡ true
            large_now t = through_large (L.through under h q a) e wide end_is inside (large_here ∙ t)

            through_now : r.large ≡ false → Through most q e (listed fk' fv' ft' fd' r.fixes) r.crossings
            through_now t =
                let s = T.settles o h in
                let x : so_far ++ window_rows q.mode (map (slot_of q) (part p e (changed q))) ≡ listed fk' fv' ft' fd' r.fixes = ap (λ z. so_far ++ z) rows_here ∙ sym (s.listed.rows_are t) in
                let y : w.crossings + window_crossings q.mode (map (slot_of q) (part p e (changed q))) ≡ r.crossings = ap (λ z. w.crossings + z) crossed_here ∙ sym (s.crossings_are t) in
                let z = through_more (L.through under h q a) e wide end_is inside (large_here ∙ t) in
                rw (x, y) at z

          large_on : r.large ≡ true → rows_too_large most 0 (rows_of q (windows_of q (changed q))) ≡ true
          large_on t = by-test w.large (λ h. L.too_large under h q a) (λ h. large_now h t)

      pub looping_more : Looping most R mode width keys nk' nt' fk' fv' ft' fd' e r
      looping_more = record {
        within = omega (arith, before);
        reached = record {
          ascends = ascending_later window later ascends_both;
          new = rw T.new_is (reaches_past window later ascends_both (reaches_both L.reached.new));
          pending = rw T.pending_is (reaches_past window later ascends_both (reaches_both L.reached.pending));
          input = rw T.input_is (reaches_past window later ascends_both (reaches_both L.reached.input));
          out = rw T.out_is (reaches_past window later ascends_both (reaches_both L.reached.out));
        };
        next_few = T.next_few;
        over_is = over_on;
        next_is = next_on;
        fits = fits_on;
        counts = counts_on;
        too_large = λ o t q a. large_on o a t;
        through = λ o t q a. through_now o a (fitted t) t;
      }

  module _ (past : w.over ≡ false → length keys ≤ p) where
    none_left : w.over ≡ false → drop p keys ≡ []
    none_left o = drop_of_length-le keys (past o)

    over_end : w.over ≡ window_over most false 0 (map (found_of R) keys)
    over_end =
        by-test w.over
        (λ t. t ∙ sym (over_yet most w.over w.pended (map (found_of R) (drop p keys)) t) ∙ L.over_is)
        (λ o. o ∙ sym (over_none most w.pended L.next_few) ∙ (let e = sym o in let d = sym (none_left o) in λ i. window_over most (e i) w.pended (map (found_of R) (d i))) ∙ L.over_is)

    next_end : w.over ≡ false → pairs (take w.pended nk) (take w.pended nt) ≡ pended_row keys (map (found_of R) keys)
    next_end o =
        sym (append-nil (pairs (take w.pended nk) (take w.pended nt)))
        ∙ ap (λ x. pairs (take w.pended nk) (take w.pended nt) ++ x) (sym (ap (λ ks. pended_row ks (map (found_of R) ks)) (none_left o) ∙ row_none)) ∙ L.next_is o

    module _ {q : Request} (a : Asked q mode width R keys) (o : w.over ≡ false) where
      past_all : length (changed q) ≤ p
      past_all = omega (arith, past o, ap length a.keys_are)

      large_end : w.large ≡ rows_too_large most 0 (rows_of q (windows_of q (changed q)))
      large_end =
          by-test w.large
          (λ t. t ∙ sym (L.too_large o t q a))
          (λ h. let t = L.through o h q a in h ∙ sym (ap (rows_too_large most 0) (sym (through_rows t past_all)) ∙ t.rows_fit))

    pub looping_end : Ended most R mode width keys nk nt fk fv ft fd (course_of w)
    looping_end = record {
      few_pended = L.next_few;
      few_fixes = L.fits;
      looped = λ q a. record {
        over_is = over_end ∙ sym (asked-passed l.good a);
        next_is = λ o. next_end o ∙ sym (asked_pended l.good a);
        large_is = λ o. large_end a o;
        rows_are = λ o h. through_rows (L.through o h q a) (past_all a o);
        crossings_are = λ o h. through_count (L.through o h q a) (past_all a o);
      };
    }
