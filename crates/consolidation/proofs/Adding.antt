-- What the loop that adds up equal entries keeps.
--
-- ends_more, ends_last: what ends a run of equals
-- Adding: the entries from the i-th place on are still to be added up; k are written, and `sum` belongs to the run that begins at i
-- next_fits, goes_on, drops, stores: a turn, which adds a diff and ends a run or does not.
use Prim.Native.Nat.{ℕ, ◌≤◌, ◌<◌, ◌+◌, ◌^◌}
use native.Mathlib.Omega.{arith}
use mathlib.Core.Bool.{Bool, true, false, not}
use mathlib.Core.List.{List, [], ◌∷◌, ◌++◌, map, append-nil}
use mathlib.Core.Path.{◌≡◌, refl, sym, ◌∙◌, ap}
use lib.IntN.{ℤ, pos, nat_abs, ◌+ℤ◌}
use lib.ListN.{length, take, drop, get_or, length-set, drop_of_length-le}
use lib.Signed.{mag}
use mir.Syntax.{w64}
use mir.Val.{of_z, to_z, SFits}
use borrow.Author.Tests.{eq-eqb, ne_eqb}
use Rattle.grid.specs.Consolidate.{is_zero}
use Rattle.grid.proofs.Loops.{put_more, drop_more, map_more}
use Rattle.grid.proofs.Sizes.{sizing_nat_abs}
use Rattle.slices.specs.Places.{diff_entry}
use Rattle.grid.proofs.Signed.{back, mag_le, zero_test}
use Rattle.distinct.specs.Sets.{ends_run}
use Rattle.consolidation.specs.Entries.{Entry, first, second, diff, entry_at, pair_at, same_pair, mass, most_mass, Stored, Written}
use Rattle.consolidation.proofs.Squash.{key, squash}

-- ---- pairs
module _ (a b places : List ℕ) (i : ℕ) where
  pub ends_more : {r : Bool} → i + 1 < length places → r ≡ same_pair (pair_at a b (get_or places i 0)) (pair_at a b (get_or places (i + 1) 0))
      → not r ≡ ends_run same_pair (map (pair_at a b) (drop i places))
  unfolding ends_run
  ends_more h e = ap not e ∙ sym (rw (drop_more places i 0 (omega arith), drop_more places (i + 1) 0 h))

  pub ends_last : i < length places → length places ≤ i + 1 → true ≡ ends_run same_pair (map (pair_at a b) (drop i places))
  unfolding ends_run
  ends_last h k = sym (rw (drop_more places i 0 h, drop_of_length-le places k))

-- ---- the entries from the i-th place on
module _ (a b : List ℕ) (d : List ℤ) where
  abbrev from : List ℕ → ℕ → List Entry
  from places i = map (entry_at a b d) (drop i places)

  keys_are : (l : List ℕ) → map key (map (entry_at a b d) l) ≡ map (pair_at a b) l
  keys_are [] = refl
  keys_are (x ∷ l) = ap (λ r. pair_at a b x ∷ r) (keys_are l)

  module _ (places : List ℕ) (i : ℕ) (h : i < length places) where
    abbrev here : Entry
    here = entry_at a b d (get_or places i 0)

    from_more : from places i ≡ here ∷ from places (i + 1)
    from_more = map_more (entry_at a b d) places i 0 h

    run_is : {t : Bool} → ends_run same_pair (map (pair_at a b) (drop i places)) ≡ t → ends_run same_pair (map key (here ∷ from places (i + 1))) ≡ t
    run_is e = ap (λ l. ends_run same_pair (map key l)) (sym from_more) ∙ ap (ends_run same_pair) (keys_are (drop i places)) ∙ e

    module _ (sum z : ℤ) (q : z ≡ sum +ℤ diff here) where
      squash_on : ends_run same_pair (map (pair_at a b) (drop i places)) ≡ false → squash same_pair sum (from places i) ≡ squash same_pair z (from places (i + 1))
      unfolding squash
      squash_on e = rw (from_more, run_is e, q)

      squash_zero : ends_run same_pair (map (pair_at a b) (drop i places)) ≡ true → is_zero z ≡ true → squash same_pair sum (from places i) ≡ squash same_pair (pos 0) (from places (i + 1))
      unfolding squash
      squash_zero e o = rw (from_more, run_is e, ← q, o)

      squash_store : ends_run same_pair (map (pair_at a b) (drop i places)) ≡ true → is_zero z ≡ false → squash same_pair sum (from places i) ≡ (key here, z) ∷ squash same_pair (pos 0) (from places (i + 1))
      unfolding squash
      squash_store e o = rw (from_more, run_is e, ← q, o)

    mass_more : mass (map (diff_entry d) (drop i places)) ≡ nat_abs (diff here) + mass (map (diff_entry d) (drop (i + 1) places))
    unfolding mass
    mass_more = rw (map_more (diff_entry d) places i 0 h)

pub record Adding (a b : List ℕ) (d : List ℤ) (places firsts seconds : List ℕ) (diffs : List ℤ) (sum : ℤ) (i k : ℕ) : Type 0 where
  pub ki : k ≤ i
  pub il : i ≤ length places
  pub long_first : length firsts ≡ length places
  pub long_second : length seconds ≡ length places
  pub long_diff : length diffs ≡ length places
  pub small : nat_abs sum + mass (map (diff_entry d) (drop i places)) ≤ most_mass
  pub done_first : take k firsts ++ map first (squash same_pair sum (map (entry_at a b d) (drop i places))) ≡ map first (squash same_pair (pos 0) (map (entry_at a b d) places))
  pub done_second : take k seconds ++ map second (squash same_pair sum (map (entry_at a b d) (drop i places))) ≡ map second (squash same_pair (pos 0) (map (entry_at a b d) places))
  pub done_diff : take k diffs ++ map diff (squash same_pair sum (map (entry_at a b d) (drop i places))) ≡ map diff (squash same_pair (pos 0) (map (entry_at a b d) places))

module _ {a b : List ℕ} {d : List ℤ} {places firsts seconds : List ℕ} {diffs : List ℤ} {sum : ℤ} {i k : ℕ} (m : Adding a b d places firsts seconds diffs sum i k) (h : i < length places) where
  sum_small : nat_abs (sum +ℤ get_or d (get_or places i 0) (pos 0)) + mass (map (diff_entry d) (drop (i + 1) places)) ≤ most_mass
  sum_small =
      let s : nat_abs sum + mass (map (diff_entry d) (drop i places)) ≤ most_mass = m.small in
      let e : mass (map (diff_entry d) (drop i places)) ≡ nat_abs (get_or d (get_or places i 0) (pos 0)) + mass (map (diff_entry d) (drop (i + 1) places)) = mass_more a b d places i h in
      let n : nat_abs (sum +ℤ get_or d (get_or places i 0) (pos 0)) ≤ nat_abs sum + nat_abs (get_or d (get_or places i 0) (pos 0)) = sizing_nat_abs.plus sum (get_or d (get_or places i 0) (pos 0)) in
      omega arith

  rest_small : nat_abs (pos 0) + mass (map (diff_entry d) (drop (i + 1) places)) ≤ most_mass
  rest_small = let s : nat_abs (sum +ℤ get_or d (get_or places i 0) (pos 0)) + mass (map (diff_entry d) (drop (i + 1) places)) ≤ most_mass = sum_small in omega arith

  pub sum_fits : {x : ℤ} → x ≡ get_or d (get_or places i 0) (pos 0) → mag (sum +ℤ x) < 2 ^ 63
  sum_fits {x} e =
      let s : nat_abs (sum +ℤ get_or d (get_or places i 0) (pos 0)) + mass (map (diff_entry d) (drop (i + 1) places)) ≤ most_mass = sum_small in
      let n : mag (sum +ℤ get_or d (get_or places i 0) (pos 0)) ≤ nat_abs (sum +ℤ get_or d (get_or places i 0) (pos 0)) = mag_le (sum +ℤ get_or d (get_or places i 0) (pos 0)) in
      rw e (omega arith)

  module _ (z : ℤ) (q : z ≡ sum +ℤ get_or d (get_or places i 0) (pos 0)) where
    pub adding_on : ends_run same_pair (map (pair_at a b) (drop i places)) ≡ false → Adding a b d places firsts seconds diffs z (i + 1) k
    adding_on e =
        let ki : k ≤ i = m.ki in
        let step = sym (squash_on a b d places i h sum z q e) in
        record {
          ki = omega arith;
          il = omega arith;
          long_first = m.long_first;
          long_second = m.long_second;
          long_diff = m.long_diff;
          small = rw q sum_small;
          done_first = ap (λ l. take k firsts ++ map first l) step ∙ m.done_first;
          done_second = ap (λ l. take k seconds ++ map second l) step ∙ m.done_second;
          done_diff = ap (λ l. take k diffs ++ map diff l) step ∙ m.done_diff;
        }

    pub adding_zero : ends_run same_pair (map (pair_at a b) (drop i places)) ≡ true → is_zero z ≡ true → Adding a b d places firsts seconds diffs (pos 0) (i + 1) k
    adding_zero e o =
        let ki : k ≤ i = m.ki in
        let step = sym (squash_zero a b d places i h sum z q e o) in
        record {
          ki = omega arith;
          il = omega arith;
          long_first = m.long_first;
          long_second = m.long_second;
          long_diff = m.long_diff;
          small = rest_small;
          done_first = ap (λ l. take k firsts ++ map first l) step ∙ m.done_first;
          done_second = ap (λ l. take k seconds ++ map second l) step ∙ m.done_second;
          done_diff = ap (λ l. take k diffs ++ map diff l) step ∙ m.done_diff;
        }

    pub adding_store : {firsts' seconds' : List ℕ} {diffs' : List ℤ} → ends_run same_pair (map (pair_at a b) (drop i places)) ≡ true → is_zero z ≡ false
        → Stored (pair_at a b (get_or places i 0)) z k firsts seconds diffs firsts' seconds' diffs' → Adding a b d places firsts' seconds' diffs' (pos 0) (i + 1) (k + 1)
    adding_store e o t =
        let ki : k ≤ i = m.ki in
        let lf : length firsts ≡ length places = m.long_first in
        let ls : length seconds ≡ length places = m.long_second in
        let ld : length diffs ≡ length places = m.long_diff in
        let step = squash_store a b d places i h sum z q e o in
        record {
          ki = omega arith;
          il = omega arith;
          long_first = ap length t.first_is ∙ simp length-set lf;
          long_second = ap length t.second_is ∙ simp length-set ls;
          long_diff = ap length t.diff_is ∙ simp length-set ld;
          small = rest_small;
          done_first = rw t.first_is (put_more firsts k (get_or a (get_or places i 0) 0) (omega arith) m.done_first (ap (map first) step));
          done_second = rw t.second_is (put_more seconds k (get_or b (get_or places i 0) 0) (omega arith) m.done_second (ap (map second) step));
          done_diff = rw t.diff_is (put_more diffs k z (omega arith) m.done_diff (ap (map diff) step));
        }

-- all is added up
ended : {A : Type 0} (f : Entry → A) (out : List A) (k : ℕ) (sum : ℤ) (goal : List Entry) {es : List Entry} → es ≡ [] → take k out ++ map f (squash same_pair sum es) ≡ map f goal → take k out ≡ map f goal
unfolding squash
ended f out k sum goal e q = sym (append-nil (take k out)) ∙ ap (λ l. take k out ++ map f (squash same_pair sum l)) (sym e) ∙ q

-- x is the diff at the i-th place, and it is added in a local
module _ {a b : List ℕ} {d : List ℤ} {places firsts seconds : List ℕ} {diffs : List ℤ} {sum : ℤ} {i k : ℕ} (m : Adding a b d places firsts seconds diffs sum i k) (h : i < length places)
    {x : ℤ} (small : mag x < 2 ^ 63) (x_is : x ≡ get_or d (get_or places i 0) (pos 0)) where
  abbrev next : ℤ
  next = sum +ℤ to_z w64 (of_z w64 x)

  next_is : next ≡ sum +ℤ get_or d (get_or places i 0) (pos 0)
  next_is = ap (λ z. sum +ℤ z) (back small ∙ x_is)

  next_small : mag next < 2 ^ 63
  next_small = sum_fits m h (back small ∙ x_is)

  pub next_fits : SFits w64 next
  next_fits = record { sfits = next_small }

  pub goes_on : ends_run same_pair (map (pair_at a b) (drop i places)) ≡ false → Adding a b d places firsts seconds diffs (to_z w64 (of_z w64 next)) (i + 1) k
  goes_on e = adding_on m h _ (back next_small ∙ next_is) e

  pub drops : ends_run same_pair (map (pair_at a b) (drop i places)) ≡ true → of_z w64 next ≡ 0 → Adding a b d places firsts seconds diffs (pos 0) (i + 1) k
  drops e o = adding_zero m h next next_is e (sym (zero_test next next_fits) ∙ eq-eqb _ _ o)

  pub stores : {firsts' seconds' : List ℕ} {diffs' : List ℤ} → ends_run same_pair (map (pair_at a b) (drop i places)) ≡ true → (of_z w64 next ≡ 0 → ⊥)
      → Stored (pair_at a b (get_or places i 0)) (to_z w64 (of_z w64 next)) k firsts seconds diffs firsts' seconds' diffs' → Adding a b d places firsts' seconds' diffs' (pos 0) (i + 1) (k + 1)
  stores e o t = adding_store m h _ (back next_small ∙ next_is) e (ap is_zero (back {z = next} next_small) ∙ sym (zero_test next next_fits) ∙ ne_eqb _ _ o) t

pub adding_end : {a b : List ℕ} {d : List ℤ} {places firsts seconds : List ℕ} {diffs : List ℤ} {sum : ℤ} {i k : ℕ} (es : List Entry)
    → Adding a b d places firsts seconds diffs sum i k → length places ≤ i → squash same_pair (pos 0) (map (entry_at a b d) places) ≡ es → Written es (length places) k firsts seconds diffs
adding_end {a} {b} {d} {places} {firsts} {seconds} {diffs} {sum} {i} {k} es m h e =
    let ki : k ≤ i = m.ki in
    let il : i ≤ length places = m.il in
    let all = squash same_pair (pos 0) (map (entry_at a b d) places) in
    let nothing : map (entry_at a b d) (drop i places) ≡ [] = ap (map (entry_at a b d)) (drop_of_length-le places h) in
    record {
      fits = omega arith;
      firsts_are = ended first firsts k sum all nothing m.done_first ∙ ap (map first) e;
      seconds_are = ended second seconds k sum all nothing m.done_second ∙ ap (map second) e;
      diffs_are = ended diff diffs k sum all nothing m.done_diff ∙ ap (map diff) e;
      long_first = m.long_first;
      long_second = m.long_second;
      long_diff = m.long_diff;
    }
