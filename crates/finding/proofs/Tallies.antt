-- One key's discovery, counted.
--
-- moments_inside: where the row goes on. lending: what discover_key asks. slot_within, slot_counts: what is counted of its answer. finds_slot: what one key's discovery leaves
use Rattle.std.specs.Prelude.{Option, is_none}
use Prim.Native.Nat.{ℕ, suc, ◌+◌, ◌-◌, ◌≤◌}
use native.Mathlib.Nat.{sub-zero}
use native.Mathlib.Omega.{arith}
use mathlib.Core.Bool.{true, false, ◌||◌}
use mathlib.Core.List.{List, ◌++◌}
use mathlib.Core.Path.{◌≡◌, refl, sym, ◌∙◌, ap}
use lib.Dec.{ltb}
use lib.IntN.{ℤ}
use lib.ListN.{length, take}
use lib.Seq.{length-take-le, take-append-add, take-append-le}
use borrow.Rule.Slice.PartMut.{mid_of, post_of, put_mid, mid_len}
use Rattle.grid.proofs.Tests.{by-test, clash, or_false_l, or_false_r}
use Rattle.rules.specs.Discover.{most_moments, State, discover}
use Rattle.edits.specs.Edits.{edits}
use Rattle.discover.specs.Finding.{Finds, limited, counted, Lending}
use Rattle.discover.specs.declared.Found.{Found}
use Rattle.discover.proofs.Limits.{finds_few}
use Rattle.tallies.specs.Appends.{Appends}
use Rattle.tallies.specs.Tallied.{most_window, moments_count, pended_count, Counts, Tallied}
use Rattle.tallies.specs.declared.Tally.{Tally}
use Rattle.finding.specs.Tallies.{Scratch, LentTally, LentSlot, Extends, slot_over, FindsSlot}

-- ---- what discover_key asks
module _ {most : ℕ} {moments nextkeys nexttimes : List ℕ} {p : Tally} (t : LentTally most moments nextkeys nexttimes p) where
  pub moments_inside : p.moments ≤ length moments
  moments_inside = omega (arith, t.moments_room)

module _ {most : ℕ} {seedtimes pending intimes invalues : List ℕ} {indiffs : List ℤ} {outtimes moments nextkeys nexttimes : List ℕ} {p : Tally}
    (l : LentSlot most seedtimes pending intimes invalues indiffs outtimes moments nextkeys nexttimes p) where
  room_left : suc most_moments ≤ length (mid_of p.moments (length moments - p.moments) moments)
  room_left = omega (arith, l.goes_on.moments_room, mid_len p.moments (length moments) moments (omega arith))

  pub lending : {seeds times values : List ℕ} {diffs : List ℤ} {output meets waiting tracked pended work places wvalues : List ℕ} {wdiffs : List ℤ}
      → Scratch most seeds times values diffs output meets waiting tracked pended work places wvalues wdiffs
      → Lending seedtimes pending intimes invalues indiffs outtimes seeds times values diffs output meets waiting tracked (mid_of p.moments (length moments - p.moments) moments) pended work places wvalues wdiffs
  lending s =
      record {
        input = record {
          lent = l.input_lent;
          alike = s.input_alike;
          room = omega (arith, l.input_few, s.input_room);
          room_joins = omega (arith, l.input_few, s.work_room);
          room_places = omega (arith, l.input_few, s.places_room);
        };
        seeds_room = omega (arith, l.seeds_few, s.seeds_room);
        output_room = omega (arith, l.output_few, s.output_room);
        meets_room = omega (arith, l.seeds_few, l.pending_few, l.input_few, l.output_few, s.meets_room);
        for_seeds = omega (arith, l.seeds_few, s.work_room);
        for_output = omega (arith, l.output_few, s.work_room);
        for_tracked = s.for_tracked;
        for_values = omega (arith, l.input_few, s.wvalues_room);
        for_diffs = omega (arith, l.input_few, s.wdiffs_room);
        waiting_room = s.waiting_room;
        pended_room = s.pended_room;
        moments_room = room_left;
        tracked_room = omega (arith, l.pending_few, s.tracked_room);
      }

-- ---- what is counted of its answer
finds_over : {D : State} {ms pended : List ℕ} {r : Option Found} → Finds D ms pended r → is_none r ≡ D.over
finds_over (limited e) = sym e
finds_over (counted f e m p) = sym e

finds_moments : {D : State} {ms pended : List ℕ} {r : Option Found} → Finds D ms pended r → is_none r ≡ false → take (moments_count r) ms ≡ D.moments
finds_moments (limited e) o = clash true refl o
finds_moments (counted f e m p) o = m

finds_pended : {D : State} {ms pended : List ℕ} {r : Option Found} → Finds D ms pended r → is_none r ≡ false → take (pended_count r) pended ≡ D.pended
finds_pended (limited e) o = clash true refl o
finds_pended (counted f e m p) o = p

counts : {r : Option Found} {p : Tally} → p.moments ≤ most_window → moments_count r ≤ most_moments → Counts p r
counts h few = record { before_few = h; found_few = few }

-- ---- what one key's discovery leaves
module _ {most : ℕ} {D : State} {k : ℕ} {p : Tally} (moments : List ℕ) {ms pended nextkeys nexttimes nextkeys' nexttimes' : List ℕ} {r : Option Found} {c n : ℕ} {q : Tally}
    (F : Finds D ms pended r) (few : moments_count r ≤ most_moments)
    (long : suc most_moments ≤ length ms) (within : p.moments ≤ length moments) (c-is : c ≡ pended_count r)
    (A : Appends most k p.pended (take c pended) nextkeys nexttimes nextkeys' nexttimes' n) (T : Tallied most p r n q) (next : p.pended ≤ most) where
  added : is_none r ≡ false → take c pended ≡ D.pended
  added e = ap (λ i. take i pended) c-is ∙ finds_pended F e

  over_slot : q.over ≡ slot_over most p.over p.pended D
  unfolding slot_over
  over_slot =
      T.over_is
      ∙ by-test (is_none r)
      (λ e. let d : D.over ≡ true = sym (finds_over F) ∙ e in rw (e, d))
      (λ e. let d : D.over ≡ false = sym (finds_over F) ∙ e in rw (e, d) (ap (λ i. p.over || ltb most i) (A.counted ∙ ap (λ l. p.pended + length l) (added e))))

  found : q.over ≡ false → is_none r ≡ false
  found o = or_false_l (is_none r) (ltb most n) (or_false_r p.over _ (sym T.over_is ∙ o))

  moments_long : q.over ≡ false → moments_count r ≡ length D.moments
  moments_long o = sym (length-take-le (moments_count r) ms (omega arith)) ∙ ap length (finds_moments F (found o))

  moments_on : (o : q.over ≡ false) → Extends moments p.moments D.moments (put_mid p.moments (length moments - p.moments) moments ms) q.moments
  moments_on o =
      let rest = post_of p.moments (length moments - p.moments) moments in
      let m : length (take p.moments moments) ≡ p.moments = length-take-le p.moments moments within in
      record {
        end = T.moments_are o ∙ ap (λ i. p.moments + i) (moments_long o);
        front =
            ap (λ i. take i (put_mid p.moments (length moments - p.moments) moments ms)) (T.moments_are o ∙ ap (λ i. i + moments_count r) (sym m))
            ∙ take-append-add (take p.moments moments) (ms ++ rest) (moments_count r)
            ∙ ap (λ l. take p.moments moments ++ l) (take-append-le (moments_count r) ms rest (omega arith) ∙ finds_moments F (found o));
      }

  slot_found : FindsSlot most D k p moments nextkeys nexttimes (put_mid p.moments (length moments - p.moments) moments ms) nextkeys' nexttimes' q
  slot_found =
      record {
        over_is = over_slot;
        moments_few = T.moments_few;
        next_few = T.pended_few next;
        moments_are = moments_on;
        keys_are = λ o. let w = T.pended_are o in rw (← added (found o), w.0) (A.keys_are w.1);
        times_are = λ o. let w = T.pended_are o in rw (← added (found o), w.0) (A.times_are w.1);
      }

module _ (upper : List ℕ) {most : ℕ} {seedtimes pending intimes invalues : List ℕ} {indiffs : List ℤ} {outtimes moments nextkeys nexttimes : List ℕ} {p : Tally}
    (l : LentSlot most seedtimes pending intimes invalues indiffs outtimes moments nextkeys nexttimes p)
    {seeds times values : List ℕ} {diffs : List ℤ} {output meets waiting tracked pended work places wvalues : List ℕ} {wdiffs : List ℤ}
    (s : Scratch most seeds times values diffs output meets waiting tracked pended work places wvalues wdiffs)
    {ms pended' : List ℕ} {r : Option Found} (F : Finds (discover upper seedtimes pending (edits intimes invalues indiffs) outtimes) ms pended' r)
    (same_ms : length ms ≡ length (mid_of p.moments (length moments - p.moments) moments)) (same_pended : length pended' ≡ length pended) where
  long_ms : suc most_moments ≤ length ms
  long_ms = omega (arith, room_left l, same_ms)

  long_pended : suc most_moments ≤ length pended'
  long_pended = omega (arith, s.pended_room, same_pended)

  few : (moments_count r ≤ most_moments) × (pended_count r ≤ most_moments)
  few = go F
    where
      go : {o : Option Found} → Finds (discover upper seedtimes pending (edits intimes invalues indiffs) outtimes) ms pended' o → (moments_count o ≤ most_moments) × (pended_count o ≤ most_moments)
      go (limited e) = (omega arith, omega arith)
      go (counted f e m p) = finds_few upper seedtimes pending (edits intimes invalues indiffs) outtimes (counted f e m p) long_ms long_pended

  pub slot_within : {c : ℕ} → c ≡ pended_count r → c ≤ length pended'
  slot_within e = let a : pended_count r ≤ most_moments = few.1 in let b = long_pended in omega arith

  pub slot_counts : Counts p r
  slot_counts = counts l.goes_on.moments_few few.0

  pub finds_slot : {k c n : ℕ} {nextkeys' nexttimes' : List ℕ} {q : Tally} → c ≡ pended_count r → Appends most k p.pended (take (c - 0) pended') nextkeys nexttimes nextkeys' nexttimes' n → length nextkeys' ≡ length nextkeys → Tallied (length nextkeys') p r n q
      → FindsSlot most (discover upper seedtimes pending (edits intimes invalues indiffs) outtimes) k p moments nextkeys nexttimes (put_mid p.moments (length moments - p.moments) moments ms) nextkeys' nexttimes' q
  finds_slot {c = c} e A same T =
      slot_found moments F few.0 long_ms (moments_inside l.goes_on) e (rw (sub-zero c) at A) (rw (same ∙ l.goes_on.next_room.keys_room) at T) l.goes_on.next_room.within
