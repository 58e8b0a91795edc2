-- All five stepped past n, together.
--
-- all_popped: the parts, at the columns and places of a walk
use Prim.Native.Nat.{ℕ, ◌+◌}
use native.Mathlib.Omega.{arith}
use mathlib.Core.Bool.{Bool, ◌||◌}
use mathlib.Core.List.{List, ◌++◌, append_assoc}
use mathlib.Core.Path.{◌≡◌, refl, sym, ◌∙◌, ap}
use lib.Dec.{ltb, eqb}
use lib.IntN.{ℤ}
use lib.ListN.{length, take, drop}
use Rattle.grid.specs.Lists.{front}
use Rattle.times.specs.Meets.{optional}
use Rattle.rules.specs.Histories.{time_of}
use Rattle.histories.specs.Places.{Steps}
use Rattle.histories.specs.declared.Place.{Place}
use Rattle.histories.specs.declared.Stepped.{Stepped}
use Rattle.edits.specs.Edits.{edits, Alike}
use Rattle.edits.proofs.Edits.{length-edits}
use Rattle.pops.specs.Popping.{SeedsStepped, Tracking, Taking, Popping}
use Rattle.pops.specs.Standing.{Standing}
use Rattle.pops.specs.declared.Walk.{Walk}
use Rattle.pops.specs.declared.Taken.{Taken}
use Rattle.pops.proofs.Tracks.{steps_later}

pub all_popped : {n : ℕ} {seeds pending times values : List ℕ} {diffs : List ℤ} {output waiting tracked : List ℕ} {p : Walk}
    (times' values' : List ℕ) (diffs' : List ℤ) {seeds' output' waiting' tracked₁ tracked₂ : List ℕ} {i o s : Stepped} {t : Place} {w : Taken} {hit : Bool}
    → Standing seeds pending times values diffs output p
    → length times' ≡ length times → length values' ≡ length values → length diffs' ≡ length diffs → length output' ≡ length output
    → Steps (λ e. eqb n (time_of e)) (edits times values diffs) p.input (edits times' values' diffs') i
    → Steps (eqb n) output p.output output' o
    → SeedsStepped (optional p.m) n seeds p.seeds seeds' s
    → Tracking n pending p.pending tracked p.tracked tracked₁ t
    → Taking n waiting p.waiting tracked₁ t.count waiting' tracked₂ w
    → hit ≡ (s.moved || (ltb p.pending t.at || ltb w.waiting p.waiting))
    → Popping n seeds pending (edits times values diffs) output waiting tracked p seeds' (edits times' values' diffs') output' waiting' tracked₂ hit
    (record { seeds = s.place; pending = t.at; input = i.place; output = o.place; waiting = w.waiting; tracked = w.tracked; moments = p.moments; pended = p.pended; m = p.m })
all_popped {n} {seeds} {pending} {times} {values} {diffs} {output} {waiting} {tracked} {p} times' values' diffs' {seeds'} {output'} {waiting'} {tracked₁} {tracked₂} {i} {o} {s} {t} {w} g lt lv ld lo hi ho hs ht hw e =
    let a : Alike times values diffs = g.input_alike in
    let a' : Alike times' values' diffs' = record { values = lv ∙ a.values ∙ sym lt; diffs = ld ∙ a.diffs ∙ sym lt } in
    let n₁ : length (edits times values diffs) ≡ length times = length-edits times values diffs a in
    let n₂ : length (edits times' values' diffs') ≡ length times' = length-edits times' values' diffs' a' in
    let c₁ : t.count + p.pending ≡ p.tracked + t.at = ht.counted in
    let c₂ : w.tracked + w.waiting ≡ t.count + p.waiting = hw.counted in
    record {
      seeds_are = hs.history;
      seeds_placed = hs.placed;
      seeds_ahead = hs.same_ahead;
      seeds_later = hs.later;
      pending_is = ht.ahead;
      pending_within = ht.within;
      pending_later = ht.later;
      input_is = hi.history;
      input_placed = hi.placed;
      input_ahead = hi.same_ahead;
      input_later = steps_later (rw n₁ g.input_placed) (n₂ ∙ lt ∙ sym n₁) hi;
      output_is = ho.history;
      output_placed = ho.placed;
      output_ahead = ho.same_ahead;
      output_later = steps_later g.output_placed lo ho;
      waiting_set = hw.set;
      waiting_is = hw.rest;
      waiting_fewer = hw.fewer;
      waiting_one = hw.one;
      waiting_told = hw.told;
      tracked_is = hw.held ∙ ap (λ l. l ++ front (eqb n) (take p.waiting waiting)) ht.held ∙ append_assoc (take p.tracked tracked) (front (eqb n) (drop p.pending pending)) (front (eqb n) (take p.waiting waiting));
      tracked_counted = omega arith;
      hit_is = e ∙ (λ k. hs.told k || (ht.told k || hw.told k));
      same_moments = refl;
      same_pended = refl;
      same_m = refl;
    }
