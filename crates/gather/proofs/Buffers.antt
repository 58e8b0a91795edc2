-- What is held and what joins it, at the front of three columns, advanced.
--
-- buffer_asks: what the advance asks. buffer_held, buffer_past: what it leaves at the front, and what it leaves as it was
use Prim.Native.Nat.{ℕ, ◌+◌, ◌≤◌}
use native.Mathlib.Omega.{arith}
use mathlib.Core.Path.{◌≡◌, sym, ◌∙◌, ap}
use mathlib.Core.List.{List, ◌++◌}
use mathlib.Core.Option.{some}
use lib.IntN.{ℤ, nat_abs}
use lib.ListN.{length, take, drop}
use Rattle.grid.proofs.Sizes.{mass, mass-append}
use Rattle.rules.specs.Histories.{Edit, advance_edits}
use Rattle.consolidation.specs.Entries as columns
use Rattle.consolidation.specs.Entries.{most_mass}
use Rattle.edits.specs.Edits as timed
use Rattle.edits.specs.Buffers.{LentBuffer}
use Rattle.edits.proofs.Masses.{buffer_mass}
use Rattle.advances.specs.Renewed.{Renewed}
use Rattle.moments.specs.Present.{edits}
use Rattle.gather.specs.Gather.{Scratch}
use Rattle.gather.proofs.Columns.{edits_both}

module _ (vs ts : List ℕ) (ds : List ℤ) (c : ℕ) (held new : List Edit) (p : length ts ≡ length vs) (q : length ds ≡ length vs) (h : c ≤ length vs) (row : take c (edits vs ts ds) ≡ held ++ new) where
  timed_is : take c (timed.edits ts vs ds) ≡ held ++ new
  timed_is = ap (take c) (edits_both ts vs ds) ∙ row

  pub buffer_asks : {n : ℕ} {places firsts seconds : List ℕ} {sums : List ℤ} → mass nat_abs held + mass nat_abs new ≤ most_mass → c ≤ n → Scratch n places firsts seconds sums
      → LentBuffer c ts vs ds places firsts seconds sums
  buffer_asks {n} {places} {firsts} {seconds} {sums} l k s =
      let b : columns.mass (take c ds) ≡ mass nat_abs (take c (timed.edits ts vs ds)) = buffer_mass ts vs ds (record { values = sym p; diffs = q ∙ sym p }) c in
      let e : mass nat_abs (take c (timed.edits ts vs ds)) ≡ mass nat_abs (held ++ new) = ap (mass nat_abs) timed_is in
      let f : mass nat_abs (held ++ new) ≡ mass nat_abs held + mass nat_abs new = mass-append nat_abs held new in
      let x : n ≤ length places = s.room_places in
      let y : n ≤ length firsts = s.room_firsts in
      let z : n ≤ length seconds = s.room_seconds in
      let w : n ≤ length sums = s.room_sums in
      record {
        alike = record { values = sym p; diffs = q ∙ sym p };
        within = omega arith;
        bounded = omega arith;
        room_places = omega arith;
        room_firsts = omega arith;
        room_seconds = omega arith;
        room_sums = omega arith;
      }

  module _ (m : ℕ) (vs' ts' : List ℕ) (ds' : List ℤ) {k : ℕ} (w : Renewed (advance_edits (some m) (take c (timed.edits ts vs ds))) c (timed.edits ts vs ds) (timed.edits ts' vs' ds') k) where
    pub buffer_held : take k (edits vs' ts' ds') ≡ advance_edits (some m) (held ++ new)
    buffer_held = ap (take k) (sym (edits_both ts' vs' ds')) ∙ w.buffer ∙ ap (advance_edits (some m)) timed_is

    pub buffer_past : drop c (edits vs' ts' ds') ≡ drop c (edits vs ts ds)
    buffer_past = ap (drop c) (sym (edits_both ts' vs' ds')) ∙ w.same_ahead ∙ ap (drop c) (edits_both ts vs ds)
