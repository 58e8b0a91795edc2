-- Edits that join what is held, from columns of their own.
--
-- from_bounds, from_lays: what appending them asks. from_asks: what the advance asks. from_done: what it leaves
use Prim.Native.Nat.{ℕ, ◌+◌, ◌-◌, ◌≤◌}
use native.Mathlib.Omega.{arith}
use mathlib.Core.Path.{◌≡◌, sym, ◌∙◌, ap, subst}
use mathlib.Core.List.{List, ◌++◌}
use mathlib.Core.Option.{some}
use lib.Dec.{leb}
use lib.IntN.{ℤ, nat_abs}
use lib.ListN.{length, take, drop, length-map}
use Rattle.grid.specs.Lists.{front, past}
use Rattle.grid.proofs.Sizes.{mass}
use Rattle.rules.specs.Histories.{Edit, value_of, advance_edits}
use Rattle.consolidation.specs.Entries.{most_mass}
use Rattle.edits.specs.Edits as timed
use Rattle.edits.specs.Buffers.{LentBuffer}
use Rattle.advances.specs.Renewed.{Renewed}
use Rattle.backends.specs.Segments.{part}
use Rattle.backends.proofs.Segments.{part_length}
use Rattle.moments.specs.Present.{edits}
use Rattle.moments.proofs.Columns.{edits_long, part-edits}
use Rattle.rounds.specs.Merges.{Rows, Lays}
use Rattle.gather.specs.Gather.{Ascends, up_to, gathered, From, FromDone}
use Rattle.gather.proofs.Columns.{rows_front}
use Rattle.gather.proofs.Ends.{times_end, ends_bounds, ends_front, ends_past}
use Rattle.gather.proofs.Bounds.{front_light, gathered_light, gathered_ascends}
use Rattle.gather.proofs.Buffers.{buffer_asks, buffer_held}

module _ {a : ℕ} {sv st : List ℕ} {sd : List ℤ} {n : ℕ} {uv ut : List ℕ} {ud : List ℤ} {places firsts seconds : List ℕ} {sums : List ℤ} (p : From a sv st sd n uv ut ud places firsts seconds sums)
    (t : ℕ) {to : ℕ} (q : to ≡ a + length (front (λ u. leb u t) (drop a st))) where
  abbrev ss : List Edit
  ss = edits sv st sd

  abbrev us : List Edit
  us = edits uv ut ud

  ss_long : length ss ≡ length sv
  ss_long = edits_long sv st sd p.same_st p.same_sd

  inside : a ≤ length ss
  inside = let l : length ss ≡ length sv = ss_long in let h : a ≤ length sv = p.forth in omega arith

  end_is : to ≡ a + length (front (up_to t) (drop a ss))
  end_is = times_end t a sv st sd p.same_st p.same_sd q

  pub from_bounds : (a ≤ to) × ((to ≤ length sv) × ((to ≤ length st) × (to ≤ length sd)))
  from_bounds =
      let l : length ss ≡ length sv = ss_long in
      let b = ends_bounds t a ss inside end_is in
      let x : to ≤ length ss = b.1 in
      let y : length st ≡ length sv = p.same_st in
      let z : length sd ≡ length sv = p.same_sd in
      (b.0, (omega arith, (omega arith, omega arith)))

  abbrev new : List Edit
  new = edits (part a to sv) (part a to st) (part a to sd)

  new_is : new ≡ front (up_to t) (drop a ss)
  new_is = part-edits a to sv st sd ∙ ends_front t a ss inside end_is

  long_v : length (part a to sv) ≡ to - a
  long_v = part_length a to sv from_bounds.0 from_bounds.1.0

  long_t : length (part a to st) ≡ to - a
  long_t = part_length a to st from_bounds.0 from_bounds.1.1.0

  long_d : length (part a to sd) ≡ to - a
  long_d = part_length a to sd from_bounds.0 from_bounds.1.1.1

  pub from_lays : Lays (part a to sv) (part a to st) (part a to sd) uv ut ud n
  from_lays =
      let r : n + (length sv - a) ≤ length uv = p.room in
      let b : to ≤ length sv = from_bounds.1.0 in
      let l : length (part a to sv) ≡ to - a = long_v in
      record { same_t = long_t ∙ sym long_v; same_d = long_d ∙ sym long_v; same_yt = p.same_t; same_yd = p.same_d; room = omega arith }

  module _ {uv₁ ut₁ : List ℕ} {ud₁ : List ℤ} {c : ℕ} (lv : length uv₁ ≡ length uv) (lt : length ut₁ ≡ length ut) (ld : length ud₁ ≡ length ud) (r : Rows uv ut ud n new uv₁ ut₁ ud₁ c) where
    end : c ≡ n + (to - a)
    end = r.values.end ∙ ap (λ z. n + z) (length-map new value_of ∙ edits_long (part a to sv) (part a to st) (part a to sd) (long_t ∙ sym long_v) (long_d ∙ sym long_v) ∙ long_v)

    few : c ≤ n + (length sv - a)
    few = let e : c ≡ n + (to - a) = end in let b : to ≤ length sv = from_bounds.1.0 in omega arith

    same_t : length ut₁ ≡ length uv₁
    same_t = lt ∙ p.same_t ∙ sym lv

    same_d : length ud₁ ≡ length uv₁
    same_d = ld ∙ p.same_d ∙ sym lv

    within : c ≤ length uv₁
    within = let f : c ≤ n + (length sv - a) = few in let b : n + (length sv - a) ≤ length uv = p.room in omega arith

    row : take c (edits uv₁ ut₁ ud₁) ≡ take n us ++ front (up_to t) (drop a ss)
    row = rows_front p.same_t p.same_d r ∙ ap (λ z. take n us ++ z) new_is

    pub from_asks : LentBuffer c ut₁ uv₁ ud₁ places firsts seconds sums
    from_asks =
        let f : mass nat_abs (front (up_to t) (drop a ss)) ≤ mass nat_abs (drop a ss) = front_light t (drop a ss) in
        let l : mass nat_abs (take n us) + mass nat_abs (drop a ss) ≤ most_mass = p.light in
        buffer_asks uv₁ ut₁ ud₁ c (take n us) (front (up_to t) (drop a ss)) same_t same_d within row (omega arith) few p.scratch

    pub from_done : (m : ℕ) (uv₂ ut₂ : List ℕ) (ud₂ : List ℤ) {k : ℕ} → length uv₂ ≡ length uv₁ → length ut₂ ≡ length ut₁ → length ud₂ ≡ length ud₁
        → Renewed (advance_edits (some m) (take c (timed.edits ut₁ uv₁ ud₁))) c (timed.edits ut₁ uv₁ ud₁) (timed.edits ut₂ uv₂ ud₂) k
        → FromDone t m a ss n us (edits uv₂ ut₂ ud₂) (record { count = k; at = to })
    from_done m uv₂ ut₂ ud₂ {k} mv mt md w =
        let h : take k (edits uv₂ ut₂ ud₂) ≡ gathered t m (take n us) (drop a ss) = buffer_held uv₁ ut₁ ud₁ c (take n us) (front (up_to t) (drop a ss)) same_t same_d within row m uv₂ ut₂ ud₂ w in
        let g : drop to ss ≡ past (up_to t) (drop a ss) = ends_past t a ss inside end_is in
        let e : c ≡ n + (to - a) = end in
        let l : k ≤ c = w.within in
        let b = ends_bounds t a ss inside end_is in
        let b₁ : a ≤ to = b.0 in
        let b₂ : to ≤ length ss = b.1 in
        let i : c ≤ length uv₁ = within in
        let o : length (edits uv₂ ut₂ ud₂) ≡ length uv₂ = edits_long uv₂ ut₂ ud₂ (mt ∙ same_t ∙ sym mv) (md ∙ same_d ∙ sym mv) in
        let x : mass nat_abs (take k (edits uv₂ ut₂ ud₂)) ≡ mass nat_abs (gathered t m (take n us) (drop a ss)) = ap (mass nat_abs) h in
        let y : mass nat_abs (drop to ss) ≡ mass nat_abs (past (up_to t) (drop a ss)) = ap (mass nat_abs) g in
        let z : mass nat_abs (gathered t m (take n us) (drop a ss)) + mass nat_abs (past (up_to t) (drop a ss)) ≤ mass nat_abs (take n us) + mass nat_abs (drop a ss) = gathered_light t m (take n us) (drop a ss) in
        record {
          held_is = h;
          held_long = omega arith;
          held_ascends = subst Ascends (sym h) (gathered_ascends t m (take n us) (drop a ss));
          ahead_is = g;
          forth = b₂;
          fewer = omega arith;
          light = omega arith;
        }
