-- The parts of a window's keys in one run.
--
-- Searching: what the loop keeps. searching_start, searching_more, searching_end: it does
use Prim.Native.Nat.{ℕ, ◌+◌, ◌≤◌, ◌<◌}
use native.Mathlib.Omega.{arith}
use mathlib.Core.List.{List, [], ◌∷◌, map}
use mathlib.Core.Path.{◌≡◌, refl, sym, ◌∙◌, ap}
use lib.Dec.{eqb}
use lib.ListN.{length, drop, get_or, set, length-set, drop_of_length-le}
use Rattle.grid.specs.Lists.{front}
use Rattle.grid.proofs.Loops.{drop_more}
use Rattle.grid.proofs.Slices.{Laying, laying_start, laying_more, laying_end}
use Rattle.keys.specs.Spans.{Spans}
use Rattle.keys.specs.declared.Span.{Span}
use Rattle.searches.specs.Searched.{from_at, span_at, spans_from, end_from, Searched}

abbrev from_of : Span → ℕ
from_of s = s.from

abbrev to_of : Span → ℕ
to_of s = s.to

span_is : {run : List ℕ} {start k : ℕ} {s : Span} → Spans run start k s → span_at run start k ≡ s
unfolding span_at from_at
span_is {run} {start} {k} {s} e =
    let f = sym e.from_is in
    let t = sym (e.to_is ∙ ap (λ n. n + length (front (eqb k) (drop n run))) e.from_is) in
    λ i. record { from = f i; to = t i }

module _ {run : List ℕ} {start : ℕ} {s : Span} (k : ℕ) (ks : List ℕ) (e : Spans run start k s) where
  spans_next : spans_from run start (k ∷ ks) ≡ s ∷ spans_from run s.to ks
  unfolding spans_from
  spans_next = rw (span_is e)

  ends_next : end_from run start (k ∷ ks) ≡ end_from run s.to ks
  unfolding end_from
  ends_next = rw (span_is e)

spans_none : (run : List ℕ) (start : ℕ) → spans_from run start [] ≡ []
unfolding spans_from
spans_none run start = refl

ends_none : (run : List ℕ) (start : ℕ) → end_from run start [] ≡ start
unfolding end_from
ends_none run start = refl

-- ---- the loop
pub record Searching (run : List ℕ) (start : ℕ) (keys from₀ to₀ from to : List ℕ) (b at : ℕ) : Type 0 where
  pub within : b ≤ length keys
  pub from_room : length keys ≤ length from
  pub to_room : length keys ≤ length to
  pub from_are : Laying from₀ from b (map from_of (spans_from run at (drop b keys))) (map from_of (spans_from run start keys))
  pub to_are : Laying to₀ to b (map to_of (spans_from run at (drop b keys))) (map to_of (spans_from run start keys))
  pub end_is : end_from run at (drop b keys) ≡ end_from run start keys

pub searching_start : {run : List ℕ} {start : ℕ} {keys from to : List ℕ} → length keys ≤ length from → length keys ≤ length to → Searching run start keys from to from to 0 start
searching_start {run} {start} {keys} {from} {to} h g =
    record { within = omega arith; from_room = h; to_room = g; from_are = laying_start from _; to_are = laying_start to _; end_is = refl }

module _ {run : List ℕ} {start : ℕ} {keys from₀ to₀ from to : List ℕ} {b at : ℕ} (m : Searching run start keys from₀ to₀ from to b at) where
  pub searching_more : {s : Span} → b < length keys → Spans run at (get_or keys b 0) s → Searching run start keys from₀ to₀ (set from b s.from) (set to b s.to) (b + 1) s.to
  searching_more {s} h e =
      let f : length keys ≤ length from = m.from_room in
      let t : length keys ≤ length to = m.to_room in
      record {
        within = omega arith;
        from_room = simp length-set f;
        to_room = simp length-set t;
        from_are = laying_more m.from_are s.from (omega arith) (ap (map from_of) spans_here);
        to_are = laying_more m.to_are s.to (omega arith) (ap (map to_of) spans_here);
        end_is = ends_here ∙ m.end_is;
      }
    where
      spans_here : spans_from run at (drop b keys) ≡ s ∷ spans_from run s.to (drop (b + 1) keys)
      spans_here = ap (spans_from run at) (drop_more keys b 0 h) ∙ spans_next (get_or keys b 0) (drop (b + 1) keys) e

      ends_here : end_from run s.to (drop (b + 1) keys) ≡ end_from run at (drop b keys)
      ends_here = sym (ap (end_from run at) (drop_more keys b 0 h) ∙ ends_next (get_or keys b 0) (drop (b + 1) keys) e)

  pub searching_end : length keys ≤ b → Searched run start keys from₀ to₀ from to at
  searching_end h =
      let e : drop b keys ≡ [] = drop_of_length-le keys h in
      let q : b ≡ length keys = omega (arith, m.within) in
      record {
        from_are = rw q at (laying_end m.from_are (ap (λ l. map from_of (spans_from run at l)) e ∙ ap (map from_of) (spans_none run at)));
        to_are = rw q at (laying_end m.to_are (ap (λ l. map to_of (spans_from run at l)) e ∙ ap (map to_of) (spans_none run at)));
        end_is = sym (ap (end_from run at) e ∙ ends_none run at) ∙ m.end_is;
      }
