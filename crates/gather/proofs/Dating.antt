-- The loop that appends a correction as edits.
--
-- Dating: the entries before i are written, and end at k. dating_start, dating_more, dating_end: the loop keeps that. in-*: what a turn asks
use Prim.Native.Nat.{ℕ, zero, suc, ◌+◌, ◌<◌, ◌≤◌}
use native.Mathlib.Omega.{arith}
use mathlib.Core.Path.{◌≡◌, refl, sym, ◌∙◌, ap}
use mathlib.Core.List.{List, [], ◌∷◌, map}
use lib.IntN.{ℤ, pos}
use lib.ListN.{length, drop, get_or, set, drop_of_length-le, length-map}
use Rattle.grid.proofs.Loops.{drop_more}
use Rattle.rules.specs.Histories.{Edit, time_of, value_of}
use Rattle.rules.specs.Retire.{dated}
use Rattle.backends.specs.Columns.{entries}
use Rattle.backends.proofs.Columns.{Writing, writing_start, writing_more, writing_end, length-entries, get_or-entries}
use Rattle.rounds.specs.Merges.{Rows}
use Rattle.gather.specs.Gather.{Dates}

module _ (cv : List ℕ) (cd : List ℤ) (t : ℕ) where
  -- what is left from the i-th on
  abbrev left : ℕ → List Edit
  left i = drop i (dated t (entries cv cd))

get_d_map : {A B : Type 0} (f : A → B) (l : List A) (i : ℕ) (d : A) → get_or (map f l) i (f d) ≡ f (get_or l i d)
get_d_map f [] i d = refl
get_d_map f (x ∷ l) zero d = refl
get_d_map f (x ∷ l) (suc i) d = get_d_map f l i d

dated-at : (t : ℕ) (cv : List ℕ) (cd : List ℤ) (i : ℕ) → length cd ≡ length cv → get_or (dated t (entries cv cd)) i ((t, 0), pos 0) ≡ ((t, get_or cv i 0), get_or cd i (pos 0))
unfolding dated
dated-at t cv cd i q = get_d_map {A = ℕ × ℤ} {B = Edit} (λ p. ((t, p.0), p.1)) (entries cv cd) i (0, pos 0) ∙ ap {A = ℕ × ℤ} {B = Edit} (λ p. ((t, p.0), p.1)) (get_or-entries cv cd i q)

pub record Dating (cv : List ℕ) (cd : List ℤ) (t : ℕ) (uv₀ ut₀ : List ℕ) (ud₀ : List ℤ) (at : ℕ) (uv ut : List ℕ) (ud : List ℤ) (i k : ℕ) : Type 0 where
  pub asks : Dates cv cd uv₀ ut₀ ud₀ at
  pub within : i ≤ length cv
  pub even : k ≡ at + i
  pub values : Writing uv₀ at (map value_of (left cv cd t 0)) uv k (map value_of (left cv cd t i))
  pub times : Writing ut₀ at (map time_of (left cv cd t 0)) ut k (map time_of (left cv cd t i))
  pub diffs : Writing ud₀ at (map (λ (e : Edit). e.1) (left cv cd t 0)) ud k (map (λ (e : Edit). e.1) (left cv cd t i))

pub dating_start : {cv : List ℕ} {cd : List ℤ} (t : ℕ) {uv ut : List ℕ} {ud : List ℤ} {at : ℕ} → Dates cv cd uv ut ud at → Dating cv cd t uv ut ud at uv ut ud 0 at
dating_start {cv} {cd} t {uv} {ut} {ud} {at} a = record {
  asks = a;
  within = omega arith;
  even = omega arith;
  values = writing_start uv at (map value_of (left cv cd t 0));
  times = writing_start ut at (map time_of (left cv cd t 0));
  diffs = writing_start ud at (map (λ (e : Edit). e.1) (left cv cd t 0));
}

module _ {cv : List ℕ} {cd : List ℤ} {t : ℕ} {uv₀ ut₀ : List ℕ} {ud₀ : List ℤ} {at : ℕ} {uv ut : List ℕ} {ud : List ℤ} {i k : ℕ} (m : Dating cv cd t uv₀ ut₀ ud₀ at uv ut ud i k) where
  dated_long : length (dated t (entries cv cd)) ≡ length cv
  unfolding dated
  dated_long = length-map {B = Edit} (entries cv cd) (λ p. ((t, p.0), p.1)) ∙ length-entries cv cd m.asks.same_c

  module _ (h : i < length cv) where
    pub in_diffs_lem : i < length cd
    in_diffs_lem = let e : length cd ≡ length cv = m.asks.same_c in omega arith

    room : k < length uv₀
    room = let r : at + length cv ≤ length uv₀ = m.asks.room in let e : k ≡ at + i = m.even in omega arith

    pub in_uv : k < length uv
    in_uv = let r : k < length uv₀ = room in let s : length uv ≡ length uv₀ = m.values.same in omega arith

    pub in_ut : k < length ut
    in_ut = let r : k < length uv₀ = room in let s : length ut ≡ length ut₀ = m.times.same in let q : length ut₀ ≡ length uv₀ = m.asks.same_t in omega arith

    pub in_ud : k < length ud
    in_ud = let r : k < length uv₀ = room in let s : length ud ≡ length ud₀ = m.diffs.same in let q : length ud₀ ≡ length uv₀ = m.asks.same_d in omega arith

    here : (d : ℤ) → d ≡ get_or cd i (pos 0) → left cv cd t i ≡ ((t, get_or cv i 0), d) ∷ left cv cd t (i + 1)
    here d q =
        let l : length (dated t (entries cv cd)) ≡ length cv = dated_long in
        drop_more (dated t (entries cv cd)) i ((t, 0), pos 0) (omega arith) ∙ ap (λ z. z ∷ left cv cd t (i + 1)) (dated-at t cv cd i m.asks.same_c ∙ ap (λ z. ((t, get_or cv i 0), z)) (sym q))

    pub dating_more : (d : ℤ) → d ≡ get_or cd i (pos 0) → Dating cv cd t uv₀ ut₀ ud₀ at (set uv k (get_or cv i 0)) (set ut k t) (set ud k d) (i + 1) (k + 1)
    unfolding value_of time_of
    dating_more d q =
        let e : k ≡ at + i = m.even in
        let s : left cv cd t i ≡ ((t, get_or cv i 0), d) ∷ left cv cd t (i + 1) = here d q in
        record {
          asks = m.asks;
          within = omega arith;
          even = omega arith;
          values = writing_more m.values (get_or cv i 0) in_uv (ap (map value_of) s);
          times = writing_more m.times t in_ut (ap (map time_of) s);
          diffs = writing_more m.diffs d in_ud (ap (map (λ (e : Edit). e.1)) s);
        }

  pub dating_end : length cv ≤ i → Rows uv₀ ut₀ ud₀ at (dated t (entries cv cd)) uv ut ud k
  dating_end h =
      let l : length (dated t (entries cv cd)) ≡ length cv = dated_long in
      let n : left cv cd t i ≡ [] = drop_of_length-le (dated t (entries cv cd)) {i = i} (omega arith) in
      record {
        values = writing_end m.values (ap (map value_of) n);
        times = writing_end m.times (ap (map time_of) n);
        diffs = writing_end m.diffs (ap (map (λ (e : Edit). e.1)) n);
      }
