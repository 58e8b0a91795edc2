-- The meets of suffixes: written from the end, and read as long as what is ahead stands where it stood.
--
-- meets_suffix: each entry of suffix_meets is the meet of what is left there
-- suffixes_start, suffixes_later: a column of suffix meets tells the meets of what is ahead, at first and after steps
-- first_some, first_none, ahead_none: what is read at `at`, where something is ahead and where nothing is
-- Meetings ts count ms₀ ms i m: a loop that writes the suffix meets of the first `count` times has come down to i. meetings_start, meetings_more, meetings_end: the loop keeps that
use Prim.Native.Nat.{ℕ, zero, suc, ◌-◌, ◌≤◌, ◌<◌}
use native.Mathlib.Omega.{arith}
use mathlib.Core.List.{List, [], ◌∷◌, ◌++◌}
use mathlib.Core.Option.{Option, none, some}
use mathlib.Core.Path.{◌≡◌, refl, sym, ◌∙◌, ap, ap₂}
use lib.ListN.{length, take, drop, get_or, set, length-set, drop_of_length-le, get_or-append}
use lib.Seq.{drop-cons, drop-set-lt, get_or-set_same, slice-cons, length-take-le}
use Rattle.grid.specs.Times.{meet_onto, meets}
use Rattle.grid.specs.Slices.{laid}
use Rattle.grid.proofs.Slices.{laid_fits, laid-length, drop-later}
use Rattle.rules.specs.Histories.{suffix_meets}
use Rattle.histories.specs.Suffixes.{first_of, Suffixes}

pub length-suffix_meets : (ts : List ℕ) → length (suffix_meets ts) ≡ length ts
unfolding suffix_meets
length-suffix_meets [] = refl
length-suffix_meets (t ∷ ts) = ap suc (length-suffix_meets ts)

pub meets_suffix : (ts : List ℕ) (i : ℕ) → i < length ts → meets (drop i ts) none ≡ some (get_or (suffix_meets ts) i 0)
unfolding suffix_meets meets
meets_suffix [] i h = absurd (omega arith)
meets_suffix (t ∷ ts) zero h = refl
meets_suffix (t ∷ ts) (suc i) h = meets_suffix ts i (let k : suc i < suc (length ts) = h in omega arith)

pub suffixes_start : (ts ms₀ : List ℕ) {ms : List ℕ} → length ts ≤ length ms₀ → ms ≡ laid (suffix_meets ts) ms₀ → Suffixes ts ms 0
suffixes_start ts ms₀ {ms} h e =
    let n : length (suffix_meets ts) ≡ length ts = length-suffix_meets ts in
    let m : ms ≡ suffix_meets ts ++ drop (length (suffix_meets ts)) ms₀ = e ∙ laid_fits (suffix_meets ts) ms₀ (omega arith) in
    record {
      fits = rw (e, laid-length) h;
      tells = λ i k l. meets_suffix ts i l ∙ ap some (sym (rw m (get_or-append (suffix_meets ts) (drop (length (suffix_meets ts)) ms₀) 0 i (omega arith))));
    }

pub suffixes_later : {ts ms : List ℕ} {at : ℕ} (ts' : List ℕ) (at' : ℕ) → Suffixes ts ms at → at ≤ at' → length ts' ≡ length ts → drop at' ts' ≡ drop at' ts → Suffixes ts' ms at'
suffixes_later {ts} {ms} ts' at' w h n e = record {
  fits = (let f : length ts ≤ length ms = w.fits in omega arith);
  tells = λ i k l. ap (λ r. meets r none) (drop-later ts' ts at' i k e) ∙ w.tells i (omega arith) (omega arith);
}

-- ---- what is read at a place
module _ (ts : List ℕ) (at : ℕ) where
  pub first_some : at < length ts → some (get_or ts at 0) ≡ first_of (drop at ts)
  unfolding first_of
  first_some h = rw (drop-cons ts at 0 h)

  pub first_none : length ts ≤ at → none ≡ first_of (drop at ts)
  unfolding first_of
  first_none h = rw (drop_of_length-le ts h)

  pub ahead_none : length ts ≤ at → none ≡ meets (drop at ts) none
  unfolding meets
  ahead_none h = rw (drop_of_length-le ts h)

-- ---- the column, written from the end
pub record Meetings (ts : List ℕ) (count : ℕ) (ms₀ ms : List ℕ) (i : ℕ) (m : Option ℕ) : Type 0 where
  pub counted : i ≤ count
  pub within : count ≤ length ts
  pub fits : count ≤ length ms
  pub len : length ms ≡ length ms₀
  pub met : m ≡ meets (drop i (take count ts)) none
  pub written : drop i ms ≡ suffix_meets (drop i (take count ts)) ++ drop count ms₀

pub meetings_start : (ts : List ℕ) (count : ℕ) (ms : List ℕ) → count ≤ length ts → count ≤ length ms → Meetings ts count ms ms count none
unfolding suffix_meets meets
meetings_start ts count ms h k =
    let d : drop count (take count ts) ≡ [] = drop_of_length-le (take count ts) {i = count} (rw (length-take-le count ts h) (omega arith)) in
    record { counted = omega arith; within = h; fits = k; len = refl; met = rw d; written = rw d }

module _ {ts : List ℕ} {count : ℕ} {ms₀ ms : List ℕ} {i : ℕ} {m : Option ℕ} (w : Meetings ts count ms₀ ms i m) where
  pub meetings_more : {t : ℕ} → 0 < i → t ≡ meet_onto (get_or ts (i - 1) 0) m → Meetings ts count ms₀ (set ms (i - 1) t) (i - 1) (some t)
  unfolding suffix_meets meets
  meetings_more {t} h e =
      let b : i ≤ count = w.counted in
      let f : count ≤ length ms = w.fits in
      let n : suc (i - 1) ≡ i = omega arith in
      let e' : t ≡ meet_onto (get_or ts (i - 1) 0) (meets (drop i (take count ts)) none) = e ∙ ap (meet_onto (get_or ts (i - 1) 0)) w.met in
      let d : drop (i - 1) (take count ts) ≡ get_or ts (i - 1) 0 ∷ drop i (take count ts) =
      slice-cons (i - 1) count ts 0 (omega arith) w.within ∙ ap (λ k. get_or ts (i - 1) 0 ∷ drop k (take count ts)) n in
      let here : drop (i - 1) (set ms (i - 1) t) ≡ t ∷ drop i ms =
      drop-cons (set ms (i - 1) t) (i - 1) 0 (rw length-set (omega arith))
      ∙ ap₂ ◌∷◌ (get_or-set_same ms (i - 1) t 0 (omega arith)) (ap (λ k. drop k (set ms (i - 1) t)) n ∙ drop-set-lt i ms (i - 1) t (omega arith)) in
      record {
        counted = omega arith;
        within = w.within;
        fits = simp length-set f;
        len = simp length-set w.len;
        met = ap some e' ∙ sym (ap (λ l. meets l none) d);
        written = here ∙ ap₂ ◌∷◌ e' w.written ∙ ap (λ l. suffix_meets l ++ drop count ms₀) (sym d);
      }

  pub meetings_end : i ≤ 0 → ms ≡ laid (suffix_meets (take count ts)) ms₀
  meetings_end h =
      let z : i ≡ 0 = omega arith in
      let f : count ≤ length ms₀ = rw (← w.len) w.fits in
      let n : length (suffix_meets (take count ts)) ≡ count = length-suffix_meets (take count ts) ∙ length-take-le count ts w.within in
      let g : ms ≡ suffix_meets (take count ts) ++ drop count ms₀ = rw z at w.written in
      g ∙ rw (laid_fits (suffix_meets (take count ts)) ms₀ (omega arith), n)
