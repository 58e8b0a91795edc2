-- Edits in three columns.
--
-- edits_both: the columns with the times first are the same edits. edits-times: the times, taken out of the edits again
-- rows_front: edits that were appended to three columns, with what stood before them
use Prim.Native.Nat.{ℕ}
use mathlib.Core.Path.{◌≡◌, refl, sym, ◌∙◌, ap}
use mathlib.Core.List.{List, [], ◌∷◌, ◌++◌, map}
use lib.IntN.{ℤ}
use lib.ListN.{length, take, length-take}
use Rattle.rules.specs.Histories.{Edit, time_of, value_of}
use Rattle.edits.specs.Edits as timed
use Rattle.edits.proofs.Edits.{times-edits}
use Rattle.moments.specs.Present.{edits}
use Rattle.moments.proofs.Columns.{edits-append, edits_of_columns, take-edits}
use Rattle.rounds.specs.Merges.{Rows}

pub edits_both : (ts vs : List ℕ) (ds : List ℤ) → timed.edits ts vs ds ≡ edits vs ts ds
unfolding timed.edits edits
edits_both [] [] ds = refl
edits_both [] (v ∷ vs) ds = refl
edits_both (t ∷ ts) [] ds = refl
edits_both (t ∷ ts) (v ∷ vs) [] = refl
edits_both (t ∷ ts) (v ∷ vs) (d ∷ ds) = ap (λ l. ((t, v), d) ∷ l) (edits_both ts vs ds)

pub edits-times : (vs ts : List ℕ) (ds : List ℤ) → length ts ≡ length vs → length ds ≡ length vs → map time_of (edits vs ts ds) ≡ ts
edits-times vs ts ds a b = ap (map time_of) (sym (edits_both ts vs ds)) ∙ times-edits ts vs ds (record { values = sym a; diffs = b ∙ sym a })

pub rows_front : {yv₀ yt₀ : List ℕ} {yd₀ : List ℤ} {at : ℕ} {new : List Edit} {yv yt : List ℕ} {yd : List ℤ} {r : ℕ} → length yt₀ ≡ length yv₀ → length yd₀ ≡ length yv₀
    → Rows yv₀ yt₀ yd₀ at new yv yt yd r → take r (edits yv yt yd) ≡ take at (edits yv₀ yt₀ yd₀) ++ new
rows_front {yv₀} {yt₀} {yd₀} {at} {new} {yv} {yt} {yd} {r} a b w =
    take-edits r yv yt yd
    ∙ (λ z. edits (w.values.front z) (w.times.front z) (w.diffs.front z))
    ∙ edits-append (take at yv₀) (take at yt₀) (take at yd₀) (map value_of new) (map time_of new) (map (λ (e : Edit). e.1) new) (simp (length-take, a)) (simp (length-take, b))
    ∙ (λ z. sym (take-edits at yv₀ yt₀ yd₀) z ++ edits_of_columns new z)
