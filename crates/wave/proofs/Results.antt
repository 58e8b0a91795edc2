-- What bilinear_wave's own result says: "Emitted pairs consolidate to the plain cross product's."
--
-- emissions-columns: emissions, read back from their columns. column_back: a column of results begins with what was emitted
-- result_emissions: at status 0 the columns hold the wave's emissions. result_cross: they consolidate to the cross product's
use Prim.Native.Nat.{ℕ, ◌-◌}
use native.Mathlib.Omega.{arith}
use mathlib.Core.Bool.{Bool}
use mathlib.Core.List.{List, [], ◌∷◌, map}
use mathlib.Core.Path.{◌≡◌, refl, sym, ◌∙◌, ap}
use lib.Dec.{ltb}
use lib.IntN.{ℤ, pos}
use lib.ListN.{length, take, replicate, length-map}
use lib.Seq.{take_at}
use Rattle.grid.specs.Consolidate.{lex, consolidate}
use Rattle.rules.specs.Histories.{Edit}
use Rattle.rules.specs.Memory.{leaves}
use Rattle.rules.specs.Wave.{Emission, cross, wave_of, WaveAnswer, wave_refused, wave_call}
use Rattle.rules.proofs.Wave.{WaveOutcome, short, unfit, over, worked, wave-outcome, wave-cross}
use Rattle.wave.specs.Turns.{emitted_time, emitted_first, emitted_second, emitted_diff}
use Rattle.wave.specs.Calls.{Called, emissions, status_of, count_of}
use Rattle.wave.specs.declared.call.Refusal.{Refusal}
use Rattle.std.specs.Prelude.{Result}

emissions-columns : (es : List Emission) → emissions (map emitted_time es) (map emitted_first es) (map emitted_second es) (map emitted_diff es) ≡ es
unfolding emissions
emissions-columns [] = refl
emissions-columns (e ∷ es) = ap (λ l. e ∷ l) (emissions-columns es)

column_back : {A : Type 0} (f : Emission → A) (es : List Emission) (z : A) (s : List A) {n : ℕ} {s' : List A} → n ≡ length es → s' ≡ leaves z 0 s (map f es) → take n s' ≡ map f es
unfolding leaves
column_back f es z s {n} c e = ap (take n) e ∙ take_at (map f es) (replicate (length s - length (map f es)) z) n (length-map es f ∙ sym c)

answer-worked : {l : Bool} {as' bs : List Edit} {w : WaveAnswer} → WaveOutcome l as' bs w → w.status ≡ 0 → w.emitted ≡ wave_of as' bs
unfolding wave_refused
answer-worked (short l) e = absurd (omega (arith, e))
answer-worked (unfit l n) e = absurd (omega (arith, e))
answer-worked (over l r n) e = absurd (omega (arith, e))
answer-worked (worked l r n) e = refl

module _ (l : Bool) (as' bs : List Edit) {times firsts seconds : List ℕ} {diffs : List ℤ} {times' firsts' seconds' : List ℕ} {diffs' : List ℤ} {r : Result ℕ Refusal}
    (c : Called (wave_call l as' bs) times firsts seconds diffs times' firsts' seconds' diffs' r) (z : status_of r ≡ 0) where
  pub result_emissions : emissions (take (count_of r) times') (take (count_of r) firsts') (take (count_of r) seconds') (take (count_of r) diffs') ≡ wave_of as' bs
  result_emissions =
      let w = wave_call l as' bs in
      let s : w.status ≡ 0 = sym c.status_is ∙ z in
      (λ i. emissions
      (column_back emitted_time w.emitted 0 times c.count_is (rw s at c.times_are) i)
      (column_back emitted_first w.emitted 0 firsts c.count_is (rw s at c.firsts_are) i)
      (column_back emitted_second w.emitted 0 seconds c.count_is (rw s at c.seconds_are) i)
      (column_back emitted_diff w.emitted (pos 0) diffs c.count_is (rw s at c.diffs_are) i))
      ∙ emissions-columns w.emitted ∙ answer-worked (wave-outcome l as' bs) s

  pub result_cross : consolidate (lex ltb (lex ltb ltb)) (emissions (take (count_of r) times') (take (count_of r) firsts') (take (count_of r) seconds') (take (count_of r) diffs')) ≡ consolidate (lex ltb (lex ltb ltb)) (cross as' bs)
  result_cross = ap (consolidate (lex ltb (lex ltb ltb))) result_emissions ∙ wave-cross as' bs
