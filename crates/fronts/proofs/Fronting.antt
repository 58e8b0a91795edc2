-- Fronts of columns, lent as their parts from 0 on.
--
-- fronts_within, fronts_ask, fronts_give: what the rounds ask of the fronts, and what they leave
use Prim.Native.Nat.{ℕ, ◌≤◌}
use native.Mathlib.Nat.{sub-zero}
use native.Mathlib.Omega.{arith}
use mathlib.Core.List.{List}
use lib.IntN.{ℤ}
use lib.ListN.{length, take}
use Rattle.backends.specs.Segments.{part, segments}
use Rattle.moments.specs.Present.{edits}
use Rattle.moments.specs.Window.{parts_of}
use Rattle.progress.specs.declared.Progress.{Progress}
use Rattle.mending.specs.Corrected.{Corrects, Corrected}
use Rattle.fronts.specs.declared.Fronts.{Fronts}
use Rattle.fronts.specs.Filled.{Full}

module _ {most : ℕ} {keys moments tv tt : List ℕ} {td : List ℤ} {ov ot : List ℕ} {od : List ℤ} {fk fv ft : List ℕ} {fd : List ℤ} {f : Fronts} (F : Full f)
    (c : Corrects most keys moments (take (length keys) f.mends) (take (length keys) f.ifrom) (take (length keys) f.ito) tv tt td (take (length keys) f.ofrom) (take (length keys) f.oto) ov ot od fk fv ft fd f.progress) where
  pub fronts_within : (length keys ≤ length f.mends) × ((length keys ≤ length f.ifrom) × ((length keys ≤ length f.ito) × ((length keys ≤ length f.ofrom) × (length keys ≤ length f.oto))))
  fronts_within =
      let few : length keys ≤ 64 = c.few in
      (omega (arith, F.long_mends), (omega (arith, F.long_ifrom), (omega (arith, F.long_ito), (omega (arith, F.long_ofrom), omega (arith, F.long_oto)))))

  pub fronts_ask : Corrects most keys moments (part 0 (length keys) f.mends) (part 0 (length keys) f.ifrom) (part 0 (length keys) f.ito) tv tt td (part 0 (length keys) f.ofrom) (part 0 (length keys) f.oto) ov ot od fk fv ft fd f.progress
  fronts_ask = rw (sub-zero (length keys)) c

  pub fronts_give : {mode : ℕ} {r : Progress} {fk' fv' ft' : List ℕ} {fd' : List ℤ}
      → Corrected most mode keys (parts_of (part 0 (length keys) f.ifrom) (part 0 (length keys) f.ito) (edits tv tt td)) (parts_of (part 0 (length keys) f.ofrom) (part 0 (length keys) f.oto) (edits ov ot od)) (segments 0 (part 0 (length keys) f.mends) moments) f.progress r fk fv ft fd fk' fv' ft' fd'
      → Corrected most mode keys (parts_of (take (length keys) f.ifrom) (take (length keys) f.ito) (edits tv tt td)) (parts_of (take (length keys) f.ofrom) (take (length keys) f.oto) (edits ov ot od)) (segments 0 (take (length keys) f.mends) moments) f.progress r fk fv ft fd fk' fv' ft' fd'
  fronts_give g = rw (sub-zero (length keys)) at g
