-- The checks of a call.
--
-- two_tests: the test of a side, from its columns
-- level-alike, lent-alike: what equal lengths mean
-- before_short, before_unfit, before_fit: the status before any work
use Prim.Native.Nat.{ℕ}
use mathlib.Core.Bool.{Bool, true, false, ◌&&◌}
use mathlib.Core.List.{List, [], ◌∷◌, map}
use mathlib.Core.Path.{◌≡◌, refl, ap}
use borrow.Author.Tests.{eqb-true}
use lib.Dec.{eqb, leb}
use lib.IntN.{ℤ, nat_abs}
use lib.ListN.{length}
use Rattle.grid.specs.Lists.{every}
use Rattle.grid.proofs.Tests.{and_l, and_r}
use Rattle.rules.specs.Histories.{Edit}
use Rattle.rules.specs.Wave.{good_wave_run}
use Rattle.edits.specs.Edits.{edits, Alike}
use Rattle.edits.proofs.Edits.{diff_of, diffs-edits, length-edits}
use Rattle.wave.specs.Calls.{level, roomy, lent_well, small_diff, status_before}

-- ---- a side
every_diffs : (es : List Edit) → every small_diff (map diff_of es) ≡ every (λ (e : Edit). leb (nat_abs e.1) 1048576) es
unfolding small_diff
every_diffs [] = refl
every_diffs (e ∷ es) = ap (λ b. leb (nat_abs e.1) 1048576 && b) (every_diffs es)

module _ (ts vs : List ℕ) (ds : List ℤ) (a : Alike ts vs ds) where
  -- the two tests make one
  pub two_tests : good_wave_run (edits ts vs ds) ≡ (leb (length ts) 1024 && every small_diff ds)
  unfolding good_wave_run
  two_tests = rw (length-edits ts vs ds a, ← every_diffs (edits ts vs ds), diffs-edits ts vs ds a)

pub level-alike : (ts vs : List ℕ) (ds : List ℤ) → level ts vs ds ≡ true → Alike ts vs ds
unfolding level
level-alike ts vs ds e =
    record {
      values = eqb-true (length vs) (length ts) (and_l (eqb (length vs) (length ts)) (eqb (length ds) (length ts)) e);
      diffs = eqb-true (length ds) (length ts) (and_r (eqb (length vs) (length ts)) (eqb (length ds) (length ts)) e);
    }

pub lent-alike : {ts vs : List ℕ} {ds : List ℤ} {us ws : List ℕ} {es : List ℤ} (times firsts seconds : List ℕ) (diffs : List ℤ) → lent_well ts vs ds us ws es times firsts seconds diffs ≡ true → Alike ts vs ds × Alike us ws es
unfolding lent_well
lent-alike {ts} {vs} {ds} {us} {ws} {es} times firsts seconds diffs e =
    let both : (level ts vs ds && level us ws es) ≡ true = and_l (level ts vs ds && level us ws es) (roomy times firsts seconds diffs) e in
    (level-alike ts vs ds (and_l (level ts vs ds) (level us ws es) both), level-alike us ws es (and_r (level ts vs ds) (level us ws es) both))

-- ---- the status before any work
module _ {l : Bool} (as' bs : List Edit) where
  pub before_short : l ≡ false → 11 ≡ status_before l as' bs
  unfolding status_before
  before_short t = rw t

  pub before_unfit : l ≡ true → (good_wave_run as' && good_wave_run bs) ≡ false → 14 ≡ status_before l as' bs
  unfolding status_before
  before_unfit t g = rw (t, g)

  pub before_fit : l ≡ true → (good_wave_run as' && good_wave_run bs) ≡ true → 0 ≡ status_before l as' bs
  unfolding status_before
  before_fit t g = rw (t, g)
