use native.Mathlib.Omega.{arith}
use mathlib.Core.Path.{◌∙◌, ap}
use lib.ListN.{take}
use Prim.Native.Nat.{◌-◌}
use Rattle.joins.proofs.Sets.{set_within}
use Rattle.pops.proofs.Tracks.{taken_none, taken_other, taken_first, shifted_down}
use Rattle.pops.proofs.stepping.track_waiting.Goals as goal
use Rattle.pops.proofs.stepping.track_waiting.Goals.{else-wcount-gt0-via-then-wcount-gt0+else-n-waiting, else-wcount-gt0-via-else-wcount-gt0}

pub returns-then-n-waiting : goal.returns-then-n-waiting
returns-then-n-waiting c =
    taken_first _ _ _ _ _ c.requires.0 (λ e. omega arith) c.if-n-waiting.true c.requires.1 c.copy_within.ensures.len
    (ap (take (c.args.wcount - 1)) c.copy_within.ensures.after ∙ shifted_down c.args.waiting.now c.args.wcount (omega arith) (set_within c.requires.0))

pub returns-else-wcount-gt0 : goal.returns-else-wcount-gt0
returns-else-wcount-gt0 c = elim c.else-wcount-gt0.branch [
  | else-wcount-gt0-via-then-wcount-gt0+else-n-waiting w ↦ taken_other _ _ _ _ _ c.requires.0 (λ e. omega arith) w.if-n-waiting.false
  | else-wcount-gt0-via-else-wcount-gt0 w ↦ taken_none _ _ _ _ _ c.requires.0 (omega arith)
]
