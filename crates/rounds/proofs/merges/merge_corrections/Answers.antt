use borrow.Author.Rules.{rules}
use native.Mathlib.Omega.{arith}
use mathlib.Core.Path.{sym}
use Rattle.rounds.proofs.Mixing.{in_left, in_right, mix_left, mix_right, mixing_end}
use Rattle.rounds.proofs.merges.merge_corrections.Goals as goal
use Rattle.rounds.proofs.merges.merge_corrections.Goals.{then-left_first, else-left_first}

pub bounds-uv-i : goal.bounds-uv-i
bounds-uv-i c = (in_left c.loop-k.invariant (sym c.if-left_first.ensures)).0

pub bounds-ut-i : goal.bounds-ut-i
bounds-ut-i c = (in_left c.loop-k.invariant (sym c.if-left_first.ensures)).1.0

pub bounds-ud-i : goal.bounds-ud-i
bounds-ud-i c = (in_left c.loop-k.invariant (sym c.if-left_first.ensures)).1.1

pub bounds-cv-j : goal.bounds-cv-j
bounds-cv-j c = (in_right c.loop-k.invariant c.loop-k-test.true (sym c.if-left_first.ensures)).0

pub bounds-cd-j : goal.bounds-cd-j
bounds-cd-j c = (in_right c.loop-k.invariant c.loop-k-test.true (sym c.if-left_first.ensures)).1

pub loop-k-preserved : goal.loop-k-preserved
loop-k-preserved c =
    elim c.if-left_first.branch [
      | then-left_first w ↦ rw (w.yv-is, w.yt-is, w.yd-is, w.i-is, w.j-is) (mix_left c.loop-k.invariant _ c.loop-k-test.true (sym w.if-left_first.ensures) (search rules))
      | else-left_first w ↦ rw (w.yv-is, w.yt-is, w.yd-is, w.i-is, w.j-is) (mix_right c.loop-k.invariant _ c.loop-k-test.true (sym w.if-left_first.ensures) (search rules))
    ]

pub returns : goal.returns
returns c = mixing_end c.loop-k.invariant c.loop-k-test.false (omega arith)
