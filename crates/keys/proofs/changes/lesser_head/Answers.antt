use native.Mathlib.Omega.{arith}
use mathlib.Core.Path.{◌∙◌}
use Rattle.keys.proofs.Changed.{head_none, head_first, head_both}
use Rattle.keys.proofs.changes.lesser_head.Goals as goal

pub returns-then-i-first : goal.returns-then-i-first
returns-then-i-first c = head_none c.args.first.now c.args.i c.args.second.now c.args.j c.if-i-first.true (omega arith)

pub returns-then-j-second : goal.returns-then-j-second
returns-then-j-second c = head_first c.args.first.now c.args.i c.args.second.now c.args.j c.if-i-first.false c.if-j-second.true

pub returns-else-j-second : goal.returns-else-j-second
returns-else-j-second c = c.min.ensures ∙ head_both c.args.first.now c.args.i c.args.second.now c.args.j c.if-i-first.false c.if-j-second.false
