use Rattle.std.proofs.Common.{arith, ◌≡◌, ◌+◌, ◌-◌, length, take, drop}
use mathlib.Core.Path.{sym, ◌∙◌}
use lib.ListN.{length-drop}
use lib.Seq.{take_all}
use Rattle.times.proofs.Frontiers.{frontier_long, frontier_hit, frontier_miss, frontier_end}
use Rattle.times.proofs.frontier.is_frontier.Goals as goal

pub returns-then-f-gt-MOST_TIMES : goal.returns-then-f-gt-MOST_TIMES
returns-then-f-gt-MOST_TIMES c = frontier_long _ c.if-f-gt-MOST_TIMES.true

pub returns-then-not-apart_from : goal.returns-then-not-apart_from
returns-then-not-apart_from c =
    let later : take (length c.args.f.now - (c.loop-i.i + 1)) (drop (c.loop-i.i + 1) c.args.f.now) ≡ drop (c.loop-i.i + 1) c.args.f.now = take_all _ _ (omega (arith, length-drop (c.loop-i.i + 1) c.args.f.now)) in
    frontier_hit _ _ c.if-f-gt-MOST_TIMES.false c.loop-i-test.true c.loop-i.invariant (rw later at (sym c.apart_from.ensures ∙ c.if-not-apart_from.true))

pub loop-i-preserved : goal.loop-i-preserved
loop-i-preserved c =
    let later : take (length c.args.f.now - (c.loop-i.i + 1)) (drop (c.loop-i.i + 1) c.args.f.now) ≡ drop (c.loop-i.i + 1) c.args.f.now = take_all _ _ (omega (arith, length-drop (c.loop-i.i + 1) c.args.f.now)) in
    frontier_miss _ _ c.loop-i-test.true c.loop-i.invariant (rw later at (sym c.apart_from.ensures ∙ c.if-not-apart_from.false))

pub returns : goal.returns
returns c = frontier_end _ _ c.if-f-gt-MOST_TIMES.false c.loop-i-test.false c.loop-i.invariant
