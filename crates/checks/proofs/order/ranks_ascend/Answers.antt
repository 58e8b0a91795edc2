use Rattle.std.proofs.Common.{arith, ◌≡◌, ◌+◌, ◌-◌, ◌≤◌, ◌<◌, refl, sym, ◌∙◌, length}
use Rattle.grid.specs.Records.{rank_before}
use Rattle.checks.proofs.Ascending.{ranks_hit, ranks_miss, ranks_end}
use Rattle.checks.proofs.order.ranks_ascend.Goals as goal

pub loop-j-init : goal.loop-j-init
loop-j-init c = (omega arith, refl)

pub returns-then-not-rank_before : goal.returns-then-not-rank_before
returns-then-not-rank_before c =
    let back : c.loop-j.j - 1 + 1 ≡ c.loop-j.j = omega (arith, c.loop-j.invariant.0) in
    ranks_hit rank_before c.args.ks.now c.args.vs.now c.args.ts.now (c.loop-j.j - 1) c.requires (rw back c.loop-j-test.true) c.loop-j.invariant.1 (rw back (sym c.rank_before.ensures ∙ c.if-not-rank_before.true))

pub loop-j-preserved : goal.loop-j-preserved
loop-j-preserved c =
    let back : c.loop-j.j - 1 + 1 ≡ c.loop-j.j = omega (arith, c.loop-j.invariant.0) in
    let on : c.loop-j.j + 1 - 1 ≡ c.loop-j.j = omega arith in
    (omega arith, rw on (rw back at (ranks_miss rank_before c.args.ks.now c.args.vs.now c.args.ts.now (c.loop-j.j - 1) c.requires (rw back c.loop-j-test.true) c.loop-j.invariant.1 (rw back (sym c.rank_before.ensures ∙ c.if-not-rank_before.false)))))

pub returns : goal.returns
returns c = ranks_end rank_before c.args.ks.now c.args.vs.now c.args.ts.now (c.loop-j.j - 1) c.requires (omega (arith, c.loop-j-test.false)) c.loop-j.invariant.1
