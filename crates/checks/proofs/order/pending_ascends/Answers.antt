use Rattle.std.proofs.Common.{arith, ◌≡◌, ◌+◌, ◌-◌, ◌≤◌, ◌<◌, refl, sym, ◌∙◌, length, ltb}
use Rattle.grid.specs.Consolidate.{lex}
use Rattle.checks.proofs.Ascending.{climb_hit, climb_miss, climb_end}
use Rattle.checks.proofs.order.pending_ascends.Goals as goal

pub loop-j-init : goal.loop-j-init
loop-j-init c = (omega arith, refl)

pub returns-then-not-pair_before : goal.returns-then-not-pair_before
returns-then-not-pair_before c =
    let back : c.loop-j.j - 1 + 1 ≡ c.loop-j.j = omega (arith, c.loop-j.invariant.0) in
    climb_hit 0 (lex ltb ltb) c.args.p.now.keys.now c.args.p.now.times.now (c.loop-j.j - 1) c.requires refl refl (rw back c.loop-j-test.true) c.loop-j.invariant.1 (rw back (sym c.pair_before.ensures ∙ c.if-not-pair_before.true))

pub loop-j-preserved : goal.loop-j-preserved
loop-j-preserved c =
    let back : c.loop-j.j - 1 + 1 ≡ c.loop-j.j = omega (arith, c.loop-j.invariant.0) in
    let on : c.loop-j.j + 1 - 1 ≡ c.loop-j.j = omega arith in
    (omega arith, rw on (rw back at (climb_miss 0 (lex ltb ltb) c.args.p.now.keys.now c.args.p.now.times.now (c.loop-j.j - 1) c.requires refl refl (rw back c.loop-j-test.true) c.loop-j.invariant.1 (rw back (sym c.pair_before.ensures ∙ c.if-not-pair_before.false)))))

pub returns : goal.returns
returns c = climb_end 0 (lex ltb ltb) c.args.p.now.keys.now c.args.p.now.times.now (c.loop-j.j - 1) c.requires (omega (arith, c.loop-j-test.false)) c.loop-j.invariant.1
