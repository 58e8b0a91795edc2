use Rattle.std.proofs.Common.{rules}
use native.Mathlib.Omega.{arith}
use mathlib.Core.Path.{◌≡◌}
use Rattle.times.proofs.Inserting.{placing_start, placing_here, placing_more, placing_end}
use Rattle.times.proofs.insert.place_of.Goals as goal

pub loop-i-init : goal.loop-i-init
loop-i-init c = placing_start _ _ _ c.requires.0 c.requires.1

pub returns-then-lt : goal.returns-then-lt
returns-then-lt c = placing_here c.loop-i.invariant c.loop-i-test.true (search rules)

pub loop-i-preserved : goal.loop-i-preserved
loop-i-preserved c = placing_more c.loop-i.invariant c.loop-i-test.true (search rules)

pub returns : goal.returns
returns c =
    let e : c.loop-i.i ≡ c.args.count = omega (arith, c.loop-i.invariant.within, c.loop-i-test.false) in
    rw e at (placing_end c.loop-i.invariant c.loop-i-test.false)
