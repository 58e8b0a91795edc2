use Rattle.checks.proofs.Room.{room_short, room_hit, room_miss, room_end}
use Rattle.checks.proofs.lengths.is_room.Goals as goal

pub returns-then-lengths-sizes : goal.returns-then-lengths-sizes
returns-then-lengths-sizes c = room_short c.args.sizes.now c.args.lengths.now c.if-lengths-sizes.true

pub returns-then-lengths-i : goal.returns-then-lengths-i
returns-then-lengths-i c =
    room_hit c.args.sizes.now c.args.lengths.now c.loop-i.i c.loop-i-test.true c.if-lengths-sizes.false c.loop-i.invariant c.if-lengths-i.true

pub loop-i-preserved : goal.loop-i-preserved
loop-i-preserved c =
    room_miss c.args.sizes.now c.args.lengths.now c.loop-i.i c.loop-i-test.true c.if-lengths-sizes.false c.loop-i.invariant c.if-lengths-i.false

pub returns : goal.returns
returns c = room_end c.args.sizes.now c.args.lengths.now c.loop-i.i c.loop-i-test.false c.loop-i.invariant
