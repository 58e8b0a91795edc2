use mathlib.Core.List.{map}
use mathlib.Core.Path.{ap}
use lib.IntN.{pos, ◌*ℤ◌}
use lib.ListN.{get_or, drop_of_length-le}
use mir.Syntax.{w64}
use mir.Val.{to_z, of_z}
use Rattle.emissions.proofs.Emissions.{writing_more, writing_end, mapped_more, small_at, product_fits, product_is, read_diffs}
use Rattle.emissions.proofs.emit.emit_diffs.Goals as goal

pub overflow_mul-d : goal.overflow_mul-d
overflow_mul-d c = product_fits c.args.d (get_or c.args.from.now c.loop-i.i (pos 0)) c.requires.1.0 (small_at c.args.from.now c.loop-i.i c.loop-i-test.true c.requires.1.1)

pub loop-i-preserved : goal.loop-i-preserved
loop-i-preserved c =
    writing_more _ c.loop-i.invariant
    (mapped_more (λ e. to_z w64 (of_z w64 c.args.d) *ℤ e) _ _ (pos 0) c.loop-i-test.true (product_is c.args.d (get_or c.args.from.now c.loop-i.i (pos 0)) c.requires.1.0 (small_at c.args.from.now c.loop-i.i c.loop-i-test.true c.requires.1.1)))
    c.write.ensures

pub returns : goal.returns
returns c = read_diffs c.args.d c.args.out.now c.args.from.now c.args.at c.requires.1.0 (writing_end c.loop-i.invariant (ap (map _) (drop_of_length-le c.args.from.now c.loop-i-test.false)))
