use Rattle.tiles.proofs.Places.{seeking_start, seeking_more, seeking_hit, seeking_none}
use mathlib.Core.Path.{sym, ◌∙◌}
use Rattle.tiles.proofs.place.tile_of.Goals as goal

pub loop-i-init : goal.loop-i-init
loop-i-init c = seeking_start _ _ _ c.min-i.ensures

pub returns-then-below : goal.returns-then-below
returns-then-below c =
    seeking_hit c.loop-i.invariant c.args.count c.loop-i-test.true (sym c.below.ensures ∙ c.if-below.true)

pub loop-i-preserved : goal.loop-i-preserved
loop-i-preserved c =
    seeking_more c.loop-i.invariant c.loop-i-test.true (sym c.below.ensures ∙ c.if-below.false)

pub returns : goal.returns
returns c =
    seeking_none c.loop-i.invariant c.args.count c.loop-i-test.false
