use Rattle.tiles.proofs.Walking.{walking_start, kept_room, copy_room, walking_more, walking_end}
use borrow.Author.Rules.{rules}
use Rattle.tiles.proofs.tile.write_tiles.Goals as goal

pub loop-i-init : goal.loop-i-init
loop-i-init c =
    walking_start c.requires c.write_all-last.ensures

pub write_kept-count-requires : goal.write_kept-count-requires
write_kept-count-requires c =
    kept_room c.loop-i.invariant c.loop-i-test.true c.cut-next.ensures

pub write_all-last-requires-in-loop-i : goal.write_all-last-requires-in-loop-i
write_all-last-requires-in-loop-i c =
    copy_room c.loop-i.invariant c.loop-i-test.true c.cut-next.ensures

pub loop-i-preserved : goal.loop-i-preserved
loop-i-preserved c =
    walking_more c.loop-i.invariant c.loop-i-test.true c.cut-next.ensures (search rules) c.write_kept-count.ensures c.write_all-last-in-loop-i.ensures

pub returns : goal.returns
returns c = walking_end c.loop-i.invariant c.loop-i-test.false
