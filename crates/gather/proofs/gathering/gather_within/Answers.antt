use Rattle.gather.proofs.Within.{within_moves, within_asks, within_done}
use Rattle.gather.proofs.gathering.gather_within.Goals as goal

pub move_back-c-requires : goal.move_back-c-requires
move_back-c-requires c = within_moves c.requires c.args.t.0 c.end_through-to.ensures

pub advance_edits-k-requires : goal.advance_edits-k-requires
advance_edits-k-requires c = within_asks c.requires c.args.t.0 c.end_through-to.ensures _ _ _ c.move_back-c.auto.xv c.move_back-c.auto.xt c.move_back-c.auto.xd c.move_back-c.ensures

pub returns : goal.returns
returns c = within_done c.requires c.args.t.0 c.end_through-to.ensures _ _ _ c.move_back-c.auto.xv c.move_back-c.auto.xt c.move_back-c.auto.xd c.move_back-c.ensures c.args.m.0 _ _ _ c.advance_edits-k.auto.values c.advance_edits-k.auto.times c.advance_edits-k.auto.diffs c.advance_edits-k.ensures
