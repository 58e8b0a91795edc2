use Rattle.gather.proofs.Joining.{from_bounds, from_lays, from_asks, from_done}
use Rattle.gather.proofs.gathering.gather_from.Goals as goal

pub slice_bounds-append_edits-end : goal.slice_bounds-append_edits-end
slice_bounds-append_edits-end c = (from_bounds c.requires c.args.t.0 c.end_through-to.ensures).1.0

pub slice_bounds-append_edits-end-2 : goal.slice_bounds-append_edits-end-2
slice_bounds-append_edits-end-2 c = (from_bounds c.requires c.args.t.0 c.end_through-to.ensures).1.1.0

pub slice_bounds-append_edits-end-3 : goal.slice_bounds-append_edits-end-3
slice_bounds-append_edits-end-3 c = (from_bounds c.requires c.args.t.0 c.end_through-to.ensures).1.1.1

pub append_edits-c-requires : goal.append_edits-c-requires
append_edits-c-requires c = from_lays c.requires c.args.t.0 c.end_through-to.ensures

pub advance_edits-k-requires : goal.advance_edits-k-requires
advance_edits-k-requires c = from_asks c.requires c.args.t.0 c.end_through-to.ensures c.append_edits-c.auto.yv c.append_edits-c.auto.yt c.append_edits-c.auto.yd c.append_edits-c.ensures

pub returns : goal.returns
returns c = from_done c.requires c.args.t.0 c.end_through-to.ensures c.append_edits-c.auto.yv c.append_edits-c.auto.yt c.append_edits-c.auto.yd c.append_edits-c.ensures c.args.m.0 _ _ _ c.advance_edits-k.auto.values c.advance_edits-k.auto.times c.advance_edits-k.auto.diffs c.advance_edits-k.ensures
