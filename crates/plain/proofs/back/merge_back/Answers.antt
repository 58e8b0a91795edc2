use Rattle.fixing.proofs.Corrected.{column_within}
use Rattle.plain.proofs.Merged.{back_asks, back_room, back_merged}
use Rattle.plain.proofs.back.merge_back.Goals as goal

pub merge_corrections-m-requires : goal.merge_corrections-m-requires
merge_corrections-m-requires c = back_asks c.requires

pub slice_bounds-copy-end : goal.slice_bounds-copy-end
slice_bounds-copy-end c = column_within c.merge_corrections-m.ensures.values

pub copy-requires : goal.copy-requires
copy-requires c = (back_room c.requires c.args.t.0 c.merge_corrections-m.ensures).0

pub slice_bounds-copy-end-2 : goal.slice_bounds-copy-end-2
slice_bounds-copy-end-2 c = column_within c.merge_corrections-m.ensures.times

pub copy-requires-2 : goal.copy-requires-2
copy-requires-2 c = (back_room c.requires c.args.t.0 c.merge_corrections-m.ensures).1.0

pub slice_bounds-copy-end-3 : goal.slice_bounds-copy-end-3
slice_bounds-copy-end-3 c = column_within c.merge_corrections-m.ensures.diffs

pub copy-requires-3 : goal.copy-requires-3
copy-requires-3 c = (back_room c.requires c.args.t.0 c.merge_corrections-m.ensures).1.1

pub returns : goal.returns
returns c = back_merged c.requires c.args.t.0 c.merge_corrections-m.ensures c.copy.ensures c.copy-2.ensures c.copy-3.ensures
