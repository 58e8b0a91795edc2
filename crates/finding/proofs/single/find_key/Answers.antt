use Rattle.finding.proofs.Windowing.{slot_lent, slot_window}
use Rattle.finding.proofs.Tallies.{lending, slot_within, slot_counts, finds_slot}
use Rattle.finding.proofs.single.find_key.Goals as goal

pub discover_view-r-requires : goal.discover_view-r-requires
discover_view-r-requires c = lending (slot_lent c.requires.lent_runs.0 c.requires.lent_runs.1.0 c.key_part.ensures c.key_part-2.ensures c.key_part-3.ensures c.key_part-4.ensures c.key_part-5.ensures c.key_part-6.ensures c.requires.lent_runs.1.1) c.requires.scratch

pub slice_bounds-append_pended-end : goal.slice_bounds-append_pended-end
slice_bounds-append_pended-end c = slot_within c.args.upper.now (slot_lent c.requires.lent_runs.0 c.requires.lent_runs.1.0 c.key_part.ensures c.key_part-2.ensures c.key_part-3.ensures c.key_part-4.ensures c.key_part-5.ensures c.key_part-6.ensures c.requires.lent_runs.1.1) c.requires.scratch c.discover_view-r.ensures c.discover_view-r.auto.moments c.discover_view-r.auto.pended c.pended_count-c.ensures

pub tally_with-requires : goal.tally_with-requires
tally_with-requires c = slot_counts c.args.upper.now (slot_lent c.requires.lent_runs.0 c.requires.lent_runs.1.0 c.key_part.ensures c.key_part-2.ensures c.key_part-3.ensures c.key_part-4.ensures c.key_part-5.ensures c.key_part-6.ensures c.requires.lent_runs.1.1) c.requires.scratch c.discover_view-r.ensures c.discover_view-r.auto.moments c.discover_view-r.auto.pended

pub returns : goal.returns
returns c = slot_window c.requires.lent_runs.0 c.requires.lent_runs.1.0 c.key_part.ensures c.key_part-2.ensures c.key_part-3.ensures c.key_part-4.ensures c.key_part-5.ensures c.key_part-6.ensures c.args.upper.now (finds_slot c.args.upper.now (slot_lent c.requires.lent_runs.0 c.requires.lent_runs.1.0 c.key_part.ensures c.key_part-2.ensures c.key_part-3.ensures c.key_part-4.ensures c.key_part-5.ensures c.key_part-6.ensures c.requires.lent_runs.1.1) c.requires.scratch c.discover_view-r.ensures c.discover_view-r.auto.moments c.discover_view-r.auto.pended c.pended_count-c.ensures c.append_pended-n.ensures c.append_pended-n.auto.keys c.tally_with.ensures)
