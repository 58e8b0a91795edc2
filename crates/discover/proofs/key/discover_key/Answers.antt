use Rattle.edits.specs.Edits.{edits}
use Rattle.discover.proofs.Finds.{begun, finds}
use Rattle.discover.proofs.Starting.{loaded-start, loaded_prepared}
use Rattle.discover.proofs.key.discover_key.Goals as goal

pub walk_from-requires : goal.walk_from-requires
walk_from-requires c = record { prepared = loaded_prepared c.requires c.load-l.new.times c.load-l.new.values c.load-l.new.diffs c.load-l.result c.load-l.ensures c.load-l.auto.times c.load-l.auto.values c.load-l.auto.diffs c.load-l.auto.seeds c.load-l.auto.output c.suffixes.auto.column c.load-l.auto.work c.load-l.auto.places c.suffixes.ensures; begun = begun c.args.upper.now c.args.seedtimes.now c.args.pending.now (edits c.args.intimes.now c.args.invalues.now c.args.indiffs.now) c.args.outtimes.now (loaded-start c.requires c.load-l.new.times c.load-l.new.values c.load-l.new.diffs c.load-l.result c.load-l.ensures c.load-l.auto.times c.load-l.auto.values c.load-l.auto.diffs) }

pub returns : goal.returns
returns c = finds c.args.upper.now c.args.seedtimes.now c.args.pending.now (edits c.args.intimes.now c.args.invalues.now c.args.indiffs.now) c.args.outtimes.now (loaded-start c.requires c.load-l.new.times c.load-l.new.values c.load-l.new.diffs c.load-l.result c.load-l.ensures c.load-l.auto.times c.load-l.auto.values c.load-l.auto.diffs) c.walk_from.ensures
