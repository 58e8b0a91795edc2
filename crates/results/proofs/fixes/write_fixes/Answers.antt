use Rattle.results.proofs.Sorted.{fixes-told}
use Rattle.results.proofs.fixes.write_fixes.Goals as goal

pub returns-clause-told : goal.returns-clause-told
returns-clause-told c = fixes-told c.args.tiles.now c.args.fixes.now.keys.now c.args.fixes.now.values.now c.args.fixes.now.times.now c.args.fixes.now.diffs.now c.requires.1.0 c.order_places.ensures c.gather_fixes.ensures c.gather_column.ensures
