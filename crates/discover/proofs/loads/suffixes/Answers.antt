use Rattle.discover.proofs.Loadings.{meets_all_appended}
use Rattle.discover.proofs.loads.suffixes.Goals as goal

pub returns : goal.returns
returns c = meets_all_appended _ c.args.pending.now _ _ c.append_meets.new.column c.args.scount c.args.count c.args.ocount c.append_meets-a.ensures.value c.append_meets-b.ensures.value c.append_meets-c.ensures.value c.append_meets.ensures.value c.append_meets-a.ensures.column_after c.append_meets-b.ensures.column_after c.append_meets-c.ensures.column_after c.append_meets.ensures.column_after
