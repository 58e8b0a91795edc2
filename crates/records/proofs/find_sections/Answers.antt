use Rattle.records.proofs.Records.{sections_stand}
use Rattle.records.proofs.find_sections.Goals as goal

pub returns : goal.returns
returns c = sections_stand c.args.from c.count_lines-old.ensures c.count_lines-new.ensures c.count_lines-out.ensures c.count_lines-pending.ensures
