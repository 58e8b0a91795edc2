use Rattle.std.proofs.Common.{drop}
use Rattle.form.specs.Read.{line, row}
use Rattle.records.proofs.Records.{many_most, rows_stored}
use Rattle.records.proofs.store_rows.Goals as goal

pub returns : goal.returns
returns c = rows_stored (many_most (line c.args.name.now row) c.args.x.count (drop c.args.x.first c.args.s.now)) c.requires.room_keys c.requires.room_values c.requires.room_times c.requires.room_diffs (c.fill.ensures.after (λ y e. e)) (c.fill-2.ensures.after (λ y e. e)) (c.fill-3.ensures.after (λ y e. e)) (c.fill-4.ensures.after (λ y e. e)) c.read_rows.ensures
