use Rattle.std.proofs.Common.{drop}
use Rattle.form.specs.Read.{line, pair}
use Rattle.records.proofs.Records.{many_most, pairs_stored}
use Rattle.records.proofs.store_pairs.Goals as goal

pub returns : goal.returns
returns c = pairs_stored (many_most (line c.args.name.now pair) c.args.x.count (drop c.args.x.first c.args.s.now)) c.requires.room_keys c.requires.room_times (c.fill.ensures.after (λ y e. e)) (c.fill-2.ensures.after (λ y e. e)) c.read_pairs.ensures
