use Rattle.backends.proofs.Signed.{listed_test}
use Rattle.backends.proofs.listed.is_listed.Goals as goal

pub returns : goal.returns
returns c = listed_test c.args.sum c.ranges.sum
