use Rattle.scan.proofs.Numbers.{word_is, word_not}
use Rattle.scan.proofs.read_word.Goals as goal

pub returns-then-starts_with : goal.returns-then-starts_with
returns-then-starts_with c = word_is c.args.w.now c.args.s.now c.args.at (rw c.rest.ensures at c.starts_with.ensures.value) c.if-starts_with.true

pub returns-else-starts_with : goal.returns-else-starts_with
returns-else-starts_with c = word_not c.args.w.now c.args.s.now c.args.at (rw c.rest.ensures at c.starts_with.ensures.value) c.if-starts_with.false
