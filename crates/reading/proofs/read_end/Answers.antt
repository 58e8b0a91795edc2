use Rattle.reading.proofs.Heads.{end_more}
use Rattle.reading.proofs.read_end.Goals as goal

pub returns-then-end-s : goal.returns-then-end-s
returns-then-end-s c = end_more c.args.s.now c.args.n c.args.at c.in_ok-end.end (rw c.in_ok-end.ensures.ok_part at c.read_word.ensures) c.if-end-s.true
