use Rattle.exports.proofs.Exporting.{print_short, print_long}
use Rattle.exports.proofs.daniskol_answer.Goals as goal

pub returns-then-out-lt-TEXT_SIZE : goal.returns-then-out-lt-TEXT_SIZE
returns-then-out-lt-TEXT_SIZE c = print_short _ _ c.if-out-lt-TEXT_SIZE.true

pub returns : goal.returns
returns c = print_long c.if-out-lt-TEXT_SIZE.false c.answer.ensures
