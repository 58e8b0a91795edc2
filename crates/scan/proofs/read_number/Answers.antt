use Rattle.scan.proofs.Numbers.{number_not, number_bad, number_read}
use Rattle.scan.proofs.read_number.Goals as goal

pub returns-then-not-is_plain-clause-told : goal.returns-then-not-is_plain-clause-told
returns-then-not-is_plain-clause-told c = number_not c.args.most c.args.s.now c.args.at (rw c.rest-digits.ensures at c.is_plain.ensures) c.if-not-is_plain.true

pub returns-in_err-n-clause-told : goal.returns-in_err-n-clause-told
returns-in_err-n-clause-told c = rw c.from_residual.ensures (number_bad c.args.most c.args.s.now c.args.at (rw c.rest-digits.ensures at c.is_plain.ensures) c.if-not-is_plain.false (rw c.rest-digits.ensures at c.in_err-n.ensures.told))

pub returns-clause-told : goal.returns-clause-told
returns-clause-told c = number_read c.args.most c.args.s.now c.args.at (rw c.rest-digits.ensures at c.is_plain.ensures) _ _ c.if-not-is_plain.false (rw c.rest-digits.ensures at c.in_ok-n.ensures.told)
