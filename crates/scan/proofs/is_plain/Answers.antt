use Rattle.std.proofs.Common.{arith, length, ◌-◌}
use Rattle.scan.proofs.Numbers.{plain_zero, plain_other, plain_none}
use Rattle.scan.proofs.is_plain.Goals as goal

pub returns-in-48 : goal.returns-in-48
returns-in-48 c = plain_zero c.args.s.now (length c.args.s.now - 1) (omega arith) (omega arith) (omega arith) c.starts_with_digit.ensures

pub returns-in-len1-up : goal.returns-in-len1-up
returns-in-len1-up c = rw c.is_ascii_digit.ensures.value (plain_other c.args.s.now (omega arith) (λ e. omega arith))

pub returns-in-empty : goal.returns-in-empty
returns-in-empty c = plain_none c.args.s.now (omega arith)
