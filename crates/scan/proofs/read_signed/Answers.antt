use Rattle.std.proofs.Common.{arith, drop}
use mir.Facts.{to_z_pos}
use mir.Syntax.{w64}
use Rattle.scan.proofs.Numbers.{minus_none, minus_zero, minus_all, plus_none, plus_all, kept}
use Rattle.scan.proofs.read_signed.Goals as goal

pub returns-in_err-read_number-in-Some : goal.returns-in_err-read_number-in-Some
returns-in_err-read_number-in-Some c = rw c.from_residual.ensures (minus_none (drop c.args.at c.args.s.now) c.in-Some.ensures (rw c.unsigned_abs.ensures.value at c.in_err-read_number-in-Some.ensures.told))

pub returns-in-0-default : goal.returns-in-0-default
returns-in-0-default c = minus_zero (drop c.args.at c.args.s.now) c.in-Some.ensures (rw c.unsigned_abs.ensures.value at c.in_ok-read_number-in-Some.ensures.told) (omega arith)

pub returns-in_default : goal.returns-in_default
returns-in_default c = minus_all (drop c.args.at c.args.s.now) c.in-Some.ensures (rw c.unsigned_abs.ensures.value at c.in_ok-read_number-in-Some.ensures.told) (omega arith) (kept c.negative.result c.negative.ensures (omega (arith, c.in_ok-read_number-in-Some.ensures.small)))

pub returns-in_err-n-in-None : goal.returns-in_err-n-in-None
returns-in_err-n-in-None c = rw c.from_residual-in_err-n-in-None.ensures (plus_none (drop c.args.at c.args.s.now) c.in-None.ensures c.in_err-n-in-None.ensures.told)

pub returns-in_ok-n-in-None : goal.returns-in_ok-n-in-None
returns-in_ok-n-in-None c = plus_all (drop c.args.at c.args.s.now) c.in-None.ensures c.in_ok-n-in-None.ensures.told (to_z_pos w64 (omega (arith, c.in_ok-n-in-None.ensures.small)))
