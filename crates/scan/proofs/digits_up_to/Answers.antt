use Rattle.std.proofs.Common.{arith, sym, ◌∙◌, rules}
use Rattle.scan.proofs.Numbers.{counting_stop, counting_over, counting_more, counting_end}
use Rattle.scan.proofs.digits_up_to.Goals as goal

pub returns-then-not-is_ascii_digit : goal.returns-then-not-is_ascii_digit
returns-then-not-is_ascii_digit c = record { told = counting_stop c.loop-i.invariant (omega arith) (sym c.is_ascii_digit.ensures.value ∙ c.if-not-is_ascii_digit.true); small = c.loop-i.invariant.small; inside = omega arith }

pub returns-then-most-digit : goal.returns-then-most-digit
returns-then-most-digit c = record { told = counting_over c.loop-i.invariant (omega arith) _ (sym c.is_ascii_digit.ensures.value ∙ c.if-not-is_ascii_digit.false) c.from-digit.ensures c.requires c.if-most-digit.true; small = search rules; inside = search rules }

pub loop-i-preserved : goal.loop-i-preserved
loop-i-preserved c = counting_more c.loop-i.invariant (omega arith) _ (sym c.is_ascii_digit.ensures.value ∙ c.if-not-is_ascii_digit.false) c.from-digit.ensures c.requires c.if-most-digit.false

pub returns : goal.returns
returns c = record { told = counting_end c.loop-i.invariant (omega arith) (omega arith); small = c.loop-i.invariant.small; inside = omega arith }
