use native.Mathlib.Omega.{arith}
use Rattle.demands.proofs.Lending.{head_last, head_same, head_other}
use Rattle.demands.proofs.sizes.end_at.Goals as goal

pub returns-then-i-keys : goal.returns-then-i-keys
returns-then-i-keys c = (head_last c.args.keys.now c.args.i (omega arith), omega arith)

pub returns-then-keys-i : goal.returns-then-keys-i
returns-then-keys-i c = (head_same c.args.keys.now c.args.i (omega arith) (omega arith), omega arith)

pub returns-else-keys-i : goal.returns-else-keys-i
returns-else-keys-i c = (head_other c.args.keys.now c.args.i (omega arith) (omega arith), omega arith)
