use native.Mathlib.Omega.{arith}
use Rattle.demands.proofs.Lending.{heads_end}
use Rattle.demands.proofs.sizes.count_heads.Goals as goal

pub returns : goal.returns
returns c = heads_end c.args.keys.now c.loop-i.i (omega arith) c.loop-i.invariant.0
