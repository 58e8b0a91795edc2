use native.Mathlib.Omega.{arith}
use borrow.Author.Rules.{rules}
use Rattle.demands.specs.Lending.{moments_needed}
use Rattle.demands.proofs.Lending.{heads_long}
use Rattle.demands.proofs.sizes.moments_needed.Goals as goal

pub overflow_add-count_heads : goal.overflow_add-count_heads
overflow_add-count_heads c = record { fits = omega (arith, c.count_heads.ensures, c.count_heads-2.ensures, heads_long c.args.newkeys.now, heads_long c.args.pendingkeys.now) }

pub returns : goal.returns
unfolding moments_needed
returns c = search rules
