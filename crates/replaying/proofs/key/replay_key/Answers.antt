use Rattle.replaying.proofs.Loading.{idle_settled, load_asks, load_bounds, rounds_ask, key_returns}
use borrow.Author.Tests.{eqb-true, eqb-false}
use mathlib.Core.Path.{sym, ◌∙◌}
use Rattle.replaying.proofs.key.replay_key.Goals as goal

pub returns-then-is_empty : goal.returns-then-is_empty
returns-then-is_empty c = idle_settled c.requires.0 c.requires.1 _ _ (eqb-true _ 0 (sym c.is_empty.ensures ∙ c.if-is_empty.true))

pub load_key-l-requires : goal.load_key-l-requires
load_key-l-requires c = load_asks c.requires.0 c.requires.1 (eqb-false _ 0 (sym c.is_empty.ensures ∙ c.if-is_empty.false))

pub slice_bounds-replay_rounds-end : goal.slice_bounds-replay_rounds-end
slice_bounds-replay_rounds-end c = (load_bounds c.requires.0 c.requires.1 _ _ _ _ _ _ c.load_key-l.ensures c.load_key-l.auto.sv c.load_key-l.auto.st c.load_key-l.auto.sd).0

pub slice_bounds-replay_rounds-end-2 : goal.slice_bounds-replay_rounds-end-2
slice_bounds-replay_rounds-end-2 c = (load_bounds c.requires.0 c.requires.1 _ _ _ _ _ _ c.load_key-l.ensures c.load_key-l.auto.sv c.load_key-l.auto.st c.load_key-l.auto.sd).1.0

pub slice_bounds-replay_rounds-end-3 : goal.slice_bounds-replay_rounds-end-3
slice_bounds-replay_rounds-end-3 c = (load_bounds c.requires.0 c.requires.1 _ _ _ _ _ _ c.load_key-l.ensures c.load_key-l.auto.sv c.load_key-l.auto.st c.load_key-l.auto.sd).1.1

pub replay_rounds-requires : goal.replay_rounds-requires
replay_rounds-requires c = rounds_ask c.requires.0 c.requires.1 _ _ _ _ _ _ c.load_key-l.ensures c.load_key-l.auto.sv c.load_key-l.auto.st c.load_key-l.auto.sd c.load_key-l.auto.far c.load_key-l.auto.xv c.load_key-l.auto.xt c.load_key-l.auto.xd c.load_key-l.auto.joined c.load_key-l.auto.places

pub returns : goal.returns
returns c = key_returns c.requires.0 c.requires.1 _ _ _ _ _ _ c.load_key-l.ensures c.load_key-l.auto.sv c.load_key-l.auto.st c.load_key-l.auto.sd _ _ _ _ _ _ _ _ c.replay_rounds.ensures
