use mathlib.Core.Path.{sym, ◌∙◌}
use Rattle.grid.proofs.Chains.{pointwise_same}
use Rattle.tiles.proofs.Walking.{kept_none, kept_one}
use Rattle.tiles.proofs.tile.write_kept.Goals as goal

pub returns-then-eq : goal.returns-then-eq
returns-then-eq c = kept_none _ _ _ _ _ _ c.requires.0.0 c.requires.0.1 (sym (pointwise_same c.args.upper.now c.args.lower.now) ∙ sym c.eq.ensures ∙ c.if-eq.true)

pub returns-else-eq : goal.returns-else-eq
returns-else-eq c = kept_one _ _ _ _ _ _ c.requires.0.0 c.requires.0.1 c.requires.1.0 c.requires.1.1 (sym (pointwise_same c.args.upper.now c.args.lower.now) ∙ sym c.eq.ensures ∙ c.if-eq.false) c.write_tile.ensures
