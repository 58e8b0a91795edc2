use mathlib.Core.Path.{refl}
use Rattle.std.proofs.Common.{rules, ◌≡◌, sym, ◌∙◌}
use Rattle.std.proofs.lemmas.Iterator.{YieldsList-from_slice, IsFirst-from_position, index_from_first}
use borrow.Author.Tests.{tests}
use Rattle.tiles.specs.Described.{position}
use Rattle.tiles.proofs.Places.{position_hit, position_miss}
use Rattle.tiles.proofs.place.position.Goals as goal

pub returns : goal.returns
returns c =
    c.unwrap_or.ensures
    ∙ sym (index_from_first (position c.args.x) (λ y. y ≡ c.args.x) (λ y. y ≡ c.args.x → ⊥) refl (position_hit c.args.x) (position_miss c.args.x) c.args.xs.now c.position.result
    (IsFirst-from_position _ _ _ (λ y. y ≡ c.args.x) (λ y. y ≡ c.args.x → ⊥) c.position.ensures.ran (YieldsList-from_slice c.args.xs.now cc) (λ y q k. search (rules, tests)) (λ y q k. search (rules, tests))))
