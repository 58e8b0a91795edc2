use mathlib.Core.Path.{◌∙◌}
use Rattle.results.proofs.Told.{lists_given, worked-told}
use Rattle.results.proofs.worked.publish.Goals as goal

pub publish_lists-requires : goal.publish_lists-requires
publish_lists-requires c =
    rw (c.first.ensures.keys, c.first.ensures.times)
    (lists_given c.requires (c.publish_fixes.ensures.same.long_numbers ∙ c.publish_tiles-tiles.auto.res ∙ c.clear_results.ensures.same.long_numbers))

pub returns-clause-told : goal.returns-clause-told
returns-clause-told c = worked-told c.requires c.clear_results.ensures.zeros c.publish_tiles-tiles.ensures c.publish_fixes.ensures.told (rw (c.first.ensures.keys, c.first.ensures.times) at c.publish_lists.ensures)
