use borrow.Author.Rules.{rules}
use mathlib.Core.Path.{ap}
use Rattle.times.specs.Meets.{optional}
use Rattle.advances.proofs.Buffers.{joined_held, edits_settled, lent_held, held_lent, edits_left}
use Rattle.advances.proofs.buffer.advance_edits.Goals as goal

pub consolidate_front-requires : goal.consolidate_front-requires
consolidate_front-requires c = held_lent c.requires (joined_held (lent_held c.requires) _ (record { values = search rules; diffs = search rules }) (search rules) c.in-None-advance_in_place.ensures)

pub returns-in-None-advance_in_place : goal.returns-in-None-advance_in_place
returns-in-None-advance_in_place c = edits_settled (lent_held c.requires) (ap optional c.in-Some.is) c.in-None-advance_in_place.ensures c.consolidate_front.ensures

pub returns-in-None : goal.returns-in-None
returns-in-None c = edits_left _ (ap optional c.in-None.is)
