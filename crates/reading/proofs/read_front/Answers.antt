use Rattle.reading.proofs.Wholes.{lower_room, upper_room, held_room, front_read}
use Rattle.reading.proofs.read_front.Goals as goal

pub clear_from-requires : goal.clear_from-requires
clear_from-requires c = lower_room c.look-found.ensures c.found_or_nothing.ensures c.args.lower.now c.requires.room_lower c.look-found.auto.lower

pub clear_from-requires-2 : goal.clear_from-requires-2
clear_from-requires-2 c = upper_room c.look-found.ensures c.found_or_nothing.ensures c.args.upper.now c.requires.room_upper c.look-found.auto.upper

pub clear_from-requires-3 : goal.clear_from-requires-3
clear_from-requires-3 c = held_room c.look-found.ensures c.found_or_nothing.ensures c.args.held.now c.requires.room_held c.look-found.auto.held

pub returns : goal.returns
returns c = front_read c.args.lower.now c.args.upper.now c.args.held.now c.look-found.ensures c.found_or_nothing.ensures c.requires.room_lower c.requires.room_upper c.requires.room_held c.look-found.auto.lower c.look-found.auto.upper c.look-found.auto.held c.clear_from.ensures c.clear_from-2.ensures c.clear_from-3.ensures
