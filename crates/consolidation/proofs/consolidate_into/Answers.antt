use Rattle.consolidation.proofs.Entries.{ready, places_sorted, consolidated_front}
use Rattle.consolidation.proofs.consolidate_into.Goals as goal

pub add_up-requires : goal.add_up-requires
add_up-requires c = ready c.requires.0 c.requires.1 c.count_up.ensures c.sort_places.ensures

pub returns : goal.returns
returns c = let p = places_sorted c.requires.0 c.requires.1 c.count_up.ensures c.sort_places.ensures in
    (consolidated_front c.requires.0 c.requires.1 p c.add_up.ensures, p)
