use Rattle.seeking.proofs.Seeking.{own_room, in_room, out_room, window_lent, runs-lent, window_parted, sought}
use mathlib.Core.Path.{refl}
use Rattle.seeking.proofs.seek.seek_window.Goals as goal

pub search_window-at-requires : goal.search_window-at-requires
search_window-at-requires c = (own_room c.requires.seeks.1.1 _ _ refl refl, (own_room c.requires.seeks.1.1 _ _ refl refl, (in_room c.requires.seeks.1.1, out_room c.requires.seeks.1.1)))

pub find_window-t-requires : goal.find_window-t-requires
find_window-t-requires c = record { scratch = c.requires.scratch; lent_runs = (runs-lent c.requires.seeks.0, window_lent c.requires.seeks.1.1); parted = window_parted c.requires.seeks.0 c.requires.seeks.1.0 c.requires.seeks.1.1 c.search_window-at.ensures refl refl refl refl }

pub returns : goal.returns
returns c = sought c.requires.seeks.0 c.requires.seeks.1.0 c.requires.seeks.1.1 c.search_window-at.ensures refl refl refl refl c.args.upper.now c.find_window-t.ensures
