use Rattle.fronts.proofs.Fronting.{fronts_within, fronts_ask, fronts_give}
use Rattle.fronts.proofs.correct_fronts.Goals as goal

pub slice_bounds-correct_window-end : goal.slice_bounds-correct_window-end
slice_bounds-correct_window-end c = (fronts_within c.requires.full.0 c.requires.full.1).0

pub slice_bounds-correct_window-end-2 : goal.slice_bounds-correct_window-end-2
slice_bounds-correct_window-end-2 c = (fronts_within c.requires.full.0 c.requires.full.1).1.0

pub slice_bounds-correct_window-end-3 : goal.slice_bounds-correct_window-end-3
slice_bounds-correct_window-end-3 c = (fronts_within c.requires.full.0 c.requires.full.1).1.1.0

pub slice_bounds-correct_window-end-4 : goal.slice_bounds-correct_window-end-4
slice_bounds-correct_window-end-4 c = (fronts_within c.requires.full.0 c.requires.full.1).1.1.1.0

pub slice_bounds-correct_window-end-5 : goal.slice_bounds-correct_window-end-5
slice_bounds-correct_window-end-5 c = (fronts_within c.requires.full.0 c.requires.full.1).1.1.1.1

pub correct_window-requires : goal.correct_window-requires
correct_window-requires c = record { wide = c.requires.wide; corrects = fronts_ask c.requires.full.0 c.requires.full.1 }

pub returns : goal.returns
returns c = fronts_give c.requires.full.0 c.requires.full.1 c.correct_window.ensures
